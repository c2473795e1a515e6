-- Each turn of the loop places one more byte of the text.
use Rattle.numbers.specs.PlacedText.{copied_none, copied_more}
use Rattle.listing.proofs.put.Goals as goal

pub loop-i-init : goal.loop-i-init
loop-i-init c = copied_none

pub loop-i-preserved : goal.loop-i-preserved
loop-i-preserved c = copied_more c.loop-i.invariant c.loop-i-test.true
