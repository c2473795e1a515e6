-- `many::put_row`: the gate's arrivals are put first, and then those of one more place. Assumes nothing.
use Rattle.std.proofs.Common.{arith}
use Rattle.many.specs.Putting.{places_first, places_more, places_end}
use Rattle.many.proofs.put_row.Goals as goal

pub loop-p-init : goal.loop-p-init
loop-p-init c = places_first c.requires c.row_start-start.ensures c.put_number-to.ensures.bytes c.put_number-to.ensures.next

pub loop-p-preserved : goal.loop-p-preserved
loop-p-preserved c =
    places_more c.requires c.loop-p.invariant (omega (arith, c.requires.places, c.loop-p-test.true)) c.put_number.ensures.bytes

pub returns : goal.returns
returns c = places_end c.requires c.loop-p.invariant (omega (arith, c.requires.places, c.loop-p-test.false))
