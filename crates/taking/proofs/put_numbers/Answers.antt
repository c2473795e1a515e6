-- `put_numbers`: a turn of the loop copies one more number, and at the end the part is the row's front.
use Rattle.std.proofs.Common.{refl, arith}
use Rattle.taking.specs.TakingLaws.{copied_none, copied_length, copied_more, copied_end}
use Rattle.taking.proofs.put_numbers.Goals as goal

pub loop-k-init : goal.loop-k-init
loop-k-init c = copied_none

pub loop-k-preserved : goal.loop-k-preserved
loop-k-preserved c = copied_more c.loop-k.invariant (omega (arith, copied_length c.loop-k.invariant)) refl

pub returns : goal.returns
returns c = copied_end c.loop-k.invariant (omega arith) (omega (arith, copied_length c.loop-k.invariant))
