-- `many::put_entry`: one more number of the entry is in the part. Assumes nothing.
use Rattle.std.proofs.Common.{refl, arith, rules}
use Rattle.many.specs.Entries.{put_none, put_length, put_more, put_end}
use Rattle.many.proofs.put_entry.Goals as goal

pub loop-k-init : goal.loop-k-init
loop-k-init c = put_none

pub loop-k-preserved : goal.loop-k-preserved
loop-k-preserved c = put_more c.loop-k.invariant (omega (arith, put_length c.loop-k.invariant)) refl

pub returns : goal.returns
returns c = put_end c.loop-k.invariant c.requires (search rules) (omega (arith, put_length c.loop-k.invariant))
