-- The loop of `put_numbers`: the first k numbers of the row are in the part.
use Rattle.std.proofs.Common.{◌-◌, length}
use Rattle.taking.specs.TakingLaws.{CopiedRow}
use Rattle.taking.proofs.put_numbers.Given as goal

abbrev pub invariant-loop-k : goal.invariant-loop-k
invariant-loop-k l = CopiedRow l.row l.initial.part l.part l.k

abbrev pub decreases-loop-k : goal.decreases-loop-k
decreases-loop-k l = length l.initial.part - l.k
