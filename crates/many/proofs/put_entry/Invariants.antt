-- The invariant of `many::put_entry`: the first k numbers of the entry are in the part. Assumes nothing.
use Rattle.std.proofs.Common.{◌-◌, length}
use Rattle.many.specs.Entries.{EntryPut}
use Rattle.many.proofs.put_entry.Given as goal

abbrev pub invariant-loop-k : goal.invariant-loop-k
invariant-loop-k l = EntryPut l.entry l.fn.part l.part l.k

abbrev pub decreases-loop-k : goal.decreases-loop-k
decreases-loop-k l = length l.fn.part - l.k
