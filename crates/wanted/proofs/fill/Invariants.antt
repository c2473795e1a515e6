-- The loop keeps: the releases after step k are stored, and the least running sum after it is known.
use Rattle.wanted.specs.Loops.{TableFilled}
use Rattle.wanted.proofs.fill.Given as goal

abbrev pub invariant-loop-k : goal.invariant-loop-k
invariant-loop-k l = TableFilled l.start l.ceiling l.rate l.arrivals l.total l.after l.k l.table

abbrev pub decreases-loop-k : goal.decreases-loop-k
decreases-loop-k l = l.k
