-- The invariant of `many::run_studies`: k studies are run, and their entries are in the answers. Assumes nothing.
use Rattle.std.proofs.Common.{◌≡◌, ◌-◌, length}
use Rattle.model.specs.Many.{arrivals_size, run_entry, list_after_runs, record_after_runs}
use Rattle.many.specs.Studies.{StudiesSoFar}
use Rattle.many.proofs.run_studies.Given as goal

abbrev pub invariant-loop-k : goal.invariant-loop-k
invariant-loop-k l = record {
  done : StudiesSoFar (run_entry l.fn.bytes l.table l.arrivals l.fn.out) (record_after_runs l.fn.bytes l.arrivals)
      (list_after_runs l.fn.bytes l.table l.arrivals l.fn.out) (arrivals_size l.n l.steps) l.count l.fn.answers
      l.bytes l.out l.answers l.from l.to l.k;
  same : length l.out ≡ length l.fn.out;
}

abbrev pub decreases-loop-k : goal.decreases-loop-k
decreases-loop-k l = l.count - l.k
