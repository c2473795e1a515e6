-- The invariant of `many::fill_studies`: k studies are filled, and their entries are in the answers. Assumes nothing.
use Rattle.std.proofs.Common.{◌≡◌, ◌-◌, length}
use Rattle.model.specs.Many.{arrivals_size, fill_entry, list_after_fillings, record_after_fillings}
use Rattle.many.specs.Studies.{StudiesSoFar}
use Rattle.many.proofs.fill_studies.Given as goal

abbrev pub invariant-loop-k : goal.invariant-loop-k
invariant-loop-k l = record {
  done : StudiesSoFar (fill_entry l.laws l.fn.bytes l.table l.arrivals l.fn.out) (record_after_fillings l.laws l.fn.bytes l.table l.arrivals l.fn.out)
      (list_after_fillings l.laws l.fn.bytes l.table l.arrivals l.fn.out) (arrivals_size l.n l.steps) l.count l.fn.answers
      l.bytes l.out l.answers l.from l.to l.k;
  same : length l.out ≡ length l.fn.out;
}

abbrev pub decreases-loop-k : goal.decreases-loop-k
decreases-loop-k l = l.count - l.k
