-- The invariant of `filling::last_step::put_releases`: the first i entries are the row's releases. Assumes nothing.
use Rattle.std.proofs.Common.{◌-◌}
use Rattle.model.specs.Flow.{release_at}
use Rattle.model.specs.Record.{record_row}
use Rattle.passes.specs.Supplies.{FilledTo}
use Rattle.filling.proofs.last_step.put_releases.Given as goal

abbrev pub invariant-loop-i : goal.invariant-loop-i
invariant-loop-i l = FilledTo (release_at (record_row l.bytes l.n l.k)) l.n l.fn.releases l.releases l.i

abbrev pub decreases-loop-i : goal.decreases-loop-i
decreases-loop-i l = l.n - l.i
