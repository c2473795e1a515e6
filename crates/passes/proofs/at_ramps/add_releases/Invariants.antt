-- The releases of the first j listed cells are added.
use Rattle.std.proofs.Common.{ℕ, ◌-◌}
use Rattle.passes.specs.Tables.{held_col, queue_col, SumsKept}
use Rattle.passes.specs.RampList.{Upto}
use Rattle.passes.specs.AddReleases.{AddRequires, AddSoFar}
use Rattle.passes.proofs.at_ramps.add_releases.Given as goal

abbrev pub invariant-loop-j : goal.invariant-loop-j
invariant-loop-j l = record {
  upto : Upto l.ramps l.j;
  kept : SumsKept l.fn.state l.state;
  added : (give wait : ℕ → ℕ) → AddRequires give wait l.n l.ramps l.cell l.release l.waiting (held_col l.fn.state) (queue_col l.fn.state)
      → AddSoFar give wait l.n l.cell (held_col l.fn.state) (queue_col l.fn.state) (held_col l.state) (queue_col l.state) l.sent l.on_road l.at_ramps l.j;
}

abbrev pub decreases-loop-j : goal.decreases-loop-j
decreases-loop-j l = l.ramps - l.j
