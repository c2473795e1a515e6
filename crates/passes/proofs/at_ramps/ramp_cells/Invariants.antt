-- The ramps of the first i cells are listed.
use Rattle.std.proofs.Common.{◌-◌, ◌≡◌, ◌≤◌, length}
use Rattle.passes.specs.Supplies.{NoRamp}
use Rattle.passes.specs.RampList.{Listed, AtRamps}
use Rattle.passes.proofs.at_ramps.ramp_cells.Given as goal

abbrev pub invariant-loop-i : goal.invariant-loop-i
invariant-loop-i l = record {
  long : length l.cell ≡ 64;
  within : l.i ≤ l.n;
  listed : Listed (NoRamp l.ramp) l.i l.count l.cell;
  ramps : AtRamps l.ramp l.count l.cell;
}

abbrev pub decreases-loop-i : goal.decreases-loop-i
decreases-loop-i l = l.n - l.i
