-- The invariant of `filling::last_step::put_entries`: the first i entries are what entered, and so is the next. Assumes nothing.
use Rattle.std.proofs.Common.{◌≡◌, ◌-◌}
use Rattle.passes.specs.Supplies.{FilledTo}
use Rattle.filling.specs.LastStep.{entered_in}
use Rattle.filling.proofs.last_step.put_entries.Given as goal

abbrev pub invariant-loop-i : goal.invariant-loop-i
invariant-loop-i l = record {
  filled : FilledTo (entered_in l.share l.cumulative l.y) l.n l.fn.entries l.entries l.i;
  next : l.entering ≡ entered_in l.share l.cumulative l.y l.i;
}

abbrev pub decreases-loop-i : goal.decreases-loop-i
decreases-loop-i l = l.n - l.i
