-- In the loop of `counts::raise_ramps` the first i entries are raised.
use Rattle.std.proofs.Common.{◌≡◌, ◌-◌, max, length}
use Rattle.model.specs.Numbers.{at}
use Rattle.passes.specs.Supplies.{FilledTo}
use Rattle.counts.proofs.raise_ramps.Given as goal

abbrev pub invariant-loop-i : goal.invariant-loop-i
invariant-loop-i l = record {
  long : length l.ramps ≡ 64;
  raised : FilledTo (λ k. max (at l.initial.ramps k) (at l.queue k)) l.n l.initial.ramps l.ramps l.i;
}

abbrev pub decreases-loop-i : goal.decreases-loop-i
decreases-loop-i l = l.n - l.i
