-- None of the first t steps has an arrival, and there is no queue.
use Rattle.std.proofs.Common.{◌≡◌, ◌-◌}
use Rattle.numbers.specs.FirstLaws.{PassedTests}
use Rattle.joining.specs.JoiningLaws.{no_arrival}
use Rattle.joining.proofs.gate_idle.Given as goal

abbrev pub invariant-loop-t : goal.invariant-loop-t
invariant-loop-t l = record {
  no_queue : l.queue ≡ 0;
  passed : PassedTests (no_arrival l.bytes l.n) l.steps l.t;
}

abbrev pub decreases-loop-t : goal.decreases-loop-t
decreases-loop-t l = l.steps - l.t
