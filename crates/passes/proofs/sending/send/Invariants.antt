-- The first i cells have sent, and the queues are kept.
use Rattle.std.proofs.Common.{◌-◌, ◌+◌, ◌≡◌, length}
use Rattle.passes.specs.Tables.{held_col, cumulative_col, rest_col, QueuesKept}
use Rattle.passes.specs.Outflows.{pass_of, SendSoFar}
use Rattle.passes.proofs.sending.send.Given as goal

abbrev pub invariant-loop-i : goal.invariant-loop-i
invariant-loop-i l = record {
  kept : QueuesKept l.fn.state l.state;
  places : length l.y ≡ l.n + 1;
  sent : SendSoFar l.n (pass_of l.first l.share l.demand l.room (held_col l.fn.state) (cumulative_col l.fn.state)) (rest_col l.fn.state) l.fn.y
      (held_col l.state) (rest_col l.state) (cumulative_col l.state) l.y l.entering l.on_road l.i;
}

abbrev pub decreases-loop-i : goal.decreases-loop-i
decreases-loop-i l = l.n - l.i
