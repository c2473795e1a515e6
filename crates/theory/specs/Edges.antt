-- docs/MODEL.md, 'Edges': the starred ones, and the printed run, as one fact about a table of rules. Assumes nothing.
use Rattle.std.specs.Prelude.{◌≡◌, true, ◌++◌, ℕ, ◌≤◌}
use Rattle.model.specs.Flow.{outflow_of}
use Rattle.flow.specs.FlowLaws.{outflow_exit, outflow_one}
use Rattle.model.specs.WorkedEdges.{holds, rules, run, edges_hold}

pub record StarredEdges : Type 0 where
  -- the rules and the run, computed
  pub computed : holds (rules ++ run) ≡ true
  -- b 750, F 0, room 0: the outflow is 1, if the demand is at least 1
  pub one : (demand : ℕ) → 1 ≤ demand → outflow_of 750 0 0 demand ≡ 1
  -- b 0: the supply never limits the outflow
  pub exit : (cumulative room demand : ℕ) → outflow_of 0 cumulative room demand ≡ demand

pub starred_edges : StarredEdges
starred_edges = record { computed = edges_hold; one = outflow_one; exit = outflow_exit }
