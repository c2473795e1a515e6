-- On every road and state with the columns that are lent, the outflows of the first i places obey, and the carried numbers are those of place i.
use Rattle.std.proofs.Common.{List, ℕ, ◌+◌, ◌-◌}
use Rattle.numbers.specs.FirstLaws.{Faultless}
use Rattle.model.specs.declared.Road.{Road}
use Rattle.model.specs.Judging.{outflow_fault_at}
use Rattle.outflows.specs.declared.Ledger.{Ledger}
use Rattle.outflows.specs.Columns.{with_demands, with_gate, state_of}
use Rattle.outflows.specs.Rooms.{Rooms}
use Rattle.outflows.specs.CarriedValues.{CarriedValues}
use Rattle.judging.proofs.verdict.outflows_fault.Given as goal

abbrev pub invariant-loop-i : goal.invariant-loop-i
invariant-loop-i l =
    (r : Road) (t : Ledger) (queue row : List ℕ) →
    let q = with_demands r l.n l.gate_capacity l.speed l.share l.capacity in
    let s = state_of (with_gate t l.gate_queue l.gate_cumulative) l.held queue l.cumulative in
    Rooms q s row l.room → CarriedValues q s l.part l.before l.demand l.i × Faultless (outflow_fault_at q s row l.y) (l.n + 1) l.i

abbrev pub decreases-loop-i : goal.decreases-loop-i
decreases-loop-i l = l.n - l.i
