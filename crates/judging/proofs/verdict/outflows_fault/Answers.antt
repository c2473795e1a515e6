-- On any road and state with the lent columns: a turn finds the fault of its place, and after the loop only the demand of the last place is tested.
use Rattle.std.proofs.Common.{◌≡◌, sym, ap, ◌∙◌, ℕ, ◌+◌, List, arith}
use Rattle.numbers.specs.FirstLaws.{faultless_none, faultless_more}
use Rattle.model.specs.declared.Road.{Road}
use Rattle.model.specs.declared.State.{State}
use Rattle.model.specs.Refusals.{refusal_number, fault}
use Rattle.model.specs.Judging.{outflow_fault_at}
use Rattle.theory.specs.StepLaws.{lowest_stop}
use Rattle.outflows.specs.declared.Ledger.{Ledger}
use Rattle.outflows.specs.Columns.{with_demands, with_gate, state_of}
use Rattle.outflows.specs.Rooms.{Rooms}
use Rattle.outflows.specs.CarriedValues.{carried_gate, carried_cell}
use Rattle.judging.specs.ProposedRow.{outflow_found, last_fault_lem, last_end}
use Rattle.judging.proofs.verdict.outflows_fault.Goals as goal
use Rattle.judging.proofs.verdict.outflows_fault.Goals.{After-outflow_refusal-refusal}

-- any road and any state with the columns that were lent
abbrev On : After-outflow_refusal-refusal → Road → Road
On c r = with_demands r c.args.n c.args.gate_capacity c.args.speed.now c.args.share.now c.args.capacity.now

abbrev From : After-outflow_refusal-refusal → Ledger → List ℕ → State
From c l queue = state_of (with_gate l c.args.gate_queue c.args.gate_cumulative) c.args.held.now queue c.args.cumulative.now

-- the refusal of a turn on them, from its rooms
found : (c : After-outflow_refusal-refusal) (r : Road) (l : Ledger) (queue row : List ℕ) → Rooms (On c r) (From c l queue) row c.args.room.now
    → refusal_number c.outflow_refusal-refusal.result ≡ outflow_fault_at (On c r) (From c l queue) row c.args.y.now c.loop-i.i
found c r l queue row rooms =
    let left = c.loop-i-test.true in
    outflow_found row c.args.y.now (c.loop-i.invariant r l queue row rooms).0 left (rooms c.loop-i.i left) c.entering-entering.ensures
    c.outflow_refusal-refusal.ensures

pub loop-i-init : goal.loop-i-init
loop-i-init c r l queue row rooms = (carried_gate _ _ _ c.gate_demand-demand.ensures, faultless_none)

pub returns-then-number-ne0 : goal.returns-then-number-ne0
returns-then-number-ne0 c r l queue row rooms =
    let e : c.loop-i.i ≡ c.loop-i.i + 0 = omega arith in
    let j = (goal.at.returns-then-number-ne0 c).After-outflow_refusal-refusal in
    ap (fault (refusal_number c.outflow_refusal-refusal.result)) e
    ∙ lowest_stop _ _ 0 (c.loop-i.invariant r l queue row rooms).1 (omega arith) (found j r l queue row rooms)
    (λ z. c.if-number-ne0.true (c.number.ensures ∙ z))

pub loop-i-preserved : goal.loop-i-preserved
loop-i-preserved c r l queue row rooms =
    let j = (goal.at.loop-i-preserved c).After-outflow_refusal-refusal in (
      carried_cell (On j r) (From j l queue) c.loop-i.i _ c.loop-i-test.true c.demand-demand.ensures,
      faultless_more (c.loop-i.invariant r l queue row rooms).1 (omega arith) (found j r l queue row rooms) (sym c.number.ensures ∙ c.if-number-ne0.false),
    )

pub returns-then-demand-y : goal.returns-then-demand-y
returns-then-demand-y c r l queue row rooms =
    let h = c.loop-i.invariant r l queue row rooms in
    last_fault_lem row c.args.y.now h.0 h.1 c.loop-i-test.false (omega arith)

pub returns : goal.returns
returns c r l queue row rooms =
    let h = c.loop-i.invariant r l queue row rooms in
    last_end row c.args.y.now h.0 h.1 c.loop-i-test.false (omega arith)
