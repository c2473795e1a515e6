-- On any road and state with the lent columns: the fault of the releases is the verdict, or without one that of the outflows.
use Rattle.std.proofs.Common.{◌≡◌, sym, ◌∙◌, ℕ}
use Rattle.model.specs.declared.Road.{Road}
use Rattle.model.specs.declared.State.{State}
use Rattle.model.specs.Refusals.{fault_answer, refusal_number}
use Rattle.outflows.specs.declared.Ledger.{Ledger}
use Rattle.outflows.specs.Columns.{road_of, with_gate, state_of}
use Rattle.judging.specs.ProposedRow.{ReleaseFinding, verdict_fault, verdict_end}
use Rattle.judging.proofs.verdict.verdict.Goals as goal
use Rattle.judging.proofs.verdict.verdict.Goals.{After-releases-q}

-- any road and any state with the columns that were lent
abbrev On : After-releases-q → Road → Road
On c r = road_of r c.args.n c.args.gate_capacity c.args.speed.now c.args.wave.now c.args.share.now c.args.jam.now c.args.capacity.now

abbrev From : After-releases-q → Ledger → State
From c l = state_of (with_gate l c.args.gate_queue c.args.gate_cumulative) c.args.held.now c.args.queue.now c.args.cumulative.now

looked : (c : After-releases-q) (r : Road) (l : Ledger) {m : ℕ} → m ≡ refusal_number c.releases-q.result.refusal
    → ReleaseFinding (On c r) (From c l) c.args.row.now (fault_answer c.releases-q.result) m
looked c r l e = record {
  found = c.releases-q.ensures.fault (On c r) (with_gate l c.args.gate_queue c.args.gate_cumulative) c.args.cumulative.now;
  number = e;
}

pub returns-then-number-ne0-clause-fault : goal.returns-then-number-ne0-clause-fault
returns-then-number-ne0-clause-fault c r l =
    let j = (goal.at.returns-then-number-ne0-clause-fault c).After-releases-q in
    verdict_fault c.args.y.now (looked j r l c.number.ensures) c.if-number-ne0.true

pub returns-clause-fault : goal.returns-clause-fault
returns-clause-fault c r l =
    let j = (goal.at.returns-clause-fault c).After-releases-q in
    let on = On j r in
    let gate = with_gate l c.args.gate_queue c.args.gate_cumulative in
    let rooms = c.releases-q.ensures.rooms on gate c.args.cumulative.now (sym c.number.ensures ∙ c.if-number-ne0.false) in
    verdict_end c.args.y.now (looked j r l c.number.ensures) c.if-number-ne0.false (c.outflows_fault.ensures on gate c.args.queue.now c.args.row.now rooms)
