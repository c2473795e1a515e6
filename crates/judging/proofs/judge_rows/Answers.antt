-- Each turn's road and rows are those of its step; so the step is judged as the model judges it. The rest follows from the laws of specs/.
use Rattle.std.proofs.Common.{◌≡◌, refl, sym, ap, subst, ◌∙◌, inl, inr, ℕ, ◌+◌, ◌-◌, ◌*◌, List, length, take, drop, arith, length-take}
use Rattle.numbers.specs.TablesLaws.{part_row, part_length}
use Rattle.model.specs.declared.Road.{Road}
use Rattle.model.specs.declared.State.{State}
use Rattle.model.specs.Refusals.{refusal_number, fault}
use Rattle.model.specs.Record.{row_numbers}
use Rattle.model.specs.Reading.{study_by}
use Rattle.model.specs.Running.{end_with, end_answer}
use Rattle.model.specs.Schedules.{Study, places, with_capacity}
use Rattle.fields.specs.FieldsLaws.{length_row}
use Rattle.theory.specs.OpenRoad.{RoadTurn, on_road_lem, turn_road, turn_on_road}
use Rattle.outflows.specs.declared.Ledger.{Ledger}
use Rattle.outflows.specs.Columns.{state_of}
use Rattle.judging.specs.declared.Judged.{Judged}
use Rattle.judging.specs.JudgedStep.{JudgeStepGives}
use Rattle.judging.specs.JudgingLoop.{JudgeTurn, judge_step_ready}
use Rattle.judging.specs.WrittenStates.{JudgedSoFar, judged_none, judged_more, judged_fault, judged_end, row_ends_by}
use Rattle.judging.proofs.judge_rows.Goals as goal
use Rattle.judging.proofs.judge_rows.Goals.{After-read_row, then-table-ne0, else-table-ne0}

-- the study, the state of the columns, the step's road, its row as it is lent, and the schedule's row of outflows
abbrev Of : After-read_row → Study
Of c = study_by c.args.bytes.now c.args.table.now c.args.r c.args.s c.args.steps

abbrev Now : After-read_row → State
Now c = state_of c.loop-k.l c.loop-k.cells c.loop-k.ramps c.loop-k.cumulative

abbrev On : After-read_row → Road
On c = with_capacity c.args.r c.if-table-ne0.capacity

abbrev Row : After-read_row → List ℕ
Row c = take (row_numbers c.args.r.n) c.read_row.new.r

abbrev Outflows : After-read_row → List ℕ
Outflows c =
    let from = c.loop-k.k * places (Of c) in
    take (from + places (Of c) - from) (drop from c.args.schedule.now)

-- the road of the turn: with the capacities of its step, or unchanged with an empty table
road_turn : (c : After-read_row) → RoadTurn (Of c) (with_capacity c.args.r c.loop-k.capacity) c.loop-k.k (On c)
road_turn c = record {
  before = c.loop-k.invariant.road;
  came = elim c.if-table-ne0.branch [
    | then-table-ne0 w ↦ inl (w.if-table-ne0.true, ap (with_capacity c.args.r) (w.capacity-is ∙ w.step_capacities-capacity.ensures))
    | else-table-ne0 w ↦ inr (w.if-table-ne0.false, ap (with_capacity c.args.r) w.capacity-is)
  ];
}

-- the facts about a turn
turn : (c : After-read_row) → JudgeTurn (Of c) c.args.schedule.now (Now c) c.loop-k.k (On c) (Row c) (Outflows c)
turn c =
    let a = Of c in
    let zs = c.args.schedule.now in
    let k = c.loop-k.k in
    record {
      ok = c.requires.readable.ok;
      obeyed = c.loop-k.invariant.judged.obeyed;
      left = c.loop-k-test.true;
      road = turn_road (road_turn c);
      numbers = c.read_row.ensures;
      outflows = part_row zs (places a) k (k * places a) refl;
      size = part_length zs (k * places a) (places a) (row_ends_by a k (length zs) (omega (arith, c.requires.right)) c.loop-k-test.true);
    }

-- the step's fault, and the state after it
abbrev Gives : After-read_row → Judged → List ℕ → List ℕ → List ℕ → Type 0
Gives c j held queue cumulative =
    JudgeStepGives (On c) (Now c) (Row c) (Outflows c) (fault (refusal_number j.refusal) j.place) (state_of j.ledger held queue cumulative)

pub loop-k-init : goal.loop-k-init
loop-k-init c =
    let a = study_by c.args.bytes.now c.args.table.now c.args.r c.args.s c.args.steps in
    let s : state_of c.of-l.result c.args.s.held c.args.s.queue c.args.s.cumulative ≡ c.args.s =
    ap (λ (l : Ledger). state_of l c.args.s.held c.args.s.queue c.args.s.cumulative) c.of-l.ensures in
    record {
      judged = subst
          (λ (u : State). JudgedSoFar a c.args.schedule.now c.args.writes c.args.held.now c.args.queue.now c.args.held.now c.args.queue.now u 0)
          (sym s) judged_none;
      road = on_road_lem;
      numbers = omega (arith, c.requires.readable.ok.road.cells);
    }

pub judge_step-j-requires : goal.judge_step-j-requires
judge_step-j-requires c = judge_step_ready (turn (goal.at.judge_step-j-requires c).After-read_row)

pub returns-then-number-ne0 : goal.returns-then-number-ne0
returns-then-number-ne0 c =
    let r = (goal.at.returns-then-number-ne0 c).After-read_row in
    let j = c.judge_step-j in
    let gave : Gives r j.result j.new.held j.new.queue j.new.cumulative = j.ensures (On r) in
    let e = ap end_answer c.at_step.ensures
    ∙ ap (λ (u : State). end_with (refusal_number j.result.refusal) c.loop-k.k j.result.place c.args.r u) c.state.ensures in
    let h = judged_fault c.loop-k.invariant.judged (turn r) gave (λ z. c.if-number-ne0.true (c.number.ensures ∙ z)) e in
    record { answer = h.0; held = h.1.0; queue = h.1.1 }

pub loop-k-preserved : goal.loop-k-preserved
loop-k-preserved c =
    let r = (goal.at.loop-k-preserved c).After-read_row in
    let j = c.judge_step-j in
    let gave : Gives r j.result j.new.held j.new.queue j.new.cumulative = j.ensures (On r) in
    let z : refusal_number j.result.refusal ≡ 0 = sym c.number.ensures ∙ c.if-number-ne0.false in
    let size : length (Row r) ≡ row_numbers c.args.r.n = ap length c.read_row.ensures ∙ length_row c.args.bytes.now c.args.r.n _ in
    record {
      judged = judged_more c.loop-k.invariant.judged (turn r) gave z c.requires.long c.put_places.ensures c.put_places-in-loop-k.ensures;
      road = turn_on_road (road_turn r);
      numbers = omega (arith, size, length-take (row_numbers c.args.r.n) c.read_row.new.r);
    }

pub returns : goal.returns
returns c =
    let e = ap end_answer c.complete.ensures ∙ ap (λ (u : State). end_with 0 0 0 c.args.r u) c.state-2.ensures in
    let h = judged_end c.loop-k.invariant.judged c.loop-k-test.false e in
    record { answer = h.0; held = h.1.0; queue = h.1.1 }
