-- Each turn's road is that of its step; so the passes give the engine's row and state, or its fault. The loop's facts follow from the laws of specs/.
use Rattle.std.proofs.Common.{◌≡◌, refl, sym, ap, subst, ◌∙◌, inl, inr, true, ℕ, ◌+◌, ◌-◌, List, length, take, drop, set, false}
use Rattle.numbers.specs.TablesLaws.{part_length}
use Rattle.model.specs.declared.Road.{Road}
use Rattle.model.specs.declared.State.{State}
use Rattle.model.specs.Road.{zeros}
use Rattle.model.specs.Refusals.{FaultAnswer, refusal_number, fault_answer}
use Rattle.model.specs.Record.{record_row}
use Rattle.model.specs.Reading.{study_by}
use Rattle.model.specs.Running.{end_with, end_answer}
use Rattle.model.specs.Longest.{queues_of}
use Rattle.model.specs.Schedules.{Study, places}
use Rattle.fields.specs.FieldsLaws.{HoldsRow}
use Rattle.theory.specs.OpenRoad.{step_road, OnRoad, RoadTurn, on_road_lem, turn_road, turn_on_road}
use Rattle.outflows.specs.declared.Ledger.{Ledger}
use Rattle.outflows.specs.Columns.{ledger_of, state_of}
use Rattle.passes.specs.Tables.{Table, road_in, state_in, cell_col, road_tables, store_capacities}
use Rattle.passes.specs.Step.{Arrays, StepRequires, StepGives}
use Rattle.counts.specs.declared.AtGate.{AtGate}
use Rattle.counts.specs.LongestSoFar.{queues_none, queues_more, queues_end}
use Rattle.running.specs.Steps.{RunTurn, same_places, step_ready, steps_all, ends_ran, ends_fault, steps_fault}
use Rattle.running.specs.Arrays.{empty_table, arrays_start, arrays_on, arrays_off}
use Rattle.running.specs.WeightedTotal.{weighted_none, weighted_more, weighted_end}
use Rattle.running.specs.LentList.{RowsInList, part_back, made_none, made_more, row_fits, table_end, table_fault_lem}
use Rattle.running.proofs.run_rows.Goals as goal
use Rattle.running.proofs.run_rows.Goals.{Joined-table-ne0, then-table-ne0, else-table-ne0, then-longs, else-longs}

-- the study, and the road of the tables
abbrev Of : Joined-table-ne0 → Study
Of c = study_by c.args.bytes.now c.args.table.now c.args.r c.args.s c.args.steps

abbrev On : Joined-table-ne0 → Table → Road
On c = road_in c.args.r c.list_ramps-size.result c.rates-rates.result

-- the tables of the turn: with the capacities of its step, or unchanged with an empty table of lanes
opened : (c : Joined-table-ne0) →
    RoadTurn (Of c) (On c c.loop-k.sizes) c.loop-k.k (On c c.if-table-ne0.sizes)
    × ((length c.if-table-ne0.sizes ≡ 3) × (cell_col c.if-table-ne0.sizes ≡ cell_col c.loop-k.sizes))
opened c =
    let v = c.loop-k.invariant in
    let sizes = c.loop-k.sizes in
    elim c.if-table-ne0.branch [
      | then-table-ne0 w ↦
          let e = w.sizes-is ∙ ap (set sizes 1) w.step_capacities-open_now.ensures in
          let st = store_capacities c.args.r c.list_ramps-size.result c.rates-rates.result sizes v.columns (step_road (Of c) c.loop-k.k).capacity in (
            record { before = v.road; came = inl (w.if-table-ne0.true, ap (On c) e ∙ st.road) },
            (ap length e ∙ st.columns, ap cell_col e ∙ st.cells),
          )
      | else-table-ne0 w ↦
          (record { before = v.road; came = inr (w.if-table-ne0.false, ap (On c) w.sizes-is) }, (ap length w.sizes-is ∙ v.columns, ap cell_col w.sizes-is))
    ]

-- the facts about a turn
turn : (c : Joined-table-ne0) →
    let q = On c c.if-table-ne0.sizes in
    RunTurn (Of c) (state_in c.loop-k.l c.loop-k.state) c.loop-k.k q (record_row c.args.bytes.now q.n c.loop-k.k)
turn c = record {
  ok = c.requires.readable.ok;
  ran = c.loop-k.invariant.rows.ran;
  left = c.loop-k-test.true;
  road = turn_road (opened c).0;
  numbers = ap (λ (x : Road). record_row c.args.bytes.now x.n c.loop-k.k) (turn_on_road (opened c).0).other;
}

-- the part of the list that the row goes to, and what the step requires from it
abbrev Part : Joined-table-ne0 → List ℕ
Part c = take (c.loop-k.to + places (Of c) - c.loop-k.to) (drop c.loop-k.to c.loop-k.out)

ready : (c : Joined-table-ne0) →
    StepRequires c.args.bytes.now c.loop-k.k (On c c.if-table-ne0.sizes) c.list_ramps-size.result.ramps (cell_col c.if-table-ne0.sizes)
    c.loop-k.l c.loop-k.state c.loop-k.work (Part c)
ready c =
    let v = c.loop-k.invariant in
    let on = turn_on_road (opened c).0 in
    let row = c.requires.readable.row c.loop-k.k c.loop-k-test.true in
    let fits = row_fits v.rows c.requires.readable.ok c.requires.long c.loop-k-test.true in
    step_ready (turn c) (subst (λ (x : Road). HoldsRow c.args.bytes.now x.n c.loop-k.k) (sym on.other) row)
    (rw (opened c).1.1 (arrays_on on v.arrays))
    (same_places (turn c) (part_length c.loop-k.out c.loop-k.to (places (Of c)) fits))

-- what the step gives
abbrev Gives : Joined-table-ne0 → FaultAnswer → Ledger → Table → Table → List ℕ → Type 0
Gives c = StepGives c.args.bytes.now c.loop-k.k (On c c.if-table-ne0.sizes) c.list_ramps-size.result.ramps (cell_col c.if-table-ne0.sizes)
    c.loop-k.l c.loop-k.state (Part c)

pub loop-k-init : goal.loop-k-init
loop-k-init c =
    let a = study_by c.args.bytes.now c.args.table.now c.args.r c.args.s c.args.steps in
    let e = c.list_ramps-size.ensures in
    let g = c.no_queue-gate.ensures in
    let t = road_tables c.args.r {z = c.list_ramps-size.result} c.list_ramps-size.new.cell zeros c.rates-rates.ensures c.sizes-sizes.ensures e.0 in
    let s : state_in c.of-l.result c.of_state-state.result ≡ c.args.s =
    ap (λ (l : Ledger). state_in l c.of_state-state.result) c.of-l.ensures ∙ ap (state_in (ledger_of c.args.s)) c.of_state-state.ensures in
    record {
      rows = subst (λ (u : State). RowsInList a c.args.out.now c.args.out.now u 0 0) (sym s) made_none;
      road = subst (OnRoad a) (sym t.road) on_road_lem;
      columns = t.columns;
      total = weighted_none _ _ _ _;
      arrays = subst (λ (cell : List ℕ). Arrays c.args.r c.list_ramps-size.result.ramps cell c.of_state-state.result empty_table) (sym t.cells)
          (arrays_start {a = a} c.args.s c.requires.readable.ok e.1.0 c.of_state-state.ensures);
      longest = rw (g.0, g.1) (queues_none _ _ _);
    }

pub step-step-requires : goal.step-step-requires
step-step-requires c = record { road = c.args.r; ready = ready (goal.at.step-step-requires c).Joined-table-ne0 }

pub returns-then-number-ne0 : goal.returns-then-number-ne0
returns-then-number-ne0 c =
    let j = (goal.at.returns-then-number-ne0 c).Joined-table-ne0 in
    let step = c.step-step in
    let gave : Gives j (fault_answer step.result.fault) step.result.ledger step.new.state step.new.work step.new.y = step.ensures c.args.r (ready j) in
    let v = c.loop-k.invariant in
    let t = c.tallied.ensures in
    let q = step.result.fault in
    let n : refusal_number q.refusal ≡ 0 → ⊥ = λ z. c.if-number-ne0.true (c.number.ensures ∙ z) in
    let same = gave.same n in
    let end = steps_fault (turn j) gave.found n in
    let e = ap end_answer (t.0 ∙ c.at_step-ended.ensures)
    ∙ ap (λ (u : State). end_with (refusal_number q.refusal) c.loop-k.k q.place c.args.r u)
    (c.to_state.ensures ∙ ap (λ (u : State). state_of c.loop-k.l u.held u.queue u.cumulative) same.0) in
    record {
      answer = ends_fault (turn j) gave.found n e;
      list = part_back c.loop-k.out c.loop-k.to (places (Of j)) same.1 ∙ table_fault_lem v.rows (turn j) gave.found n;
      weighted = t.1.1 ∙ weighted_end _ _ _ _ v.total end;
      longest = λ wanted. t.1.0 ∙ queues_end _ _ _ v.longest end wanted;
    }

pub loop-k-preserved : goal.loop-k-preserved
loop-k-preserved c =
    let j = (goal.at.loop-k-preserved c).Joined-table-ne0 in
    let step = c.step-step in
    let gave : Gives j (fault_answer step.result.fault) step.result.ledger step.new.state step.new.work step.new.y = step.ensures c.args.r (ready j) in
    let v = c.loop-k.invariant in
    let z : refusal_number step.result.fault.refusal ≡ 0 = sym c.number.ensures ∙ c.if-number-ne0.false in
    let made = made_more v.rows (turn j) gave.found z (gave.next z) (gave.outflows z) in
    let on = turn_on_road (opened j).0 in
    record {
      rows = made;
      road = on;
      columns = (opened j).1.0;
      total = weighted_more _ _ _ _ v.total made.ran (c.added-total.ensures.sum _ (record { at_gate = refl; on_road = refl; at_ramps = refl }))
          c.added-total.ensures.bound;
      arrays = arrays_off on (gave.arrays z);
      longest = queues_more _ _ _ v.longest c.requires.readable.ok.road.cells v.rows.ran.state made.ran.state (λ wanted. elim c.if-longs.branch [
        | then-longs w ↦
            ap (λ (g : AtGate). queues_of g.gate g.waiting c.if-longs.most) w.gate-is
            ∙ ap (queues_of w.raised-gate.result.gate w.raised-gate.result.waiting) w.most-is
            ∙ w.raised-gate.ensures
        | else-longs w ↦ absurd (let no : true ≡ false = sym wanted ∙ w.if-longs.false in cc)
      ]);
    }

pub returns : goal.returns
returns c =
    let v = c.loop-k.invariant in
    let t = c.tallied-2.ensures in
    let all = steps_all v.rows.ran c.loop-k-test.false in
    let e = ap end_answer (t.0 ∙ c.complete-ended.ensures) ∙ ap (λ (u : State). end_with 0 0 0 c.args.r u) c.to_state-2.ensures in
    record {
      answer = ends_ran v.rows.ran c.loop-k-test.false e;
      list = table_end v.rows c.loop-k-test.false;
      weighted = t.1.1 ∙ weighted_end _ _ _ _ v.total all;
      longest = λ wanted. t.1.0 ∙ queues_end _ _ _ v.longest all wanted;
    }
