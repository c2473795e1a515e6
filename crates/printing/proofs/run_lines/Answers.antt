-- The tables of columns are those of the road and the state, so each turn puts the lines of a step of the record's study; the returns follow from the
-- loop's invariant.
use Rattle.std.proofs.Common.{◌≡◌, sym, refl, subst, ◌∙◌, arith, List, [], ℕ, ◌+◌, ◌<◌, take, set, replicate, length-take-le}
use Rattle.model.specs.declared.Road.{Road}
use Rattle.model.specs.Road.{zeros}
use Rattle.model.specs.Refusals.{refusal_number}
use Rattle.model.specs.Schedules.{Study}
use Rattle.model.specs.Record.{record_row}
use Rattle.model.specs.Reading.{study_by}
use Rattle.model.specs.Listing.{printed_run, HoldsPrinted}
use Rattle.theory.specs.OpenRoad.{same_road}
use Rattle.passes.specs.Tables.{Table, road_in, state_in, cell_col, RoadTables, road_tables}
use Rattle.passes.specs.Step.{StepRequires}
use Rattle.running.specs.Steps.{RunTurn, step_ready, ends_fault}
use Rattle.listing.specs.ListingLaws.{header_room}
use Rattle.printing.specs.Lines.{Printable, study_is, arrays_first, lined_same, lined_none, lined_more}
use Rattle.printing.specs.Lines.{lines_fit, lines_end, holds_fault, holds_run}
use Rattle.printing.proofs.run_lines.Goals as goal
use Rattle.printing.proofs.run_lines.Goals.{At-loop-k}

-- the tables, their road and their study, which is the arguments'
abbrev Sizes : At-loop-k → Table
Sizes c = set c.sizes-sizes.result 2 c.list_ramps-size.new.cell

abbrev On : At-loop-k → Road
On c = road_in c.args.r c.list_ramps-size.result c.rates-rates.result (Sizes c)

abbrev Of : At-loop-k → Study
Of c = study_by c.args.bytes.now [] (On c) (state_in c.of-l.result c.of_state-state.result) c.args.steps

tables : (c : At-loop-k) → RoadTables c.args.r c.list_ramps-size.result c.rates-rates.result (Sizes c) c.list_ramps-size.new.cell
tables c = road_tables c.args.r _ zeros c.rates-rates.ensures c.sizes-sizes.ensures c.list_ramps-size.ensures.0

begins : (c : At-loop-k) → Of c ≡ study_by c.args.bytes.now [] c.args.r c.args.s c.args.steps
begins c = study_is c.args.s (tables c) c.of_state-state.ensures c.args.bytes.now c.args.steps c.of-l.ensures

printable : (c : At-loop-k) → Printable c.args.bytes.now (Of c) c.args.buffer.now
printable c = subst (λ (b : Study). Printable c.args.bytes.now b c.args.buffer.now) (sym (begins c)) c.requires

ends : (c : At-loop-k) {after : List ℕ} {m : ℕ} → HoldsPrinted c.args.buffer.now (printed_run (Of c)) after m
    → HoldsPrinted c.args.buffer.now (printed_run (study_by c.args.bytes.now [] c.args.r c.args.s c.args.steps)) after m
ends c {after} {m} h = subst (λ (b : Study). HoldsPrinted c.args.buffer.now (printed_run b) after m) (begins c) h

-- the facts about a turn, and what the step requires with a row of zeros
turn : (c : At-loop-k) → c.loop-k.k < c.args.steps
    → RunTurn (Of c) (state_in c.loop-k.l c.loop-k.state) c.loop-k.k (On c) (record_row c.args.bytes.now (On c).n c.loop-k.k)
turn c l = record {
  ok = (printable c).readable.ok;
  ran = c.loop-k.invariant.lines.ran;
  left = l;
  road = same_road (Of c) refl c.loop-k.k;
  numbers = refl;
}

abbrev Row : At-loop-k → List ℕ
Row c = take (c.list_ramps-size.result.n + 1) (replicate 65 0)

ready : (c : At-loop-k) → c.loop-k.k < c.args.steps
    → StepRequires c.args.bytes.now c.loop-k.k (On c) c.list_ramps-size.result.ramps (cell_col (Sizes c)) c.loop-k.l c.loop-k.state c.loop-k.work (Row c)
ready c l =
    let h = (printable c).readable in
    step_ready (turn c l) (h.row c.loop-k.k l) c.loop-k.invariant.arrays (length-take-le _ _ (omega (arith, h.ok.road.cells)))

pub loop-k-init : goal.loop-k-init
loop-k-init c =
    let z = header_room c.args.buffer.now 0 _ _ c.header-end.ensures in
    let t = road_tables c.args.r {z = c.list_ramps-size.result} c.list_ramps-size.new.cell zeros
    c.rates-rates.ensures c.sizes-sizes.ensures c.list_ramps-size.ensures.0 in
    record {
      lines = lined_none (omega (arith, z.end)) (omega (arith, z.same, c.requires.enough));
      arrays = arrays_first c.args.s t c.of_state-state.ensures c.args.bytes.now c.args.steps c.requires.readable.ok c.list_ramps-size.ensures.1.0;
    }

pub step_lines-put-requires : goal.step_lines-put-requires
step_lines-put-requires c =
    let o = (goal.at.step_lines-put-requires c).At-loop-k in (
      record { road = c.args.r; ready = ready o c.loop-k-test.true },
      lines_fit c.loop-k.invariant.lines (printable o).readable.outflows c.loop-k-test.true,
    )

pub returns-then-number-ne0 : goal.returns-then-number-ne0
returns-then-number-ne0 c =
    let o = (goal.at.returns-then-number-ne0 c).At-loop-k in
    let l = c.loop-k-test.true in
    let put = c.step_lines-put.ensures c.args.r (ready o l) in
    let n : refusal_number c.step_lines-put.result.fault.refusal ≡ 0 → ⊥ = λ z. c.if-number-ne0.true (c.number-number.ensures ∙ z) in
    ends o
    (holds_fault c.header-end.ensures (lined_same (put.same n) c.loop-k.invariant.lines) (printable o).readable.outflows l
    (ends_fault (turn o l) put.found n refl) n
    (rw c.number-number.ensures at c.refused.ensures))

pub loop-k-preserved : goal.loop-k-preserved
loop-k-preserved c =
    let o = (goal.at.loop-k-preserved c).At-loop-k in
    let l = c.loop-k-test.true in
    let put = c.step_lines-put.ensures c.args.r (ready o l) in
    let z : refusal_number c.step_lines-put.result.fault.refusal ≡ 0 = sym c.number-number.ensures ∙ c.if-number-ne0.false in
    record { lines = lined_more c.loop-k.invariant.lines (turn o l) put.found z (put.next z) refl (put.lines z); arrays = put.arrays z }

pub last_lines-requires : goal.last_lines-requires
last_lines-requires c =
    let o = (goal.at.last_lines-requires c).At-loop-k in
    let h = (printable o).readable in
    lines_end c.loop-k.invariant.lines h.ok h.outflows h.seconds c.loop-k-test.false (sym (tables o).road) c.to_state.ensures

pub returns : goal.returns
returns c =
    let o = (goal.at.returns c).At-loop-k in
    ends o
    (holds_run c.header-end.ensures c.loop-k.invariant.lines (printable o).readable.outflows c.loop-k-test.false (sym (tables o).road)
    c.to_state.ensures c.last_lines.ensures)
