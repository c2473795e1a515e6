-- `stepping::step` meets its contract: 7, then 18, and then the step on the road with the capacities that the open lanes leave.
use Rattle.std.proofs.Common.{◌≡◌, ◌∙◌, ap, sym, length, arith, rules}
use Rattle.std.proofs.Math.Bool.{true}
use Rattle.model.specs.Road.{most_cells}
use Rattle.model.specs.Limits.{input_ok}
use Rattle.model.specs.Stepping.{step_answer}
use Rattle.limits.specs.LimitsLaws.{input_facts}
use Rattle.stepping.specs.Findings.{answer_input, cell_within, answer_lanes, answer_on, steps_on_lem, sized}
use Rattle.stepping.proofs.step.Goals as goal

pub returns-then-not-input_within : goal.returns-then-not-input_within
returns-then-not-input_within c =
    let a = c.args in
    ap step_answer c.refused.ensures
    ∙ answer_input a.r a.s a.row.now a.built a.usable (sym c.input_within.ensures ∙ c.if-not-input_within.true)

pub first_cell-cell-requires : goal.first_cell-cell-requires
first_cell-cell-requires c =
    let a = c.args in
    (input_facts a.r a.s a.row.now (sym c.input_within.ensures ∙ c.if-not-input_within.false)).road.cells

pub overflow_add-cell : goal.overflow_add-cell
overflow_add-cell c =
    let a = c.args in
    let i : input_ok a.r a.s a.row.now ≡ true = sym c.input_within.ensures ∙ c.if-not-input_within.false in
    omega (arith, cell_within a.r a.s a.row.now a.built a.usable i c.first_cell-cell.ensures, (input_facts a.r a.s a.row.now i).road.cells)

pub returns-then-cell-n : goal.returns-then-cell-n
returns-then-cell-n c =
    let a = c.args in
    ap step_answer c.refused-then-cell-n.ensures
    ∙ answer_lanes a.r a.s a.row.now a.built a.usable (sym c.input_within.ensures ∙ c.if-not-input_within.false) c.first_cell-cell.ensures
    c.if-cell-n.true

pub open_capacities-left-requires : goal.open_capacities-left-requires
open_capacities-left-requires c =
    let a = c.args in
    let n = (input_facts a.r a.s a.row.now (sym c.input_within.ensures ∙ c.if-not-input_within.false)).road.cells in
    let b : length a.built ≡ most_cells = search rules in
    let u : length a.usable ≡ most_cells = search rules in
    (n, (omega arith, omega arith))

pub step_on-requires : goal.step_on-requires
step_on-requires c =
    let a = c.args in
    let i : input_ok a.r a.s a.row.now ≡ true = sym c.input_within.ensures ∙ c.if-not-input_within.false in
    let n = (input_facts a.r a.s a.row.now i).road.cells in
    let h : length a.s.held ≡ most_cells = search rules in
    let q : length a.s.queue ≡ most_cells = search rules in
    let f : length a.s.cumulative ≡ most_cells = search rules in
    let p : length a.r.capacity ≡ most_cells = search rules in
    steps_on_lem a.r a.s a.row.now a.built a.usable i c.first_cell-cell.ensures c.if-cell-n.false
    c.open_capacities-left.ensures (omega arith) (sized a.r a.s n h q f)

pub returns : goal.returns
returns c =
    let a = c.args in
    answer_on a.r a.s a.row.now a.built a.usable (sym c.input_within.ensures ∙ c.if-not-input_within.false) c.first_cell-cell.ensures
    c.if-cell-n.false c.open_capacities-left.ensures c.step_on.ensures
