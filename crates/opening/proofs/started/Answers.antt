-- `opening::started` meets its contract: each return follows from the tests before it.
use Rattle.std.proofs.Common.{◌≡◌, ◌≤◌, ◌∙◌, sym, refl, length, arith, rules}
use Rattle.model.specs.declared.Road.{Road}
use Rattle.model.specs.declared.State.{State}
use Rattle.model.specs.Road.{most_cells}
use Rattle.model.specs.Reading.{reading_of}
use Rattle.limits.specs.LimitsLaws.{state_facts}
use Rattle.theory.specs.RulesLaws.{Sized}
use Rattle.opening.specs.StartingEnds.{started_unopened, started_refused, started_whole}
use Rattle.opening.proofs.started.Goals as goal

-- the state's arrays have an entry for each cell
sized : (r : Road) (s : State) → length s.held ≡ most_cells → length s.queue ≡ most_cells → length s.cumulative ≡ most_cells
    → r.n ≤ most_cells → Sized r s
sized r s h q f n = record { held = omega arith; queue = omega arith; cumulative = omega arith }

pub returns-then-number-ne0 : goal.returns-then-number-ne0
returns-then-number-ne0 c =
    let a = c.args in
    let z = sized (reading_of a.bytes.now).road a.from (search rules) (search rules) (search rules) in
    let p = started_unopened a.bytes.now a.table.now a.from z c.opened-a.ensures.answer (λ e. c.if-number-ne0.true (c.number.ensures ∙ e)) in
    record { answer = p.0; opens = p.1 }

pub start_refusal-begins-requires : goal.start_refusal-begins-requires
start_refusal-begins-requires c =
    let o = c.opened-a.ensures.opens (sym c.number.ensures ∙ c.if-number-ne0.false) in
    (λ y. (state_facts _ _ (sym c.state_within-within.ensures ∙ y)).done, omega (arith, o.ok.steps))

pub returns-then-number-ne0-2 : goal.returns-then-number-ne0-2
returns-then-number-ne0-2 c =
    let a = c.args in
    let z = sized (reading_of a.bytes.now).road a.from (search rules) (search rules) (search rules) in
    let p = started_refused a.bytes.now a.table.now a.from z c.opened-a.ensures.answer (sym c.number.ensures ∙ c.if-number-ne0.false)
    c.state_within-within.ensures c.start_refusal-begins.ensures (λ e. c.if-number-ne0-2.true (c.number-2.ensures ∙ e)) c.refused.ensures in
    record { answer = p.0; opens = p.1 }

pub returns : goal.returns
returns c =
    let a = c.args in
    let z = sized (reading_of a.bytes.now).road a.from (search rules) (search rules) (search rules) in
    let p = started_whole a.bytes.now a.table.now a.from z c.opened-a.ensures.answer (sym c.number.ensures ∙ c.if-number-ne0.false)
    c.state_within-within.ensures c.start_refusal-begins.ensures (sym c.number-2.ensures ∙ c.if-number-ne0-2.false) refl in
    record { answer = p.0; opens = p.1 }
