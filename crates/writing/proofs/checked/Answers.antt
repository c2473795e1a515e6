-- `writing::checked` meets its contract: each return follows from the tests before it.
use Rattle.std.proofs.Common.{◌≡◌, ap, sym, ◌∙◌, ◌+◌, arith, ℕ, length}
use Rattle.model.specs.Numbers.{first_of}
use Rattle.model.specs.declared.State.{State}
use Rattle.model.specs.Limits.{place_ok}
use Rattle.fields.specs.HeaderLaws.{size_small}
use Rattle.model.specs.Schedules.{Study}
use Rattle.model.specs.Writing.{unwritten, written_count, frame_of}
use Rattle.model.specs.Encoding.{given_study}
use Rattle.writing.specs.Checks.{FrameOk, frame_ok_lem, answer_frame, answer_place, answer_step, answer_short, answer_written, by_given}
use Rattle.writing.proofs.checked.Goals as goal

-- the first five tests passed
framed : (a : Study) (numbers : ℕ) {x y : ℕ} → x ≡ frame_of a numbers → y ≡ x → y ≡ 0 → FrameOk a numbers
framed a numbers e k z = frame_ok_lem a numbers (sym e ∙ sym k ∙ z)

-- the lowest place out of its limits, of the state at the start
placed : (a : Study) {s : State} {p : ℕ} → p ≡ first_of (place_ok a.road s) (a.road.n + 1) → s ≡ a.start
    → p ≡ first_of (place_ok a.road a.start) (a.road.n + 1)
placed a e k = rw k at e

pub returns-then-number-ne0 : goal.returns-then-number-ne0
returns-then-number-ne0 c =
    let a = given_study c.args.road c.args.steps c.args.start c.args.rows.now in
    let e = c.frame_refusal-frame.ensures in
    c.refused.ensures ∙ ap (λ (m : ℕ). unwritten m 0) e
    ∙ answer_frame a (length c.args.rows.now) (length c.args.target.now) (λ z. c.if-number-ne0.true (c.number.ensures ∙ e ∙ z))
    ∙ by_given _ _ _ _ _

pub first_place-place-requires : goal.first_place-place-requires
first_place-place-requires c =
    let a = given_study c.args.road c.args.steps c.args.start c.args.rows.now in
    let ok = framed a _ c.frame_refusal-frame.ensures c.number.ensures c.if-number-ne0.false in
    (ok.counts.cells, rw c.state-state.ensures (omega arith))

pub overflow_add-n : goal.overflow_add-n
overflow_add-n c =
    let a = given_study c.args.road c.args.steps c.args.start c.args.rows.now in
    let ok = framed a _ c.frame_refusal-frame.ensures c.number.ensures c.if-number-ne0.false in
    omega (arith, ok.counts.cells)

pub returns-then-place-n : goal.returns-then-place-n
returns-then-place-n c =
    let a = given_study c.args.road c.args.steps c.args.start c.args.rows.now in
    let ok = framed a _ c.frame_refusal-frame.ensures c.number.ensures c.if-number-ne0.false in
    let place = placed a c.first_place-place.ensures c.state-state.ensures in
    c.refused-then-place-n.ensures ∙ answer_place a _ _ ok _ place c.if-place-n.true ∙ by_given _ _ _ _ _

pub first_row-step-requires : goal.first_row-step-requires
first_row-step-requires c =
    let a = given_study c.args.road c.args.steps c.args.start c.args.rows.now in
    let ok = framed a _ c.frame_refusal-frame.ensures c.number.ensures c.if-number-ne0.false in
    record { cells = ok.counts.cells; all = ok.all }

pub returns-then-step-steps : goal.returns-then-step-steps
returns-then-step-steps c =
    let a = given_study c.args.road c.args.steps c.args.start c.args.rows.now in
    let ok = framed a _ c.frame_refusal-frame.ensures c.number.ensures c.if-number-ne0.false in
    let place = placed a c.first_place-place.ensures c.state-state.ensures in
    c.refused-then-step-steps.ensures
    ∙ answer_step a _ _ ok _ place c.if-place-n.false _ c.first_row-step.ensures c.if-step-steps.true ∙ by_given _ _ _ _ _

pub row_start-size-requires : goal.row_start-size-requires
row_start-size-requires c =
    let a = given_study c.args.road c.args.steps c.args.start c.args.rows.now in
    let ok = framed a _ c.frame_refusal-frame.ensures c.number.ensures c.if-number-ne0.false in
    omega (arith, size_small a.road.version ok.counts)

pub returns-then-target-size : goal.returns-then-target-size
returns-then-target-size c =
    let a = given_study c.args.road c.args.steps c.args.start c.args.rows.now in
    let ok = framed a _ c.frame_refusal-frame.ensures c.number.ensures c.if-number-ne0.false in
    let place = placed a c.first_place-place.ensures c.state-state.ensures in
    c.refused-then-target-size.ensures
    ∙ answer_short a _ _ ok _ place c.if-place-n.false _ c.first_row-step.ensures c.if-step-steps.false
    (omega (arith, c.row_start-size.ensures, c.if-target-size.true))
    ∙ by_given _ _ _ _ _

pub returns : goal.returns
returns c =
    let a = given_study c.args.road c.args.steps c.args.start c.args.rows.now in
    let ok = framed a _ c.frame_refusal-frame.ensures c.number.ensures c.if-number-ne0.false in
    let place = placed a c.first_place-place.ensures c.state-state.ensures in
    ap written_count c.row_start-size.ensures
    ∙ answer_written a _ _ ok _ place c.if-place-n.false _ c.first_row-step.ensures c.if-step-steps.false
    (omega (arith, c.row_start-size.ensures, c.if-target-size.false))
    ∙ by_given _ _ _ _ _
