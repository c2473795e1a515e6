-- `many::studies`: each return follows from the tests before it. Assumes nothing.
use Rattle.std.proofs.Common.{◌∙◌, refl, sym, arith}
use Rattle.many.specs.Whole.{found_unread, size_some, found_tables, found_room, found_none}
use Rattle.many.proofs.studies.Goals as goal

pub returns-then-number-ne0 : goal.returns-then-number-ne0
returns-then-number-ne0 c =
    let a = c.args in
    found_unread a.bytes.now a.arrivals.now a.answers.now c.read-a.ensures (λ z. c.if-number-ne0.true (c.number.ensures ∙ z)) c.refused.ensures

pub overflow_add-size : goal.overflow_add-size
overflow_add-size c =
    let a = c.args in
    omega (arith, size_some a.bytes.now a.arrivals.now a.answers.now c.read-a.ensures (sym c.number.ensures ∙ c.if-number-ne0.false))

pub overflow_mul-size : goal.overflow_mul-size
overflow_mul-size c =
    let a = c.args in
    omega (arith, size_some a.bytes.now a.arrivals.now a.answers.now c.read-a.ensures (sym c.number.ensures ∙ c.if-number-ne0.false))

pub nonzero_rem-arrivals : goal.nonzero_rem-arrivals
nonzero_rem-arrivals c =
    let a = c.args in
    omega (arith, size_some a.bytes.now a.arrivals.now a.answers.now c.read-a.ensures (sym c.number.ensures ∙ c.if-number-ne0.false))

pub returns-then-arrivals-size-ne0 : goal.returns-then-arrivals-size-ne0
returns-then-arrivals-size-ne0 c =
    let a = c.args in
    found_tables a.bytes.now a.arrivals.now a.answers.now c.read-a.ensures (sym c.number.ensures ∙ c.if-number-ne0.false)
    c.if-arrivals-size-ne0.true c.refused-then-arrivals-size-ne0.ensures

pub nonzero_div-count : goal.nonzero_div-count
nonzero_div-count c =
    let a = c.args in
    omega (arith, size_some a.bytes.now a.arrivals.now a.answers.now c.read-a.ensures (sym c.number.ensures ∙ c.if-number-ne0.false))

pub returns-then-answers-count : goal.returns-then-answers-count
returns-then-answers-count c =
    let a = c.args in
    found_room a.bytes.now a.arrivals.now a.answers.now c.read-a.ensures (sym c.number.ensures ∙ c.if-number-ne0.false)
    c.if-arrivals-size-ne0.false c.if-answers-count.true c.refused-then-answers-count.ensures

pub returns : goal.returns
returns c =
    let a = c.args in
    found_none a.bytes.now a.arrivals.now a.answers.now c.read-a.ensures (sym c.number.ensures ∙ c.if-number-ne0.false)
    c.if-arrivals-size-ne0.false c.if-answers-count.false refl
