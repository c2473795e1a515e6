-- Each return follows from the tests before it, by the laws of what a run over an opened record gives.
use Rattle.std.proofs.Common.{◌≡◌, sym, ap, ◌∙◌, arith}
use Rattle.model.specs.Numbers.{at}
use Rattle.model.specs.Refusals.{refusal_number}
use Rattle.model.specs.Reading.{read_answer}
use Rattle.model.specs.Running.{end_answer}
use Rattle.running.specs.Promise.{ran_unopened, ran_short, ran_long}
use Rattle.running.proofs.run_opened.Goals as goal

pub returns-then-number-ne0 : goal.returns-then-number-ne0
returns-then-number-ne0 c =
    let a = c.args in
    let u = c.unbegun.ensures in
    ran_unopened a.sums a.longs (at a.weights.places) (at a.weights.ramps) a.out.now a.bytes.now a.table.now (read_answer a.a)
    (λ z. c.if-number-ne0.true (c.number.ensures ∙ z)) (ap end_answer u.0) u.1

pub returns-then-out-steps : goal.returns-then-out-steps
returns-then-out-steps c =
    let a = c.args in
    let u = c.unbegun-then-out-steps.ensures in
    let opens : refusal_number a.a.refusal ≡ 0 = sym c.number.ensures ∙ c.if-number-ne0.false in
    ran_short a.sums a.longs (at a.weights.places) (at a.weights.ramps) a.out.now a.bytes.now a.table.now (read_answer a.a) opens
    (omega arith) (ap end_answer u.0) u.1

pub returns : goal.returns
returns c =
    let a = c.args in
    let r = c.run_rows.ensures in
    let opens : refusal_number a.a.refusal ≡ 0 = sym c.number.ensures ∙ c.if-number-ne0.false in
    ran_long a.sums a.longs (at a.weights.places) (at a.weights.ramps) a.out.now a.bytes.now a.table.now (read_answer a.a) opens
    (omega arith) (r.answer, (r.list, (r.weighted, r.longest)))
