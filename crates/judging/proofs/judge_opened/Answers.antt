-- Each return follows from the tests before it, by the laws of how judging ends over an opened record.
use Rattle.std.proofs.Common.{◌≡◌, sym, ap, ◌∙◌}
use Rattle.model.specs.Refusals.{refusal_number}
use Rattle.model.specs.Reading.{read_answer}
use Rattle.model.specs.Running.{end_answer}
use Rattle.judging.specs.JudgingEnds.{judged_unopened, judged_length, judged_short, judged_rows}
use Rattle.judging.proofs.judge_opened.Goals as goal

pub returns-then-number-ne0 : goal.returns-then-number-ne0
returns-then-number-ne0 c =
    let a = c.args in
    judged_unopened a.writes a.schedule.now a.held.now a.queue.now a.bytes.now a.table.now (read_answer a.a)
    (λ z. c.if-number-ne0.true (c.number.ensures ∙ z)) (ap end_answer c.without_state.ensures)

pub returns-then-schedule-size : goal.returns-then-schedule-size
returns-then-schedule-size c =
    let a = c.args in
    let opens : refusal_number a.a.refusal ≡ 0 = sym c.number.ensures ∙ c.if-number-ne0.false in
    judged_length a.writes a.schedule.now a.held.now a.queue.now a.bytes.now a.table.now (read_answer a.a) opens
    c.if-schedule-size.true (ap end_answer c.without_state-then-schedule-size.ensures)

pub returns-then-writes-held : goal.returns-then-writes-held
returns-then-writes-held c =
    let a = c.args in
    let opens : refusal_number a.a.refusal ≡ 0 = sym c.number.ensures ∙ c.if-number-ne0.false in
    judged_short a.writes a.schedule.now a.held.now a.queue.now a.bytes.now a.table.now (read_answer a.a) opens
    c.if-schedule-size.false c.if-writes-held.true (ap end_answer c.without_state-then-writes-held.ensures)

pub returns : goal.returns
returns c =
    let a = c.args in
    let r = c.judge_rows.ensures in
    let opens : refusal_number a.a.refusal ≡ 0 = sym c.number.ensures ∙ c.if-number-ne0.false in
    judged_rows a.writes a.schedule.now a.held.now a.queue.now a.bytes.now a.table.now (read_answer a.a) opens
    c.if-schedule-size.false c.if-writes-held.false (r.answer, (r.held, r.queue))
