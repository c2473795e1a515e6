-- What judging promises of a record that was opened, from what its judging gives.
use Rattle.judging.specs.JudgingEnds.{judge_promise}
use Rattle.judging.proofs.judge.Goals as goal

pub returns : goal.returns
returns c =
    let a = c.args in
    let p = judge_promise a.bytes.now a.table.now a.schedule.now c.opened-a.ensures.answer c.judge_opened.ensures.0 in
    record { answer = p.0; accepts = p.1 }
