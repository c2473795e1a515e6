-- What history promises of a record that was opened, from what its judging gives.
use Rattle.judging.specs.JudgingEnds.{history_promise}
use Rattle.judging.proofs.history.Goals as goal

pub returns : goal.returns
returns c =
    let a = c.args in
    let p = history_promise a.bytes.now a.table.now a.schedule.now c.opened-a.ensures.answer a.held.now a.queue.now c.judge_opened.ensures in
    record { answer = p.0; held = p.1.0; queue = p.1.1 }
