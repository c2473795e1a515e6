-- What history from a state promises of a record that was opened, from what its judging gives.
use Rattle.judging.specs.JudgingEnds.{history_on_promise}
use Rattle.judging.proofs.history_on.Goals as goal

pub returns : goal.returns
returns c =
    let a = c.args in
    let o = c.started-a.ensures.answer in
    let p = history_on_promise a.bytes.now a.table.now a.from a.schedule.now o a.held.now a.queue.now c.judge_opened.ensures in
    record { answer = p.0; held = p.1.0; queue = p.1.1 }
