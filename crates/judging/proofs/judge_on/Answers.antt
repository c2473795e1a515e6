-- What judging from a state promises of a record that was opened, from what its judging gives.
use Rattle.judging.specs.JudgingEnds.{judge_on_promise}
use Rattle.judging.proofs.judge_on.Goals as goal

pub returns : goal.returns
returns c =
    let a = c.args in
    judge_on_promise a.bytes.now a.table.now a.from a.schedule.now c.started-a.ensures.answer c.judge_opened.ensures.0
