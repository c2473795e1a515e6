-- What running promises of a record that was opened, from what its run gives.
use Rattle.running.specs.Promise.{run_promise}
use Rattle.running.proofs.run.Goals as goal

pub returns : goal.returns
returns c =
    let a = c.args in
    let e = c.run_opened-tallied.ensures in
    let p = run_promise a.bytes.now a.table.now a.out.now c.opened-a.ensures.answer e.0 e.1.0 in
    record { answer = p.0; list = p.1.0; demand = p.1.1 }
