-- What a weighted run promises of a record that was opened, from what its run gives.
use Rattle.model.specs.Numbers.{at}
use Rattle.running.specs.Promise.{run_promise, run_weighted_promise}
use Rattle.running.proofs.run_weighted.Goals as goal

pub returns : goal.returns
returns c =
    let a = c.args in
    let o = c.opened-a.ensures.answer in
    let e = c.run_opened-tallied.ensures in
    let p =
    run_weighted_promise a.bytes.now a.table.now a.out.now o (at a.weights.places) (at a.weights.ramps)
    (run_promise a.bytes.now a.table.now a.out.now o e.0 e.1.0) e.1.1.0 in
    record { answer = p.0; list = p.1.0; weighted = p.1.1.0; demand = p.1.1.1.0; weights = p.1.1.1.1 }
