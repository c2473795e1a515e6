-- What running from a state promises of a record that was opened, from what its run gives.
use Rattle.model.specs.Numbers.{at}
use Rattle.running.specs.Promise.{run_on_promise}
use Rattle.running.proofs.run_on.Goals as goal

pub returns : goal.returns
returns c =
    let a = c.args in
    let w = a.weights in
    let p = run_on_promise (at w.places) (at w.ramps) a.bytes.now a.table.now a.from a.out.now c.started-a.ensures.answer c.run_opened.ensures in
    record { answer = p.0; list = p.1.0; weighted = p.1.1.0; longest = p.1.1.1 }
