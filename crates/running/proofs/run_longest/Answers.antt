-- What a run with its longest queues promises of a record that was opened, from what its run gives.
use Rattle.std.proofs.Common.{refl}
use Rattle.running.specs.Promise.{run_promise, run_longest_promise}
use Rattle.running.proofs.run_longest.Goals as goal

pub returns : goal.returns
returns c =
    let a = c.args in
    let o = c.opened-a.ensures.answer in
    let e = c.run_opened-tallied.ensures in
    let p = run_promise a.bytes.now a.table.now a.out.now o e.0 e.1.0 in
    record {
      answer = p.0;
      list = p.1.0;
      longest = run_longest_promise a.bytes.now a.table.now a.out.now o (e.1.1.1 refl);
      demand = p.1.1;
    }
