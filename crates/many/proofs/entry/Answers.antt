-- `many::entry`: the numbers before those of the ramps are stored first, and then one more ramp's queue. Assumes nothing.
use Rattle.std.proofs.Common.{◌≡◌, length, arith, rules}
use Rattle.model.specs.Running.{end_answer}
use Rattle.many.specs.Entries.{entry_start_lem, ramps_none, ramps_more, ramps_end}
use Rattle.many.proofs.entry.Goals as goal

pub loop-i-init : goal.loop-i-init
loop-i-init c = ramps_none

pub loop-i-preserved : goal.loop-i-preserved
loop-i-preserved c = ramps_more c.loop-i.invariant (omega arith) c.wide.ensures

pub returns : goal.returns
returns c =
    let a = c.args.a in
    let ramps : length a.ramps ≡ 64 = search rules in
    ramps_end c.loop-i.invariant c.loop-i-test.false ramps (end_answer a.ended) a.gate a.waiting
    (entry_start_lem (end_answer a.ended) a.gate a.waiting c.number.ensures c.total.ensures c.exits-exits.ensures c.present-present.ensures)
