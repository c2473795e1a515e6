-- `filling::last_step::entered`: what enters is at most the outflow, which fits. Assumes nothing.
use Rattle.std.proofs.Common.{◌-◌, ◌^◌, ◌<◌, arith, rules}
use Rattle.flow.specs.FlowLaws.{entering_le}
use Rattle.filling.proofs.last_step.entered.Goals as goal

pub overflow_cast-result : goal.overflow_cast-result
overflow_cast-result c =
    let a = c.args in
    let small : a.outflow < 2 ^ 32 = search rules in
    omega (arith, c.entering.ensures, entering_le a.share (a.cumulative - a.outflow) a.outflow c.requires.0)
