-- Each turn keeps the outflow between low and high.
use Rattle.std.proofs.Common.{arith}
use Rattle.numbers.specs.Halves.{between_none, between_fits, between_above}
use Rattle.flow.specs.FlowLaws.{outflow_le, outflow_greatest, outflow_under}
use Rattle.flow.proofs.outflow_by_halves.Goals as goal

pub loop-low-init : goal.loop-low-init
loop-low-init c = between_none (outflow_le _ _ _ _)

pub loop-low-preserved-then-entering-wide : goal.loop-low-preserved-then-entering-wide
loop-low-preserved-then-entering-wide c =
    let h = c.loop-low.invariant in
    between_fits h (outflow_greatest _ _ _ _ _ (omega (arith, h.within)) (omega arith))

pub loop-low-preserved : goal.loop-low-preserved
loop-low-preserved c = between_above c.loop-low.invariant (omega arith) (outflow_under _ _ _ _ _ (omega arith))
