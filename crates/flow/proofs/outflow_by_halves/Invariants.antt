-- The outflow lies between low and high, which come closer.
use Rattle.std.proofs.Common.{◌-◌}
use Rattle.model.specs.Flow.{outflow_of}
use Rattle.numbers.specs.Halves.{Between}
use Rattle.flow.proofs.outflow_by_halves.Given as goal

abbrev pub invariant-loop-low : goal.invariant-loop-low
invariant-loop-low l = Between (outflow_of l.share l.cumulative l.room l.demand) l.demand l.low l.high

abbrev pub decreases-loop-low : goal.decreases-loop-low
decreases-loop-low l = l.high - l.low
