-- A number less itself is 0 exactly if it is finite.
use Rattle.meter.specs.MeterLaws.{finite_test}
use Rattle.meter.proofs.is_finite.Goals as goal

pub returns : goal.returns
returns c = finite_test c.args.x
