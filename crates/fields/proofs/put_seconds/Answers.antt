-- Version 2 has two bytes for the seconds, any other has none, by the laws of `seconds_size`.
use Rattle.std.proofs.Common.{arith}
use Rattle.fields.specs.FieldsLaws.{seconds_second, seconds_none}
use Rattle.fields.specs.BytesStored.{stored_none}
use Rattle.fields.proofs.put_seconds.Goals as goal

pub put_short-requires : goal.put_short-requires
put_short-requires c = omega (arith, seconds_second c.args.version c.if-version-eq-SECOND_VERSION.true, c.requires)

pub returns-then-version-eq-SECOND_VERSION : goal.returns-then-version-eq-SECOND_VERSION
returns-then-version-eq-SECOND_VERSION c = rw (seconds_second c.args.version c.if-version-eq-SECOND_VERSION.true) c.put_short.ensures

pub returns : goal.returns
returns c = stored_none _ _ _ (seconds_none c.args.version c.if-version-eq-SECOND_VERSION.false)
