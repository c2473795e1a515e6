-- Each return is a law of `seconds_size`, by the test of the version.
use Rattle.std.proofs.Common.{sym}
use Rattle.fields.specs.FieldsLaws.{seconds_second, seconds_none}
use Rattle.fields.proofs.seconds_size.Goals as goal

pub returns-then-version-eq-SECOND_VERSION : goal.returns-then-version-eq-SECOND_VERSION
returns-then-version-eq-SECOND_VERSION c = sym (seconds_second c.args.version c.if-version-eq-SECOND_VERSION.true)

pub returns : goal.returns
returns c = sym (seconds_none c.args.version c.if-version-eq-SECOND_VERSION.false)
