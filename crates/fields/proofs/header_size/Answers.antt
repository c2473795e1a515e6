-- The sum fits, since the seconds have at most two bytes.
use Rattle.std.proofs.Common.{arith}
use Rattle.fields.specs.FieldsLaws.{seconds_most}
use Rattle.fields.proofs.header_size.Goals as goal

pub overflow_add-result : goal.overflow_add-result
overflow_add-result c = omega (arith, c.seconds_size.ensures, seconds_most c.args.version)
