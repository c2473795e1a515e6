-- The seconds have at most two bytes, by `seconds_most`, so their number fits, by `power_short`.
use Rattle.std.proofs.Common.{arith, ap, ◌≡◌, ◌≤◌, ◌∙◌}
use Rattle.model.specs.Record.{short_size, version_of, seconds_size}
use Rattle.fields.specs.FieldsLaws.{seconds_most, power_short}
use Rattle.fields.proofs.seconds.Goals as goal

pub number-requires : goal.number-requires
number-requires c =
    let v = version_of c.args.bytes.now in
    let size : c.seconds_size.result ≡ seconds_size v = c.seconds_size.ensures ∙ ap seconds_size c.version.ensures in
    (omega (arith, seconds_most v), omega (arith, c.requires))

pub overflow_cast-result : goal.overflow_cast-result
overflow_cast-result c =
    let v = version_of c.args.bytes.now in
    let size : c.seconds_size.result ≡ seconds_size v = c.seconds_size.ensures ∙ ap seconds_size c.version.ensures in
    let few : c.seconds_size.result ≤ short_size = omega (arith, seconds_most v) in
    omega (arith, c.number.ensures.1, power_short c.seconds_size.result few)
