-- `joining::fits` meets its contract: the record's size fits, since n and T are within their limits.
use Rattle.std.proofs.Common.{arith}
use Rattle.fields.specs.FieldsLaws.{start_small}
use Rattle.joining.proofs.fits.Goals as goal

pub row_start-requires : goal.row_start-requires
row_start-requires c = omega (arith, start_small c.args.version c.args.n c.args.steps c.if-n-gt-CELLS.false c.requires)
