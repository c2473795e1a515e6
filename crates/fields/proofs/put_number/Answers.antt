-- The four bytes are those of the number, by `four_bytes`.
use Rattle.model.specs.Record.{number_size}
use Rattle.fields.specs.BytesStored.{stored, four_bytes}
use Rattle.fields.proofs.put_number.Goals as goal

pub returns : goal.returns
returns c = let a = c.args in stored a.target.now a.at number_size a.x _ (four_bytes a.target.now a.at a.x)
