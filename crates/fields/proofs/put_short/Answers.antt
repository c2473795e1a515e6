-- The two bytes are those of the number, by `two_bytes`.
use Rattle.model.specs.Record.{short_size}
use Rattle.fields.specs.BytesStored.{stored, two_bytes}
use Rattle.fields.proofs.put_short.Goals as goal

pub returns : goal.returns
returns c = let a = c.args in stored a.target.now a.at short_size a.x _ (two_bytes a.target.now a.at a.x)
