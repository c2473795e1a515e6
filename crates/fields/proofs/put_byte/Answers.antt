-- The byte is stored as the bytes of a number of one byte.
use Rattle.std.proofs.Common.{arith, ◌≡◌, ◌%◌}
use Rattle.fields.specs.BytesStored.{stored, one_byte}
use Rattle.fields.proofs.put_byte.Goals as goal

pub returns : goal.returns
returns c =
    let a = c.args in
    let h : a.x % 256 ≡ a.x = omega arith in
    stored a.target.now a.at 1 a.x _ (one_byte a.target.now a.at a.x h)
