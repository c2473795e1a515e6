-- A word is the digits that io makes, which are those of the definition, and the byte put after them.
use Rattle.std.proofs.Common.{◌^◌, ◌<◌, sym, take, arith}
use Rattle.numbers.specs.PlacedText.{Text}
use Rattle.listing.specs.WordsLaws.{DigitsMade, decimal_most, word_put}
use Rattle.listing.proofs.word.Goals as goal

pub returns : goal.returns
returns c =
    let k = c.decimal-k in
    let h : c.args.n < 2 ^ 64 = omega arith in
    let few = decimal_most _ _ h k.ensures.len in
    let d : DigitsMade c.args.n k.result (take k.result k.new.out) =
    record { fewest = k.ensures.len; few = few; made = k.ensures.digits; count = sym k.ensures.in_bounds.1 } in
    word_put d (Text.put c.put-end.ensures) (Text.put c.put.ensures)
