-- The line of a refusal is its name and three words, put one after the other.
use Rattle.std.proofs.Common.{arith}
use Rattle.numbers.specs.PlacedText.{Text, room_more}
use Rattle.listing.specs.WordsLaws.{Word, word_room, named_room}
use Rattle.listing.specs.ListingLaws.{refused_put}
use Rattle.listing.proofs.refused.Goals as goal

pub word-to_place-requires : goal.word-to_place-requires
word-to_place-requires c =
    let two = named_room (Text.put c.put-to_number.ensures) (Word.put c.word-to_step.ensures) in
    omega (arith, two.end, two.same)

pub word-requires : goal.word-requires
word-requires c =
    let two = named_room (Text.put c.put-to_number.ensures) (Word.put c.word-to_step.ensures) in
    let three = room_more two (word_room (Word.put c.word-to_place.ensures)) in
    omega (arith, three.end, three.same)

pub returns : goal.returns
returns c =
    refused_put
    (Text.put c.put-to_number.ensures)
    (Word.put c.word-to_step.ensures)
    (Word.put c.word-to_place.ensures)
    (Word.put c.word.ensures)
