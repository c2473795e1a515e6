-- A line is its five words, put one after the other; each uses the room of a word.
use Rattle.std.proofs.Common.{arith}
use Rattle.numbers.specs.PlacedText.{room_more}
use Rattle.listing.specs.WordsLaws.{Word, word_room, words_room}
use Rattle.listing.specs.ListingLaws.{line_put}
use Rattle.listing.proofs.line.Goals as goal

pub word-to_outflow-requires : goal.word-to_outflow-requires
word-to_outflow-requires c = let z = word_room (Word.put c.word-to_place.ensures) in omega (arith, z.end, z.same)

pub word-to_held-requires : goal.word-to_held-requires
word-to_held-requires c =
    let two = words_room (Word.put c.word-to_place.ensures) (Word.put c.word-to_outflow.ensures) in
    omega (arith, two.end, two.same)

pub word-to_queue-requires : goal.word-to_queue-requires
word-to_queue-requires c =
    let two = words_room (Word.put c.word-to_place.ensures) (Word.put c.word-to_outflow.ensures) in
    let three = room_more two (word_room (Word.put c.word-to_held.ensures)) in
    omega (arith, three.end, three.same)

pub word-requires : goal.word-requires
word-requires c =
    let two = words_room (Word.put c.word-to_place.ensures) (Word.put c.word-to_outflow.ensures) in
    let three = room_more two (word_room (Word.put c.word-to_held.ensures)) in
    let four = room_more three (word_room (Word.put c.word-to_queue.ensures)) in
    omega (arith, four.end, four.same)

pub returns : goal.returns
returns c =
    line_put
    (Word.put c.word-to_place.ensures)
    (Word.put c.word-to_outflow.ensures)
    (Word.put c.word-to_held.ensures)
    (Word.put c.word-to_queue.ensures)
    (Word.put c.word.ensures)
