-- A name and a word, put one after the other.
use Rattle.numbers.specs.PlacedText.{Text}
use Rattle.listing.specs.WordsLaws.{Word, named_put}
use Rattle.listing.proofs.named.Goals as goal

pub returns : goal.returns
returns c = named_put (Text.put c.put-end.ensures) (Word.put c.word.ensures)
