-- The loop of `listing::put`: the first i bytes of the text are placed.
use Rattle.std.proofs.Common.{length, ◌-◌}
use Rattle.numbers.specs.PlacedText.{CopiedText}
use Rattle.listing.proofs.put.Given as goal

abbrev pub invariant-loop-i : goal.invariant-loop-i
invariant-loop-i l = CopiedText l.initial.buffer l.at l.text l.buffer l.i

abbrev pub decreases-loop-i : goal.decreases-loop-i
decreases-loop-i l = length l.text - l.i
