-- The halves of a row are shorter than the row.
use Rattle.std.proofs.Common.{length}
use Rattle.numbers.proofs.+sum.Given as goal

abbrev pub decreases-sum : goal.decreases-sum
decreases-sum l = length l.row.now
