-- The name and the number that are put are the line of the seconds.
use Rattle.model.specs.Listing.{seconds_line}
use Rattle.listing.proofs.seconds.Goals as goal

pub returns : goal.returns
unfolding seconds_line
returns c = c.named.ensures
