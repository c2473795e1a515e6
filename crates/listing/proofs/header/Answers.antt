-- The bytes that are put are those of the header.
use Rattle.model.specs.Listing.{header_line}
use Rattle.listing.proofs.header.Goals as goal

pub returns : goal.returns
unfolding header_line
returns c = c.put.ensures
