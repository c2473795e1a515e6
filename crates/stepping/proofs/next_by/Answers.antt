-- `stepping::next_by` meets its contract: road and state are those of the columns that they lend.
use Rattle.std.proofs.Common.{◌∙◌}
use Rattle.stepping.proofs.next_by.Goals as goal

pub advance-t-requires : goal.advance-t-requires
advance-t-requires c = record { road = c.args.r; movable = c.requires.0; left = c.requires.1 }

pub returns : goal.returns
returns c = c.state.ensures ∙ c.advance-t.ensures c.args.r
