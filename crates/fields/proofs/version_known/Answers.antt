-- The two tests are the model's, by `known_both`.
use Rattle.fields.specs.HeaderLaws.{known_both}
use Rattle.fields.proofs.version_known.Goals as goal

pub returns : goal.returns
returns c = known_both c.args.version
