-- `outflows::releases` meets its contract: road and state are those of the columns that they lend.
use Rattle.outflows.specs.Columns.{ledger_of}
use Rattle.outflows.proofs.releases.Goals as goal

pub returns : goal.returns
returns c = let a = c.args in c.releases.ensures.fault a.r (ledger_of a.s) a.s.cumulative
