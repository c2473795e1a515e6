-- `joining::gate_arrivals` meets its contract: it reads the first number of the row.
use Rattle.std.proofs.Common.{ap, ◌∙◌, ℕ}
use Rattle.model.specs.Record.{row_start}
use Rattle.joining.specs.JoiningLaws.{gate_number}
use Rattle.joining.proofs.gate_arrivals.Goals as goal

pub returns : goal.returns
returns c =
    let start = c.row_start-start.ensures ∙ ap (λ (v : ℕ). row_start v c.args.n c.args.t) c.version.ensures in
    gate_number c.args.bytes.now c.args.n c.args.t start c.number.ensures.0
