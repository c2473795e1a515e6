-- Without a fault the lines are those of the row that the step wrote.
use Rattle.std.proofs.Common.{◌≡◌, sym, ◌∙◌}
use Rattle.model.specs.Refusals.{refusal_number}
use Rattle.passes.specs.Tables.{state_in}
use Rattle.printing.specs.Lines.{put_lines}
use Rattle.printing.proofs.step_lines.Goals as goal

pub returns : goal.returns
returns c r h =
    let s = c.step-made in
    let z : refusal_number s.result.fault.refusal ≡ 0 = sym c.number.ensures ∙ c.if-number-ne0.false in
    put_lines (s.ensures r h) z (c.table_lines-end.ensures (state_in s.result.ledger s.new.state))
