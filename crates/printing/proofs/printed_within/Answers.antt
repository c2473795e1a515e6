-- Each return follows from the test of reading's answer.
use Rattle.std.proofs.Common.{◌≡◌, sym, ◌∙◌}
use Rattle.model.specs.Refusals.{refusal_number}
use Rattle.theory.specs.Readable.{readable_open}
use Rattle.printing.specs.Lines.{holds_refused, read_same, holds_read}
use Rattle.printing.proofs.printed_within.Goals as goal

pub returns-then-number-ne0 : goal.returns-then-number-ne0
returns-then-number-ne0 c =
    let n = c.number-number.ensures in
    holds_refused c.args.cells c.args.most c.args.bytes.now c.read_within-a.ensures (λ z. c.if-number-ne0.true (n ∙ z)) c.requires
    (rw n at c.refused.ensures)

pub run_lines-requires : goal.run_lines-requires
run_lines-requires c =
    let well : refusal_number c.read_within-a.result.refusal ≡ 0 = sym c.number-number.ensures ∙ c.if-number-ne0.false in
    record {
      readable = readable_open c.args.bytes.now _ (read_same c.args.cells c.args.most c.args.bytes.now c.read_within-a.ensures well) well;
      enough = c.requires;
    }

pub returns : goal.returns
returns c =
    let well : refusal_number c.read_within-a.result.refusal ≡ 0 = sym c.number-number.ensures ∙ c.if-number-ne0.false in
    holds_read c.args.cells c.args.most c.args.bytes.now c.read_within-a.ensures well c.run_lines.ensures
