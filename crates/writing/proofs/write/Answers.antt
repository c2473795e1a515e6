-- `writing::write` meets its contract: a refusal leaves the target, and without one the record put there reads back.
use Rattle.std.proofs.Common.{sym, ap, ◌∙◌}
use Rattle.model.specs.Writing.{WriteAnswer}
use Rattle.writing.specs.AcceptedStudy.{fits, target_refused, target_put}
use Rattle.writing.specs.Theorems.{promise}
use Rattle.writing.proofs.write.Goals as goal

pub returns-then-number-ne0-clause-target : goal.returns-then-number-ne0-clause-target
returns-then-number-ne0-clause-target c =
    sym (target_refused _ _ _ _ _ (λ z. c.if-number-ne0.true (c.number.ensures ∙ ap (λ (x : WriteAnswer). x.number) c.checked-a.ensures ∙ z)))

pub put_record-requires : goal.put_record-requires
put_record-requires c =
    fits _ _ _ _ _ (sym (ap (λ (x : WriteAnswer). x.number) c.checked-a.ensures) ∙ sym c.number.ensures ∙ c.if-number-ne0.false)

pub returns : goal.returns
returns c =
    let passed = sym (ap (λ (x : WriteAnswer). x.number) c.checked-a.ensures) ∙ sym c.number.ensures ∙ c.if-number-ne0.false in
    let put = target_put c.args.road c.args.steps c.args.start c.args.rows.now c.args.target.now passed _ _ c.put_record.ensures in
    let p = promise c.args.road c.args.steps c.args.start c.args.rows.now c.args.target.now c.checked-a.ensures put in
    record { answer = p.0; target = p.1.0; back = p.1.1 }
