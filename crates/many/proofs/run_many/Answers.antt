-- `many::run_many`: each return follows from the test before it. Assumes nothing.
use Rattle.std.proofs.Common.{◌∙◌, sym}
use Rattle.many.specs.Whole.{ran_refused, ran_all}
use Rattle.many.proofs.run_many.Goals as goal

pub returns-then-number-ne0 : goal.returns-then-number-ne0
returns-then-number-ne0 c =
    let a = c.args in
    let p = ran_refused a.bytes.now a.table.now a.arrivals.now a.out.now a.answers.now c.studies-a.ensures.refusal
    (λ z. c.if-number-ne0.true (c.number.ensures ∙ z)) in
    record { answer = p.0; bytes = p.1.0; list = p.1.1.0; answers = p.1.1.1 }

pub returns : goal.returns
returns c =
    let a = c.args in
    let e = c.run_studies.ensures in
    let passes = sym c.number.ensures ∙ c.if-number-ne0.false in
    let p = ran_all a.bytes.now a.table.now a.arrivals.now a.out.now a.answers.now c.studies-a.ensures.refusal passes
    (c.studies-a.ensures.ready passes).counted e.record e.list e.answers in
    record { answer = p.0; bytes = p.1.0; list = p.1.1.0; answers = p.1.1.1 }
