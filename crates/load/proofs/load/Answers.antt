-- Each return follows from the test before it.
use Rattle.std.proofs.Common.{sym, ap, ◌∙◌}
use Rattle.load.specs.LoadLaws.{refused_answer, refused_list, loaded_answer, loaded_list_lem}
use Rattle.load.specs.Theorems.{meets_contract}
use Rattle.model.specs.Load.{load_with}
use Rattle.load.proofs.load.Goals as goal

pub returns-then-peak-gt-RATE : goal.returns-then-peak-gt-RATE
returns-then-peak-gt-RATE c =
    let a = c.args in
    let says = meets_contract a.seed a.peak a.list.now
    (sym (refused_answer a.seed a.peak c.if-peak-gt-RATE.true _)) (sym (refused_list a.seed a.peak c.if-peak-gt-RATE.true a.list.now)) in
    record { answer = says.0; list = says.1.0; ends = says.1.1 }

pub returns : goal.returns
returns c =
    let a = c.args in
    let filled = c.fill-last.ensures in
    let says = meets_contract a.seed a.peak a.list.now
    (ap (load_with 0) filled.last ∙ sym (loaded_answer a.seed a.peak c.if-peak-gt-RATE.false _))
    (filled.list ∙ sym (loaded_list_lem a.seed a.peak c.if-peak-gt-RATE.false a.list.now)) in
    record { answer = says.0; list = says.1.0; ends = says.1.1 }
