-- Judging's answer accepts exactly the schedules that obey. Assumes nothing.
use Rattle.std.specs.Prelude.{◌≡◌, refl, Bool, true, false, List, ℕ, eqb, length}
use Rattle.std.proofs.Common.{sym, ap, ◌∙◌, arith, eqb-true}
use Rattle.std.proofs.lemmas.Bool.{eqb-false}
use Rattle.model.specs.Schedules.{table_size}
use Rattle.model.specs.Reading.{study_of}
use Rattle.model.specs.Judging.{judging_of}
use Rattle.model.specs.Running.{EndAnswer, opening_of}
use Rattle.theory.specs.Opening.{opening_opens}
use Rattle.theory.proofs.RunEnds.{judges_unopened}
use Rattle.model.specs.Demand.{Openable, ObeysAll, AcceptsExactly}
use Rattle.theory.proofs.JudgingExact.{accepted_obeys, obeys_accepted, refused_length}

-- judging's answer accepts exactly the schedules that obey
pub accepts_exactly : (bytes lanes zs : List ℕ) {e : EndAnswer} → e ≡ judging_of bytes lanes zs → AcceptsExactly bytes lanes zs e
accepts_exactly bytes lanes zs {e} ee = record { accepted = λ z. opened (sym number ∙ z); obeys = λ o. number ∙ all o }
  where
    number : e.number ≡ (judging_of bytes lanes zs).number
    number = ap (λ (x : EndAnswer). x.number) ee

    all : ObeysAll bytes lanes zs → (judging_of bytes lanes zs).number ≡ 0
    all o = ap (λ (x : EndAnswer). x.number) (obeys_accepted bytes lanes zs o.openable o.right o.reaches)

    measured : Openable bytes lanes → (judging_of bytes lanes zs).number ≡ 0 → ObeysAll bytes lanes zs
    measured openable z = go (eqb (length zs) (table_size (study_of bytes lanes))) refl
      where
        go : (b : Bool) → eqb (length zs) (table_size (study_of bytes lanes)) ≡ b → ObeysAll bytes lanes zs
        go true h =
            let right = eqb-true (length zs) (table_size (study_of bytes lanes)) h in
            record { openable = openable; right = right; reaches = accepted_obeys bytes lanes zs openable right z }
        go false h =
            let twelve = (refused_length bytes lanes zs openable (eqb-false (length zs) (table_size (study_of bytes lanes)) h)).0 in
            absurd (omega (arith, z, twelve))

    opened : (judging_of bytes lanes zs).number ≡ 0 → ObeysAll bytes lanes zs
    opened z = go (eqb (opening_of bytes lanes).number 0) refl
      where
        go : (b : Bool) → eqb (opening_of bytes lanes).number 0 ≡ b → ObeysAll bytes lanes zs
        go true h = measured (opening_opens bytes lanes (eqb-true (opening_of bytes lanes).number 0 h)) z
        go false h =
            let n = eqb-false (opening_of bytes lanes).number 0 h in
            absurd (n (sym (ap (λ (x : EndAnswer). x.number) (judges_unopened bytes lanes n zs)) ∙ z))
