-- The answers of opening, from the results of its code. Assumes nothing.
use Rattle.std.specs.Prelude.{◌≡◌, List, ℕ}
use Rattle.std.proofs.Common.{sym, ap, ◌∙◌}
use Rattle.model.specs.Refusals.{FaultAnswer}
use Rattle.model.specs.Stepping.{table_fault}
use Rattle.model.specs.Reading.{ReadAnswer, refused_of, reading_of, study_of}
use Rattle.model.specs.Running.{lanes_fault, opening_of}
use Rattle.theory.specs.Opening.{opening_refused, opening_closed, opening_same, opened_readable}
use Rattle.opening.specs.OpenedStudy.{OpenedReadable}

module _ (bytes lanes : List ℕ) {x : ReadAnswer} (ex : x ≡ reading_of bytes) where
  abbrev Promise : ReadAnswer → Type 0
  Promise y = (y ≡ opening_of bytes lanes) × OpenedReadable bytes lanes y

  promise : {y : ReadAnswer} → y ≡ opening_of bytes lanes → Promise y
  promise ey = (ey, opened_readable bytes lanes ey)

  pub opened_refused : (x.number ≡ 0 → ⊥) → Promise x
  opened_refused h = promise (ex ∙ sym (opening_refused bytes lanes (rw ex at h)))

  -- the record reads, and f is the code's fault of the table
  module _ {f : FaultAnswer} (ef : f ≡ table_fault lanes x.road.n x.steps) where
    found : f ≡ lanes_fault (study_of bytes lanes)
    found = rw ex at ef

    pub opened_closed : x.number ≡ 0 → (f.number ≡ 0 → ⊥) → {y : ReadAnswer} → y ≡ refused_of f.number f.place → Promise y
    opened_closed h n ey =
        promise (ey ∙ ap (λ (q : FaultAnswer). refused_of q.number q.place) found ∙ sym (opening_closed bytes lanes (rw ex at h) (rw found at n)))

    pub opened_whole : f.number ≡ 0 → Promise x
    opened_whole z = promise (ex ∙ sym (opening_same bytes lanes (rw found at z)))
