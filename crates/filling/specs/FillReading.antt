-- What filling tests before its start and its list: the refusals of reading, 16, 17 and 18. Assumes nothing.
use Rattle.std.specs.Prelude.{◌≡◌, refl, List, ℕ, eqb}
use Rattle.std.proofs.Common.{sym, ◌∙◌, arith, eq-eqb, ne_eqb}
use Rattle.model.specs.Numbers.{unless}
use Rattle.model.specs.Refusals.{FaultAnswer}
use Rattle.model.specs.Schedules.{Study}
use Rattle.model.specs.declared.Law.{Law}
use Rattle.model.specs.Meter.{law_fault_of}
use Rattle.model.specs.Stepping.{table_fault}
use Rattle.model.specs.Reading.{ReadAnswer, refused_of, reading_of, study_by, study_of}
use Rattle.model.specs.Running.{EndAnswer, no_state, lanes_fault}
use Rattle.model.specs.Filling.{law_place}
use Rattle.theory.specs.StepLaws.{number_of_lem}
use Rattle.theory.specs.Readable.{Readable, readable}

-- these refusals, or else e
abbrev unless_found : List Law → List ℕ → List ℕ → EndAnswer → EndAnswer
unless_found laws bytes lanes e =
    let a = study_of bytes lanes in
    unless (eqb (reading_of bytes).number 0) (no_state (reading_of bytes).number (reading_of bytes).place)
    (unless (eqb (law_place laws a) 0) (no_state 16 (law_place laws a))
    (unless (eqb (lanes_fault a).number 0) (no_state (lanes_fault a).number (lanes_fault a).place) e))

-- none applies
pub record NoRefusal (laws : List Law) (bytes lanes : List ℕ) (x : ReadAnswer) : Type 0 where
  pub same : x ≡ reading_of bytes
  pub reads : (reading_of bytes).number ≡ 0
  pub finite : law_place laws (study_of bytes lanes) ≡ 0
  pub opens : (lanes_fault (study_of bytes lanes)).number ≡ 0
  pub none : (e : EndAnswer) → unless_found laws bytes lanes e ≡ e
  pub held : Readable bytes (study_by bytes lanes x.road x.state x.steps)

-- x is the refusal, or reading's answer
pub record FillReading (laws : List Law) (bytes lanes : List ℕ) (x : ReadAnswer) : Type 0 where
  pub refused : (x.number ≡ 0 → ⊥) → (e : EndAnswer) → unless_found laws bytes lanes e ≡ no_state x.number x.place
  pub passed : x.number ≡ 0 → NoRefusal laws bytes lanes x

module _ (laws : List Law) (bytes lanes : List ℕ) {x : ReadAnswer} (ex : x ≡ reading_of bytes) where
  abbrev a : Study
  a = study_of bytes lanes

  pub reading_refused : (x.number ≡ 0 → ⊥) → FillReading laws bytes lanes x
  reading_refused h =
      let n : (reading_of bytes).number ≡ 0 → ⊥ = rw ex at h in
      record { refused = λ _ e. rw (ex, ne_eqb (reading_of bytes).number 0 n) refl; passed = λ z. absurd (h z) }

  module _ (h : x.number ≡ 0) {place : ℕ} (ep : place ≡ law_fault_of laws x.road.ramp x.road.n) where
    well : (reading_of bytes).number ≡ 0
    well = rw ex at h

    law_is : place ≡ law_place laws (study_of bytes lanes)
    law_is = rw ex at ep

    pub reading_law : (place ≡ 0 → ⊥) → {y : ReadAnswer} → y ≡ refused_of 16 place → FillReading laws bytes lanes y
    reading_law d ey =
        let n : law_place laws a ≡ 0 → ⊥ = λ z. d (law_is ∙ z) in
        rw ey (record {
          refused = λ _ e. rw (eq-eqb (reading_of bytes).number 0 well, ne_eqb (law_place laws a) 0 n, law_is) refl;
          passed = λ z. absurd (omega arith);
        })

    -- no law has a fault, and f is the code's fault of the table
    module _ (none : place ≡ 0) {f : FaultAnswer} (ef : f ≡ table_fault lanes x.road.n x.steps) where
      no_law : law_place laws (study_of bytes lanes) ≡ 0
      no_law = sym law_is ∙ none

      found : f ≡ lanes_fault (study_of bytes lanes)
      found = rw ex at ef

      pub reading_closed : (f.number ≡ 0 → ⊥) → {y : ReadAnswer} → y ≡ refused_of f.number f.place → FillReading laws bytes lanes y
      reading_closed d ey =
          let n : (lanes_fault a).number ≡ 0 → ⊥ = rw found at d in
          rw ey (record {
            refused = λ _ e.
                rw (eq-eqb (reading_of bytes).number 0 well, eq-eqb (law_place laws a) 0 no_law, ne_eqb (lanes_fault a).number 0 n, found) refl;
            passed = λ z. absurd (d z);
          })

      pub reading_whole : f.number ≡ 0 → FillReading laws bytes lanes x
      reading_whole z =
          let opens : (lanes_fault a).number ≡ 0 = rw found at z in
          record {
            refused = λ n e. absurd (n h);
            passed = λ _. record {
              same = ex;
              reads = well;
              finite = no_law;
              opens = opens;
              none = λ e. rw (eq-eqb (reading_of bytes).number 0 well, eq-eqb (law_place laws a) 0 no_law, eq-eqb (lanes_fault a).number 0 opens) refl;
              held = readable bytes lanes x ex h (sym (number_of_lem ef) ∙ z);
            };
          }
