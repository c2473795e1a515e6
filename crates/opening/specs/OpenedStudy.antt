-- An operation's answer, lists and sums over a record that was opened, from opening's answer: from the record's own start, or from a state. Assumes nothing.
use Rattle.std.specs.Prelude.{◌≡◌, refl, List, ℕ, eqb}
use Rattle.std.proofs.Common.{sym, ap, ◌∙◌, eq-eqb, ne_eqb}
use Rattle.model.specs.Numbers.{unless}
use Rattle.numbers.specs.Tests.{fault_elim}
use Rattle.model.specs.declared.State.{State}
use Rattle.model.specs.Schedules.{Study}
use Rattle.model.specs.Reading.{ReadAnswer, study_by, study_of}
use Rattle.model.specs.Running.{EndAnswer, no_state, steps_made, opening_of, unless_opened}
use Rattle.model.specs.GoingOn.{study_from, unless_started}
use Rattle.theory.specs.Opening.{opened_reads}
use Rattle.theory.specs.Readable.{Readable}
use Rattle.theory.specs.StartingState.{starting_of, found_refuses, found_starts, found_study}

-- the study that opening gave
abbrev pub opened_study : List ℕ → List ℕ → ReadAnswer → Study
opened_study bytes lanes x = study_by bytes lanes x.road x.state x.steps

-- without a refusal it is within the limits
abbrev pub OpenedReadable : List ℕ → List ℕ → ReadAnswer → Type 0
OpenedReadable bytes lanes x = x.number ≡ 0 → Readable bytes (opened_study bytes lanes x)

-- an operation answers with opening's refusal, which names no state, or with its own end over the study
abbrev pub end_by : (Study → EndAnswer) → List ℕ → List ℕ → ReadAnswer → EndAnswer
end_by end bytes lanes x = unless (eqb x.number 0) (no_state x.number x.place) (end (opened_study bytes lanes x))

-- and makes so many steps
abbrev pub steps_by : (Study → EndAnswer) → List ℕ → List ℕ → ReadAnswer → ℕ
steps_by end bytes lanes x = steps_made (opened_study bytes lanes x) (end_by end bytes lanes x)

-- how the code's operation ends
module _ (end : Study → EndAnswer) (bytes lanes : List ℕ) (x : ReadAnswer) where
  pub ends_unopened : (x.number ≡ 0 → ⊥) → {e : EndAnswer} → e ≡ no_state x.number x.place → e ≡ end_by end bytes lanes x
  ends_unopened n ee = ee ∙ rw (ne_eqb x.number 0 n) refl

  pub ends_opened : x.number ≡ 0 → {e : EndAnswer} → e ≡ end (opened_study bytes lanes x) → e ≡ end_by end bytes lanes x
  ends_opened z ee = ee ∙ rw (eq-eqb x.number 0 z) refl

-- b, with answers that begin by u, is the study that the model names for opening's answer
module _ (bytes lanes : List ℕ) {x : ReadAnswer} (b : Study) (u : EndAnswer → EndAnswer)
    (refuses : (e : EndAnswer) → (x.number ≡ 0 → ⊥) → no_state x.number x.place ≡ u e)
    (starts : x.number ≡ 0 → (e : EndAnswer) → e ≡ u e) (same : x.number ≡ 0 → opened_study bytes lanes x ≡ b) (end : Study → EndAnswer) where
  ends : end_by end bytes lanes x ≡ u (end b)
  ends = fault_elim x.number
      (λ n. sym (ends_unopened end bytes lanes x n refl) ∙ refuses (end b) n)
      (λ z. sym (ends_opened end bytes lanes x z refl) ∙ ap end (same z) ∙ starts z (end b))

  -- what is the same of every study as long as no step is made, and later depends on the study and the steps made
  made : {A : Type 0} (g : Study → ℕ → A) → ((a : Study) → g a 0 ≡ g b 0)
      → g (opened_study bytes lanes x) (steps_by end bytes lanes x) ≡ g b (steps_made b (u (end b)))
  made g none = fault_elim x.number
      (λ n.
      let k : (a : Study) → steps_made a (no_state x.number x.place) ≡ 0 = λ a. rw (ne_eqb x.number 0 n) refl in
      ap (λ (e : EndAnswer). g (opened_study bytes lanes x) (steps_made (opened_study bytes lanes x) e)) (sym (ends_unopened end bytes lanes x n refl))
      ∙ ap (g (opened_study bytes lanes x)) (k (opened_study bytes lanes x)) ∙ none (opened_study bytes lanes x)
      ∙ ap (g b) (sym (k b)) ∙ ap (λ (e : EndAnswer). g b (steps_made b e)) (refuses (end b) n))
      (λ z.
      ap (λ (e : EndAnswer). g (opened_study bytes lanes x) (steps_made (opened_study bytes lanes x) e)) (sym (ends_opened end bytes lanes x z refl))
      ∙ ap (λ (a : Study). g a (steps_made a (end a))) (same z) ∙ ap (λ (e : EndAnswer). g b (steps_made b e)) (starts z (end b)))

-- from the record's own start
module _ (bytes lanes : List ℕ) {x : ReadAnswer} (ex : x ≡ opening_of bytes lanes) where
  opened_refuses : (e : EndAnswer) → (x.number ≡ 0 → ⊥) → no_state x.number x.place ≡ unless_opened bytes lanes e
  opened_refuses e n = rw (← ex, ne_eqb x.number 0 n) refl

  opened_starts : x.number ≡ 0 → (e : EndAnswer) → e ≡ unless_opened bytes lanes e
  opened_starts z e = rw (← ex, eq-eqb x.number 0 z) refl

  opened_study_lem : x.number ≡ 0 → opened_study bytes lanes x ≡ study_of bytes lanes
  opened_study_lem z = ap (opened_study bytes lanes) (opened_reads bytes lanes ex z)

  pub opened_ends : (end : Study → EndAnswer) → end_by end bytes lanes x ≡ unless_opened bytes lanes (end (study_of bytes lanes))
  opened_ends = ends bytes lanes (study_of bytes lanes) (unless_opened bytes lanes) opened_refuses opened_starts opened_study_lem

  pub opened_made : (end : Study → EndAnswer) {A : Type 0} (g : Study → ℕ → A) → ((a : Study) → g a 0 ≡ g (study_of bytes lanes) 0)
      → g (opened_study bytes lanes x) (steps_by end bytes lanes x)
      ≡ g (study_of bytes lanes) (steps_made (study_of bytes lanes) (unless_opened bytes lanes (end (study_of bytes lanes))))
  opened_made = made bytes lanes (study_of bytes lanes) (unless_opened bytes lanes) opened_refuses opened_starts opened_study_lem

-- from a state
module _ (bytes lanes : List ℕ) (s : State) {x : ReadAnswer} (ex : x ≡ starting_of bytes lanes s) where
  pub started_ends : (end : Study → EndAnswer) → end_by end bytes lanes x ≡ unless_started bytes lanes s (end (study_from bytes lanes s))
  started_ends =
      ends bytes lanes (study_from bytes lanes s) (unless_started bytes lanes s)
      (found_refuses bytes lanes s ex) (found_starts bytes lanes s ex) (found_study bytes lanes s ex)

  pub started_made : (end : Study → EndAnswer) {A : Type 0} (g : Study → ℕ → A) → ((a : Study) → g a 0 ≡ g (study_from bytes lanes s) 0)
      → g (opened_study bytes lanes x) (steps_by end bytes lanes x)
      ≡ g (study_from bytes lanes s) (steps_made (study_from bytes lanes s) (unless_started bytes lanes s (end (study_from bytes lanes s))))
  started_made =
      made bytes lanes (study_from bytes lanes s) (unless_started bytes lanes s)
      (found_refuses bytes lanes s ex) (found_starts bytes lanes s ex) (found_study bytes lanes s ex)
