-- How judging and history end over a record that was opened, from its own start or from a state. Assumes nothing.
use Rattle.std.specs.Prelude.{◌≡◌, Bool, cond, ◌&&◌, ◌||◌, ℕ, ◌≤◌, leb, ltb, eqb, length}
use Rattle.std.proofs.Math.Path.{refl, sym}
use Rattle.std.proofs.Common.{ap, ◌∙◌, arith, eq-eqb, ne_eqb, leb-true, le-leb, le-ltb, ltb-false}
use Rattle.std.proofs.Math.Bool.{true, false}
use mathlib.Core.List.{List, []}
use Rattle.model.specs.Numbers.{unless}
use Rattle.numbers.specs.Tests.{unless_elim, not_both}
use Rattle.numbers.specs.TablesLaws.{front_none}
use Rattle.model.specs.declared.State.{State}
use Rattle.model.specs.Schedules.{Study, places, table_size, scheduled_at}
use Rattle.model.specs.Reading.{ReadAnswer}
use Rattle.model.specs.Running.{EndAnswer, no_state, steps_made, opening_of}
use Rattle.model.specs.Judging.{judge_fault, judge_end, judging_of}
use Rattle.model.specs.Judging.{held_table, queue_table, held_row, queue_row, history_of, held_after, queue_after}
use Rattle.model.specs.GoingOn.{judging_on, history_on, held_on, queue_on}
use Rattle.model.specs.Demand.{AcceptsExactly}
use Rattle.theory.proofs.SchedulesLaws.{end_made}
use Rattle.theory.proofs.AcceptsExactly.{accepts_exactly}
use Rattle.theory.specs.StartingState.{starting_of}
use Rattle.opening.specs.OpenedStudy.{opened_study, end_by, steps_by, ends_unopened, ends_opened, opened_ends, opened_made, started_ends, started_made}
use Rattle.judging.specs.WrittenStates.{Ends, passed_steps}

-- the end over a study: 12, and 11 of either list where states are written, then step by step
abbrev pub judge_from : Bool → List ℕ → List ℕ → List ℕ → Study → EndAnswer
judge_from writes zs held queue a =
    unless (eqb (length zs) (table_size a)) (no_state 12 0)
    (unless (cond writes (leb (table_size a) (length held)) true) (no_state 11 0)
    (unless (cond writes (leb (table_size a) (length queue)) true) (no_state 11 0)
    (judge_end a zs)))

-- the code's test of the lists
abbrev short : Bool → ℕ → ℕ → ℕ → Bool
short writes size held queue = writes && (ltb held size || ltb queue size)

refused_short : (e rest : EndAnswer) (writes : Bool) (size held queue : ℕ) → short writes size held queue ≡ true
    → e ≡ unless (cond writes (leb size held) true) e (unless (cond writes (leb size queue) true) e rest)
refused_short e rest false size held queue s = absurd (not_both s refl)
refused_short e rest true size held queue s =
    unless_elim (λ (x : EndAnswer). e ≡ x) (leb size held) (λ _. refl) (λ h.
    unless_elim (λ (x : EndAnswer). e ≡ x) (leb size queue) (λ _. refl) (λ q.
    absurd (not_both s (rw (le-ltb held size (leb-true size held h), le-ltb queue size (leb-true size queue q)) refl))))

either_false : (a b : Bool) → a || b ≡ false → (a ≡ false) × (b ≡ false)
either_false true b h = absurd (not_both refl h)
either_false false b h = (refl, h)

pub long_enough : (writes : Bool) (size held queue : ℕ) → short writes size held queue ≡ false → writes ≡ true → (size ≤ held) × (size ≤ queue)
long_enough false size held queue s on = absurd (not_both on refl)
long_enough true size held queue s on =
    let p = either_false (ltb held size) (ltb queue size) s in
    (ltb-false held size p.0, ltb-false queue size p.1)

passed_long : (e rest : EndAnswer) (writes : Bool) (size held queue : ℕ) → (writes ≡ true → (size ≤ held) × (size ≤ queue))
    → rest ≡ unless (cond writes (leb size held) true) e (unless (cond writes (leb size queue) true) e rest)
passed_long e rest false size held queue l = refl
passed_long e rest true size held queue l = rw (le-leb size held (l refl).0, le-leb size queue (l refl).1) refl

-- x is opening's answer
module _ (writes : Bool) (zs held₀ queue₀ bytes lanes : List ℕ) (x : ReadAnswer) where
  abbrev a : Study
  a = opened_study bytes lanes x

  abbrev end : Study → EndAnswer
  end = judge_from writes zs held₀ queue₀

  -- the answer, and the lists where states are written
  abbrev pub JudgeGives : EndAnswer → List ℕ → List ℕ → Type 0
  JudgeGives e held queue =
      (e ≡ end_by (judge_from writes zs held₀ queue₀) bytes lanes x)
      × ((writes ≡ true → held ≡ held_table (opened_study bytes lanes x) zs held₀ (steps_by (judge_from writes zs held₀ queue₀) bytes lanes x))
      × (writes ≡ true → queue ≡ queue_table (opened_study bytes lanes x) zs queue₀ (steps_by (judge_from writes zs held₀ queue₀) bytes lanes x)))

  by_steps : {e : EndAnswer} {held queue : List ℕ} (k : ℕ) → e ≡ end_by (judge_from writes zs held₀ queue₀) bytes lanes x
      → steps_made (opened_study bytes lanes x) e ≡ k
      → (writes ≡ true → held ≡ held_table (opened_study bytes lanes x) zs held₀ k)
      → (writes ≡ true → queue ≡ queue_table (opened_study bytes lanes x) zs queue₀ k) → JudgeGives e held queue
  by_steps k ee ek eh eq =
      let m : k ≡ steps_by end bytes lanes x = sym ek ∙ ap (steps_made a) ee in
      (ee, (λ on. eh on ∙ ap (held_table a zs held₀) m, λ on. eq on ∙ ap (queue_table a zs queue₀) m))

  -- after a refusal that names no state no step is made
  none : {e : EndAnswer} (number place : ℕ) → (number ≡ 0 → ⊥) → e ≡ no_state number place → e ≡ end_by (judge_from writes zs held₀ queue₀) bytes lanes x
      → JudgeGives e held₀ queue₀
  none number place n ee er =
      by_steps 0 er (ap (steps_made a) ee ∙ rw (ne_eqb number 0 n) refl)
      (λ on. sym (front_none (held_row a zs) (places a) held₀)) (λ on. sym (front_none (queue_row a zs) (places a) queue₀))

  pub judged_unopened : {e : EndAnswer} → (x.number ≡ 0 → ⊥) → e ≡ no_state x.number x.place → JudgeGives e held₀ queue₀
  judged_unopened n ee = none x.number x.place n ee (ends_unopened end bytes lanes x n ee)

  module _ (z : x.number ≡ 0) where
    pub judged_length : {e : EndAnswer} → (length zs ≡ table_size (opened_study bytes lanes x) → ⊥) → e ≡ no_state 12 0 → JudgeGives e held₀ queue₀
    judged_length n ee = none 12 0 (λ i. omega arith) ee (ends_opened end bytes lanes x z (ee ∙ rw (ne_eqb (length zs) (table_size a) n) refl))

    module _ (right : length zs ≡ table_size (opened_study bytes lanes x)) where
      pub judged_short : {e : EndAnswer} → short writes (table_size (opened_study bytes lanes x)) (length held₀) (length queue₀) ≡ true → e ≡ no_state 11 0
          → JudgeGives e held₀ queue₀
      judged_short s ee =
          none 11 0 (λ i. omega arith) ee
          (ends_opened end bytes lanes x z
          (ee ∙ rw (eq-eqb (length zs) (table_size a) right) (refused_short (no_state 11 0) (judge_end a zs) writes (table_size a) (length held₀) (length queue₀) s)))

      pub judged_rows : {e : EndAnswer} {held queue : List ℕ}
          → short writes (table_size (opened_study bytes lanes x)) (length held₀) (length queue₀) ≡ false
          → Ends (opened_study bytes lanes x) zs writes held₀ queue₀ e held queue → JudgeGives e held queue
      judged_rows s r =
          by_steps (passed_steps a zs)
          (ends_opened end bytes lanes x z
          (r.0 ∙ rw (eq-eqb (length zs) (table_size a) right)
          (passed_long (no_state 11 0) (judge_end a zs) writes (table_size a) (length held₀) (length queue₀)
          (long_enough writes (table_size a) (length held₀) (length queue₀) s))))
          (ap (steps_made a) r.0 ∙ end_made a (judge_fault a zs) (scheduled_at a zs)) r.1.0 r.1.1

-- from the record's own start
module _ (bytes lanes zs : List ℕ) {x : ReadAnswer} (ex : x ≡ opening_of bytes lanes) where
  opened_judges : {e : EndAnswer} → e ≡ end_by (judge_from false zs [] []) bytes lanes x → e ≡ judging_of bytes lanes zs
  unfolding judging_of
  opened_judges ee = ee ∙ opened_ends bytes lanes ex (judge_from false zs [] [])

  pub judge_promise : {e : EndAnswer} → e ≡ end_by (judge_from false zs [] []) bytes lanes x
      → (e ≡ judging_of bytes lanes zs) × AcceptsExactly bytes lanes zs e
  judge_promise ee = let j = opened_judges ee in (j, accepts_exactly bytes lanes zs j)

  pub history_promise : (held₀ queue₀ : List ℕ) {e : EndAnswer} {held queue : List ℕ} → JudgeGives true zs held₀ queue₀ bytes lanes x e held queue
      → (e ≡ history_of bytes lanes zs held₀ queue₀)
      × ((held ≡ held_after bytes lanes zs held₀ queue₀) × (queue ≡ queue_after bytes lanes zs held₀ queue₀))
  unfolding history_of held_after queue_after
  history_promise held₀ queue₀ j =
      let end = judge_from true zs held₀ queue₀ in (
        j.0 ∙ opened_ends bytes lanes ex end,
        (
          j.1.0 refl ∙ opened_made bytes lanes ex end (λ b. held_table b zs held₀) (λ b. front_none _ _ held₀ ∙ sym (front_none _ _ held₀)),
          j.1.1 refl ∙ opened_made bytes lanes ex end (λ b. queue_table b zs queue₀) (λ b. front_none _ _ queue₀ ∙ sym (front_none _ _ queue₀)),
        ),
      )

-- from a state
module _ (bytes lanes : List ℕ) (s : State) (zs : List ℕ) {x : ReadAnswer} (ex : x ≡ starting_of bytes lanes s) where
  pub judge_on_promise : {e : EndAnswer} → e ≡ end_by (judge_from false zs [] []) bytes lanes x → e ≡ judging_on bytes lanes s zs
  unfolding judging_on
  judge_on_promise ee = ee ∙ started_ends bytes lanes s ex (judge_from false zs [] [])

  pub history_on_promise : (held₀ queue₀ : List ℕ) {e : EndAnswer} {held queue : List ℕ} → JudgeGives true zs held₀ queue₀ bytes lanes x e held queue
      → (e ≡ history_on bytes lanes s zs held₀ queue₀)
      × ((held ≡ held_on bytes lanes s zs held₀ queue₀) × (queue ≡ queue_on bytes lanes s zs held₀ queue₀))
  unfolding history_on held_on queue_on
  history_on_promise held₀ queue₀ j =
      let end = judge_from true zs held₀ queue₀ in (
        j.0 ∙ started_ends bytes lanes s ex end,
        (
          j.1.0 refl ∙ started_made bytes lanes s ex end (λ b. held_table b zs held₀) (λ b. front_none _ _ held₀ ∙ sym (front_none _ _ held₀)),
          j.1.1 refl ∙ started_made bytes lanes s ex end (λ b. queue_table b zs queue₀) (λ b. front_none _ _ queue₀ ∙ sym (front_none _ _ queue₀)),
        ),
      )
