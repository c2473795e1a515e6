-- The refusals of many studies as a whole, and the lent lists after each case. Assumes nothing.
use Rattle.std.specs.Prelude.{◌≡◌, List, ℕ, ◌+◌, ◌*◌, ◌/◌, ◌%◌, ◌≤◌, ◌<◌}
use Rattle.std.proofs.Math.Path.{refl, ap}
use Rattle.std.proofs.Common.{sym, ◌∙◌, mul-le-mul}
use Rattle.std.proofs.Math.Nat.{div-add-mod'}
use native.Mathlib.Omega.{arith}
use Rattle.std.proofs.Math.ListN.{length}
use borrow.Author.Tests.{eq-eqb, ne_eqb, le-leb, lt-leb}
use Rattle.model.specs.Numbers.{front_of}
use Rattle.model.specs.declared.Law.{Law}
use Rattle.model.specs.Refusals.{FaultAnswer, fault}
use Rattle.model.specs.Reading.{ReadAnswer, reading_of}
use Rattle.reading.specs.Within.{read_within_lem}
use Rattle.model.specs.Many.{arrivals_size, study_count, entry_size, many_fault, run_entry, run_answers, list_after_runs, run_lists, record_after_runs, run_record}
use Rattle.model.specs.Many.{fill_entry, fill_answers, list_after_fillings, fill_lists, record_after_fillings, fill_record}
use Rattle.many.specs.Studies.{Studies}

-- what the code finds of the whole: its refusal, and without one what the loops require
pub record ManyFinding (bytes arrivals answers : List ℕ) (q : FaultAnswer) (n T count : ℕ) : Type 0 where
  pub refusal : q ≡ many_fault bytes arrivals answers
  pub ready : q.number ≡ 0 → Studies bytes arrivals n T count answers

-- from reading's answer
module _ (bytes arrivals answers : List ℕ) {x : ReadAnswer} (e : x ≡ reading_of bytes) where
  abbrev size : ℕ
  size = arrivals_size x.road.n x.steps

  refuses : (number place : ℕ) {q : FaultAnswer} {n T count : ℕ} → (number ≡ 0 → ⊥) → fault number place ≡ many_fault bytes arrivals answers
      → q ≡ fault number place → ManyFinding bytes arrivals answers q n T count
  refuses number place h is eq = record { refusal = eq ∙ is; ready = λ z. absurd (h (ap (λ (f : FaultAnswer). f.number) (sym eq) ∙ z)) }

  pub found_unread : {q : FaultAnswer} {n T count : ℕ} → (x.number ≡ 0 → ⊥) → q ≡ fault x.number x.place → ManyFinding bytes arrivals answers q n T count
  unfolding many_fault
  found_unread h = refuses x.number x.place h (rw (← e, ne_eqb x.number 0 h))

  module _ (z : x.number ≡ 0) where
    -- a table has at least one number, and its size fits a machine number
    pub size_some : (1 ≤ arrivals_size x.road.n x.steps) × ((x.road.n + 1 ≤ 65) × (arrivals_size x.road.n x.steps ≤ 93600))
    size_some =
        let w = read_within_lem bytes x e z in
        let k : x.road.n + 1 ≤ 65 = omega (arith, w.road.cells) in
        (omega (arith, mul-le-mul w.some_steps w.road.some), (k, omega (arith, mul-le-mul w.steps k)))

    pub found_tables : {q : FaultAnswer} {n T count : ℕ} → (length arrivals % arrivals_size x.road.n x.steps ≡ 0 → ⊥) → q ≡ fault 27 1
        → ManyFinding bytes arrivals answers q n T count
    unfolding many_fault
    found_tables h = refuses 27 1 (λ i. omega arith) (rw (← e, eq-eqb x.number 0 z, ne_eqb (length arrivals % size) 0 h) refl)

    module _ (m : length arrivals % arrivals_size x.road.n x.steps ≡ 0) where
      pub found_room : {q : FaultAnswer} {n T count : ℕ} → length answers / entry_size < length arrivals / arrivals_size x.road.n x.steps → q ≡ fault 27 2
          → ManyFinding bytes arrivals answers q n T count
      unfolding many_fault
      found_room l =
          let f : length answers < length arrivals / size * entry_size = omega arith in
          refuses 27 2 (λ i. omega arith)
          (rw (← e, eq-eqb x.number 0 z, eq-eqb (length arrivals % size) 0 m, lt-leb (length arrivals / size * entry_size) (length answers) f) refl)

      -- the loops may begin
      pub found_none : {q : FaultAnswer} → length arrivals / arrivals_size x.road.n x.steps ≤ length answers / entry_size → q ≡ fault 0 0
          → ManyFinding bytes arrivals answers q x.road.n x.steps (length arrivals / arrivals_size x.road.n x.steps)
      unfolding many_fault
      found_none l eq =
          let room : length arrivals / size * entry_size ≤ length answers = omega arith in
          record {
            refusal = eq ∙ rw (← e, eq-eqb x.number 0 z, eq-eqb (length arrivals % size) 0 m, le-leb (length arrivals / size * entry_size) (length answers) room);
            ready = λ _. record {
              reads = ap (λ (y : ReadAnswer). y.number) (sym e) ∙ z;
              cells = ap (λ (y : ReadAnswer). y.road.n) e;
              steps = ap (λ (y : ReadAnswer). y.steps) e;
              whole = omega (arith, div-add-mod' (length arrivals) size);
              room = room;
              counted = ap (λ (y : ReadAnswer). length arrivals / arrivals_size y.road.n y.steps) e;
            };
          }

-- the answer and the lists afterwards: a refusal of the whole leaves all unchanged
module _ (bytes lanes arrivals list answers : List ℕ) {q : FaultAnswer} (e : q ≡ many_fault bytes arrivals answers) where
  -- running
  abbrev RunManyGives : List ℕ → List ℕ → List ℕ → Type 0
  RunManyGives u out left = (q ≡ many_fault bytes arrivals answers)
      × ((u ≡ run_record bytes arrivals answers) × ((out ≡ run_lists bytes lanes arrivals list answers) × (left ≡ run_answers bytes lanes arrivals list answers)))

  pub ran_refused : (q.number ≡ 0 → ⊥) → RunManyGives bytes list answers
  unfolding run_record run_lists run_answers
  ran_refused h = (e, (rw (← e, ne_eqb q.number 0 h) refl, (rw (← e, ne_eqb q.number 0 h) refl, rw (← e, ne_eqb q.number 0 h) refl)))

  pub ran_all : q.number ≡ 0 → {count : ℕ} → count ≡ study_count bytes arrivals → {u out left : List ℕ} → u ≡ record_after_runs bytes arrivals count
      → out ≡ list_after_runs bytes lanes arrivals list count → left ≡ front_of (run_entry bytes lanes arrivals list) entry_size answers count → RunManyGives u out left
  unfolding run_record run_lists run_answers
  ran_all z ec eu eo ea =
      (e, (rw (← e, eq-eqb q.number 0 z, ← ec) eu, (rw (← e, eq-eqb q.number 0 z, ← ec) eo, rw (← e, eq-eqb q.number 0 z, ← ec) ea)))

  -- filling
  module _ (laws : List Law) where
    abbrev FillManyGives : List ℕ → List ℕ → List ℕ → Type 0
    FillManyGives u out left = (q ≡ many_fault bytes arrivals answers)
        × ((u ≡ fill_record laws bytes lanes arrivals list answers)
        × ((out ≡ fill_lists laws bytes lanes arrivals list answers) × (left ≡ fill_answers laws bytes lanes arrivals list answers)))

    pub filled_refused : (q.number ≡ 0 → ⊥) → FillManyGives bytes list answers
    unfolding fill_record fill_lists fill_answers
    filled_refused h = (e, (rw (← e, ne_eqb q.number 0 h) refl, (rw (← e, ne_eqb q.number 0 h) refl, rw (← e, ne_eqb q.number 0 h) refl)))

    pub filled_all : q.number ≡ 0 → {count : ℕ} → count ≡ study_count bytes arrivals → {u out left : List ℕ}
        → u ≡ record_after_fillings laws bytes lanes arrivals list count → out ≡ list_after_fillings laws bytes lanes arrivals list count
        → left ≡ front_of (fill_entry laws bytes lanes arrivals list) entry_size answers count → FillManyGives u out left
    unfolding fill_record fill_lists fill_answers
    filled_all z ec eu eo ea =
        (e, (rw (← e, eq-eqb q.number 0 z, ← ec) eu, (rw (← e, eq-eqb q.number 0 z, ← ec) eo, rw (← e, eq-eqb q.number 0 z, ← ec) ea)))
