-- Laws of the lowest fault and of stepping. Assumes nothing.
use Rattle.std.specs.Prelude.{◌≡◌, Bool, cond, List, [], ◌∷◌, ℕ, ◌+◌, ◌≤◌, ◌<◌, leb, length}
use Rattle.std.proofs.Math.Path.{refl}
use Rattle.std.proofs.Common.{sym, ap, ◌∙◌, arith}
use Rattle.std.proofs.Math.Bool.{true, false}
use Rattle.std.proofs.Math.Dec.{eqb}
use Rattle.model.specs.Numbers.{row_at, unless, one_of, first_from, first_of, all_of, first_fault}
use Rattle.model.specs.Lanes.{lanes_ok, lanes_at, table_at, table_bytes}
use Rattle.model.specs.declared.Road.{Road}
use Rattle.model.specs.declared.State.{State}
use Rattle.model.specs.Road.{most_steps}
use Rattle.model.specs.Schedules.{open_road, ReleasesFit, outflows_of}
use Rattle.model.specs.Refusals.{began, fault, FaultAnswer}
use Rattle.numbers.specs.FirstLaws.{Faultless, fault_within, fault_before, fault_there, fault_none, faultless_stop}
use Rattle.numbers.specs.Tests.{unless_elim, two_zero, two_pass}
use Rattle.model.specs.Limits.{input_ok}
use Rattle.model.specs.Flow.{release_at, most_release_at, supply_at}
use Rattle.model.specs.Move.{next_of}
use Rattle.model.specs.Stepping.{lowest_of, release_fault_at, releases_of, answer, step_on, stepping_of, table_fault}
use borrow.Author.Tests.{eqb-true, eqb-false, eq-eqb, ne_eqb}

-- two cells, a lane built in each, two steps: cell 2 has a fault in step 0 and cell 1 in step 1, and cell 1 is named
pub lowest_over_rows : table_fault (1 ∷ 1 ∷ 1 ∷ 2 ∷ 2 ∷ 1 ∷ []) 2 2 ≡ fault 18 1
unfolding table_fault first_of first_from lanes_ok row_at
lowest_over_rows = refl

-- equal faults have equal numbers
pub number_of_lem : {p q : FaultAnswer} → p ≡ q → p.number ≡ q.number
number_of_lem e = ap (λ (q : FaultAnswer). q.number) e

-- the lowest fault
module _ (f : ℕ → ℕ) (n base : ℕ) where
  pub lowest_none : ((i : ℕ) → i < n → f i ≡ 0) → lowest_of f n base ≡ fault 0 0
  unfolding lowest_of
  lowest_none h = rw (eq-eqb (first_fault f n) n (fault_none f n h))

  -- the lowest fault, as a loop finds it
  module _ {i : ℕ} (h : Faultless f n i) where
    pub lowest_stop : {m : ℕ} → i < n → m ≡ f i → (m ≡ 0 → ⊥) → fault m (i + base) ≡ lowest_of f n base
    unfolding lowest_of
    lowest_stop l e ne = rw (← faultless_stop h l e ne, ne_eqb i n (λ z. omega arith), e)

    pub lowest_end : n ≤ i → fault 0 0 ≡ lowest_of f n base
    lowest_end l = sym (lowest_none (λ j m. h.before j (omega arith)))

  pub lowest_zero : (lowest_of f n base).number ≡ 0 → (i : ℕ) → i < n → f i ≡ 0
  unfolding lowest_of
  lowest_zero h = go (eqb (first_fault f n) n) refl h
    where
      go : (b : Bool) → eqb (first_fault f n) n ≡ b → (cond b (fault 0 0) (fault (f (first_fault f n)) (first_fault f n + base))).number ≡ 0
          → (i : ℕ) → i < n → f i ≡ 0
      go true e z i l = fault_before f n i (omega (arith, eqb-true (first_fault f n) n e))
      go false e z i l = absurd (fault_there f n (omega (arith, fault_within f n, eqb-false (first_fault f n) n e)) z)

  -- its number is one of the faults', or 0
  pub lowest_one : (P : ℕ → Type 0) → P 0 → ((i : ℕ) → P (f i)) → P (lowest_of f n base).number
  unfolding lowest_of
  lowest_one P z h = go (eqb (first_fault f n) n)
    where
      go : (t : Bool) → P (cond t (fault 0 0) (fault (f (first_fault f n)) (first_fault f n + base))).number
      go true = z
      go false = h (first_fault f n)

module _ (r : Road) (s : State) (row : List ℕ) where
  -- without a fault of a release each release fits
  pub releases_fit : (releases_of r s row).number ≡ 0 → ReleasesFit r s row
  releases_fit h = record { queue = λ i l. (at_cell i l).0; supply = λ i l. (at_cell i l).1 }
    where
      at_cell : (i : ℕ) → i < r.n → (release_at row i ≤ most_release_at s row i) × (release_at row i ≤ supply_at r s i)
      at_cell i l =
          two_zero (release_at row i) (most_release_at s row i) (release_at row i) (supply_at r s i) 9 10 (λ z. omega arith) (λ z. omega arith)
          (lowest_zero (release_fault_at r s row) r.n 1 h i l)

  -- the faults of a release come with a state
  pub releases_class : began (releases_of r s row).number ≡ true
  unfolding began one_of
  releases_class = lowest_one (release_fault_at r s row) r.n 1 (λ (m : ℕ). began m ≡ true) refl
      (λ i. two (leb (release_at row i) (most_release_at s row i)) (leb (release_at row i) (supply_at r s i)))
    where
      two : (t u : Bool) → began (unless t 9 (unless u 10 0)) ≡ true
      two true true = refl
      two true false = refl
      two false u = refl

  -- if each release fits, there is no fault
  pub fit_releases : ReleasesFit r s row → releases_of r s row ≡ fault 0 0
  fit_releases ok = lowest_none (release_fault_at r s row) r.n 1
      (λ i l. two_pass (release_at row i) (most_release_at s row i) (release_at row i) (supply_at r s i) 9 10 (ok.queue i l) (ok.supply i l))

  -- the tests from 8 on, on the step's road
  pub on_done : s.done ≡ most_steps → step_on r s row ≡ answer (fault 8 0) s
  on_done e = rw (eq-eqb s.done most_steps e)

  pub on_refused : (s.done ≡ most_steps → ⊥) → ((releases_of r s row).number ≡ 0 → ⊥) → step_on r s row ≡ answer (releases_of r s row) s
  on_refused d q = rw (ne_eqb s.done most_steps d, ne_eqb (releases_of r s row).number 0 q)

  pub on_next : (s.done ≡ most_steps → ⊥) → ReleasesFit r s row → step_on r s row ≡ answer (fault 0 0) (next_of r s row (outflows_of r s row))
  on_next d q = rw (ne_eqb s.done most_steps d, fit_releases q)

-- stepping, case by case
pub stepping_input : (r : Road) (s : State) (row built usable : List ℕ) → input_ok r s row ≡ false → stepping_of r s row built usable ≡ answer (fault 7 0) s
unfolding stepping_of
stepping_input r s row built usable h = rw h

module _ (r : Road) (s : State) (row built usable : List ℕ) (input : input_ok r s row ≡ true) where
  pub stepping_lanes : (first_of (lanes_at built usable) r.n ≡ r.n → ⊥)
      → stepping_of r s row built usable ≡ answer (fault 18 (first_of (lanes_at built usable) r.n + 1)) s
  unfolding stepping_of
  stepping_lanes h = rw (input, ne_eqb (first_of (lanes_at built usable) r.n) r.n h) refl

  module _ (lanes : first_of (lanes_at built usable) r.n ≡ r.n) where
    abbrev q : Road
    q = open_road r built usable

    pub stepping_on : stepping_of r s row built usable ≡ step_on (open_road r built usable) s row
    unfolding stepping_of
    stepping_on = rw (input, eq-eqb (first_of (lanes_at built usable) r.n) r.n lanes) refl

    pub stepping_done : s.done ≡ most_steps → stepping_of r s row built usable ≡ answer (fault 8 0) s
    stepping_done e = stepping_on ∙ on_done q s row e

    pub stepping_refused : (s.done ≡ most_steps → ⊥) → ((releases_of (open_road r built usable) s row).number ≡ 0 → ⊥)
        → stepping_of r s row built usable ≡ answer (releases_of (open_road r built usable) s row) s
    stepping_refused d f = stepping_on ∙ on_refused q s row d f

    pub stepping_next : (s.done ≡ most_steps → ⊥) → ReleasesFit (open_road r built usable) s row
        → stepping_of r s row built usable ≡ answer (fault 0 0) (next_of (open_road r built usable) s row (outflows_of (open_road r built usable) s row))
    stepping_next d f = stepping_on ∙ on_next q s row d f

-- a table of lanes, case by case
module _ (table : List ℕ) (n T : ℕ) where
  pub table_empty : length table ≡ 0 → table_fault table n T ≡ fault 0 0
  unfolding table_fault
  table_empty e = rw (eq-eqb (length table) 0 e)

  module _ (some : length table ≡ 0 → ⊥) where
    pub table_size_lem : (length table ≡ table_bytes n T → ⊥) → table_fault table n T ≡ fault 17 0
    unfolding table_fault
    table_size_lem h = rw (ne_eqb (length table) 0 some, ne_eqb (length table) (table_bytes n T) h)

    module _ (right : length table ≡ table_bytes n T) where
      pub table_cell : (first_of (table_at table n T) n ≡ n → ⊥) → table_fault table n T ≡ fault 18 (first_of (table_at table n T) n + 1)
      unfolding table_fault
      table_cell h =
          rw (ne_eqb (length table) 0 some, eq-eqb (length table) (table_bytes n T) right, ne_eqb (first_of (table_at table n T) n) n h)

      pub table_passes : first_of (table_at table n T) n ≡ n → table_fault table n T ≡ fault 0 0
      unfolding table_fault
      table_passes h =
          rw (ne_eqb (length table) 0 some, eq-eqb (length table) (table_bytes n T) right, eq-eqb (first_of (table_at table n T) n) n h)

-- the facts about a table without a fault
pub record TableOk (table : List ℕ) (n T : ℕ) : Type 0 where
  pub right : (length table ≡ 0 → ⊥) → length table ≡ table_bytes n T
  pub cells : (length table ≡ 0 → ⊥) → all_of (table_at table n T) n ≡ true

module _ (table : List ℕ) (n T : ℕ) where
  abbrev Whole : FaultAnswer → Type 0
  Whole x = x.number ≡ 0 → TableOk table n T

  pub table_ok : (table_fault table n T).number ≡ 0 → TableOk table n T
  unfolding table_fault
  table_ok =
      unless_elim Whole (eqb (length table) 0)
      (λ _.
      unless_elim Whole (eqb (length table) (table_bytes n T)) (λ _ z. absurd (omega arith)) (λ right.
      unless_elim Whole (all_of (table_at table n T) n) (λ _ z. absurd (omega arith)) (λ cells _.
      record { right = λ _. eqb-true (length table) (table_bytes n T) right; cells = λ _. cells })))
      (λ none _. let e = eqb-true (length table) 0 none in record { right = λ no. absurd (no e); cells = λ no. absurd (no e) })
