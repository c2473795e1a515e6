-- Laws of the first number at which a test fails. Assumes nothing.
use Rattle.std.specs.Prelude.{◌≡◌, Bool, true, false, cond, ℕ, zero, suc, ◌+◌, ◌≤◌, ◌<◌}
use Rattle.std.proofs.Math.Path.{refl}
use Rattle.std.proofs.Common.{sym, ap, ◌∙◌, ⊎_elim, eq-or-lt_of_le, le_refl, arith, below_more, below_none}
use Rattle.std.proofs.Math.Dec.{eqb}
use borrow.Author.Tests.{eqb-true, eqb-false, eq-eqb, ne_eqb}
use Rattle.model.specs.Numbers.{first_from, first_of, all_of, first_fault}

-- these hold for first_of f n, and for no other number
pub record First (f : ℕ → Bool) (n i : ℕ) : Type 0 where
  pub within : i ≤ n
  pub before : (j : ℕ) → j < i → f j ≡ true
  pub stops : i < n → f i ≡ false

from_le : (f : ℕ → Bool) (i n : ℕ) → first_from f i n ≤ i + n
unfolding first_from
from_le f i zero = omega arith
from_le f i (suc n) = go (f i) (from_le f (suc i) n)
  where
    go : (b : Bool) → first_from f (suc i) n ≤ suc i + n → cond b (first_from f (suc i) n) i ≤ i + suc n
    go true h = omega arith
    go false h = omega arith

from_before : (f : ℕ → Bool) (i n j : ℕ) → i ≤ j → j < first_from f i n → f j ≡ true
unfolding first_from
from_before f i zero j l h = absurd (omega arith)
from_before f i (suc n) j l h = go (f i) refl h (λ k m. from_before f (suc i) n j k m)
  where
    go : (b : Bool) → f i ≡ b → j < cond b (first_from f (suc i) n) i → (suc i ≤ j → j < first_from f (suc i) n → f j ≡ true) → f j ≡ true
    go true e k ih = ⊎_elim (λ (q : i ≡ j). let p : f j ≡ true = rw q at e in p) (λ (m : i < j). ih m k) (eq-or-lt_of_le l)
    go false e k ih = absurd (omega arith)

from_stops : (f : ℕ → Bool) (i n : ℕ) → first_from f i n < i + n → f (first_from f i n) ≡ false
unfolding first_from
from_stops f i zero l = absurd (omega arith)
from_stops f i (suc n) l = go (f i) refl l (from_stops f (suc i) n)
  where
    go : (b : Bool) → f i ≡ b → cond b (first_from f (suc i) n) i < i + suc n
        → (first_from f (suc i) n < suc i + n → f (first_from f (suc i) n) ≡ false) → f (cond b (first_from f (suc i) n) i) ≡ false
    go true e k ih = ih (omega arith)
    go false e k ih = e

pub first : (f : ℕ → Bool) (n : ℕ) → First f n (first_of f n)
unfolding first_of
first f n = record {
  within = omega (arith, from_le f 0 n);
  before = λ j l. from_before f 0 n j (omega arith) l;
  stops = λ l. from_stops f 0 n (omega arith);
}

not_both : (b : Bool) → b ≡ true → b ≡ false → ⊥
not_both b h k = let z : ◌≡◌ {A = ℕ} 0 1 = cc in omega arith

pub first_is : (f : ℕ → Bool) (n i : ℕ) → First f n i → first_of f n ≡ i
first_is f n i h =
    let a = first f n in
    let p : first_of f n < i → ⊥ = λ l. not_both (f (first_of f n)) (h.before (first_of f n) l) (a.stops (omega (arith, h.within))) in
    let q : i < first_of f n → ⊥ = λ l. not_both (f i) (a.before i l) (h.stops (omega (arith, a.within))) in
    omega arith

pub first_none : (f : ℕ → Bool) (n : ℕ) → ((j : ℕ) → j < n → f j ≡ true) → first_of f n ≡ n
first_none f n h = first_is f n n (record { within = le_refl n; before = h; stops = λ l. absurd (omega arith) })

-- tests that agree below n first fail at the same number
pub first_same : (f g : ℕ → Bool) (n : ℕ) → ((i : ℕ) → i < n → f i ≡ g i) → first_of f n ≡ first_of g n
first_same f g n h =
    let a = first g n in
    first_is f n (first_of g n) (record {
      within = a.within;
      before = λ j l. h j (omega (arith, a.within)) ∙ a.before j l;
      stops = λ l. h (first_of g n) l ∙ a.stops l;
    })

-- that a test holds for all numbers below n, as a fact about each number
pub all_at : (f : ℕ → Bool) (n : ℕ) → all_of f n ≡ true → (i : ℕ) → i < n → f i ≡ true
all_at f n h i l = (first f n).before i (omega (arith, eqb-true (first_of f n) n h))

pub all_true : (f : ℕ → Bool) (n : ℕ) → ((i : ℕ) → i < n → f i ≡ true) → all_of f n ≡ true
all_true f n h = eq-eqb (first_of f n) n (first_none f n h)

pub all_fails : (f : ℕ → Bool) (n i : ℕ) → i < n → f i ≡ false → all_of f n ≡ false
all_fails f n i l e = go (all_of f n) refl
  where
    go : (b : Bool) → all_of f n ≡ b → b ≡ false
    go true h = absurd (not_both (f i) (all_at f n h i l) e)
    go false h = refl

-- a loop over the numbers below n that has found no failure before i
pub record PassedTests (f : ℕ → Bool) (n i : ℕ) : Type 0 where
  pub within : i ≤ n
  pub before : (j : ℕ) → j < i → f j ≡ true

module _ {f : ℕ → Bool} {n : ℕ} where
  pub passed_none : PassedTests f n 0
  passed_none = record { within = omega arith; before = below_none _ }

  module _ {i : ℕ} (h : PassedTests f n i) where
    pub passed_more : {b : Bool} → i < n → b ≡ f i → b ≡ true → PassedTests f n (i + 1)
    passed_more l e t = record { within = omega arith; before = below_more _ _ h.before (sym e ∙ t) }

    -- it ends at the first failure, or without one
    pub passed_stop : {b : Bool} → i < n → b ≡ f i → b ≡ false → i ≡ first_of f n
    passed_stop l e z = sym (first_is f n i (record { within = h.within; before = h.before; stops = λ _. sym e ∙ z }))

    pub passed_end : n ≤ i → i ≡ first_of f n
    passed_end l = sym (first_is f n i (record { within = h.within; before = h.before; stops = λ m. absurd (omega arith) }))

    -- the same for the test whether all pass
    pub passed_fails : {b : Bool} → i < n → b ≡ f i → b ≡ false → false ≡ all_of f n
    passed_fails l e z = sym (all_fails f n i l (sym e ∙ z))

    pub passed_all : n ≤ i → true ≡ all_of f n
    passed_all l = sym (all_true f n (λ j m. h.before j (omega arith)))

-- the first fault
module _ (f : ℕ → ℕ) (n : ℕ) where
  pub fault_within : first_fault f n ≤ n
  unfolding first_fault
  fault_within = (first (λ i. eqb (f i) 0) n).within

  pub fault_before : (j : ℕ) → j < first_fault f n → f j ≡ 0
  unfolding first_fault
  fault_before j l = eqb-true (f j) 0 ((first (λ i. eqb (f i) 0) n).before j l)

  pub fault_there : first_fault f n < n → f (first_fault f n) ≡ 0 → ⊥
  unfolding first_fault
  fault_there l = eqb-false (f (first_of (λ i. eqb (f i) 0) n)) 0 ((first (λ i. eqb (f i) 0) n).stops l)

  pub fault_none : ((j : ℕ) → j < n → f j ≡ 0) → first_fault f n ≡ n
  unfolding first_fault
  fault_none h = first_none (λ i. eqb (f i) 0) n (λ j m. eq-eqb (f j) 0 (h j m))

-- a loop over the numbers below n that has found no fault before i
pub record Faultless (f : ℕ → ℕ) (n i : ℕ) : Type 0 where
  pub within : i ≤ n
  pub before : (j : ℕ) → j < i → f j ≡ 0

module _ {f : ℕ → ℕ} {n : ℕ} where
  pub faultless_none : Faultless f n 0
  faultless_none = record { within = omega arith; before = below_none _ }

  module _ {i : ℕ} (h : Faultless f n i) where
    pub faultless_more : {m : ℕ} → i < n → m ≡ f i → m ≡ 0 → Faultless f n (i + 1)
    faultless_more l e z = record { within = omega arith; before = below_more _ _ h.before (sym e ∙ z) }

    tests : PassedTests (λ j. eqb (f j) 0) n i
    tests = record { within = h.within; before = λ j l. eq-eqb (f j) 0 (h.before j l) }

    -- it ends at the first fault, or without one
    pub faultless_stop : {m : ℕ} → i < n → m ≡ f i → (m ≡ 0 → ⊥) → i ≡ first_fault f n
    unfolding first_fault
    faultless_stop l e ne = passed_stop tests l refl (ne_eqb (f i) 0 (λ z. ne (e ∙ z)))

    pub faultless_end : n ≤ i → i ≡ first_fault f n
    unfolding first_fault
    faultless_end l = passed_end tests l

    -- the first fault is not before i
    pub faultless_far : i ≤ first_fault f n
    faultless_far =
        let m : first_fault f n < i → ⊥ = λ k. fault_there f n (omega (arith, h.within)) (h.before (first_fault f n) k) in
        omega arith

-- faults that agree below n occur first at the same number
pub fault_same : (f g : ℕ → ℕ) (n : ℕ) → ((i : ℕ) → i < n → f i ≡ g i) → first_fault f n ≡ first_fault g n
unfolding first_fault
fault_same f g n h = first_same (λ i. eqb (f i) 0) (λ i. eqb (g i) 0) n (λ i l. ap (λ (x : ℕ). eqb x 0) (h i l))
