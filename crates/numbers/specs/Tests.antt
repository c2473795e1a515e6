-- Tests on numbers: one after the other, and joined by `&&`. Assumes nothing.
use Rattle.std.specs.Prelude.{◌≡◌, refl, Bool, true, false, ◌&&◌, ◌⊎◌, ℕ, ◌≤◌, ◌<◌, leb, eqb}
use Rattle.std.proofs.Common.{inl, inr, arith, leb-true, leb-false, eqb-true, le-leb, eq-eqb}
use Rattle.std.proofs.lemmas.Bool.{eqb-false}
use Rattle.model.specs.Numbers.{unless}

-- a fact about a chain of refusals, one test at a time: it holds for the refusal if the test fails, and for the rest if it passes
pub unless_elim : {A : Type 0} (P : A → Type 0) (test : Bool) {refused rest : A} → (test ≡ false → P refused) → (test ≡ true → P rest)
    → P (unless test refused rest)
unless_elim P true f g = g refl
unless_elim P false f g = f refl

-- two chains with the same first test are equal if the rests are equal
pub unless_same : {A : Type 0} (test : Bool) (refused : A) {rest other : A} → (test ≡ true → rest ≡ other)
    → unless test refused rest ≡ unless test refused other
unless_same true refused h = h refl
unless_same false refused h = refl

-- a test that passes does not fail, and one that does not fail passes
pub not_both : {t : Bool} → t ≡ true → t ≡ false → ⊥
not_both h k = let z : ◌≡◌ {A = ℕ} 0 1 = cc in omega arith

pub passes : (t : Bool) → (t ≡ false → ⊥) → t ≡ true
passes true h = refl
passes false h = absurd (h refl)

-- a number is a fault, or it is 0
pub fault_elim : {P : Type 0} (number : ℕ) → ((number ≡ 0 → ⊥) → P) → (number ≡ 0 → P) → P
fault_elim {P} number f g = go (eqb number 0) refl
  where
    go : (t : Bool) → eqb number 0 ≡ t → P
    go true e = g (eqb-true number 0 e)
    go false e = f (eqb-false number 0 e)

pub and_true : (a b : Bool) → a && b ≡ true → (a ≡ true) × (b ≡ true)
and_true true b h = (refl, h)
and_true false b h = absurd (let z : ◌≡◌ {A = ℕ} 0 1 = cc in omega arith)

pub both_true : (a b : Bool) → a ≡ true → b ≡ true → a && b ≡ true
both_true a b h k = rw (h, k)

-- the first of several tests joined by `&&`
pub le_head : (a b : ℕ) (t : Bool) → leb a b && t ≡ true → (a ≤ b) × (t ≡ true)
le_head a b t h = let p = and_true (leb a b) t h in (leb-true a b p.0, p.1)

pub eq_head : (a b : ℕ) (t : Bool) → eqb a b && t ≡ true → (a ≡ b) × (t ≡ true)
eq_head a b t h = let p = and_true (eqb a b) t h in (eqb-true a b p.0, p.1)

pub le_then : (a b : ℕ) (t : Bool) → a ≤ b → t ≡ true → leb a b && t ≡ true
le_then a b t h k = both_true (leb a b) t (le-leb a b h) k

pub eq_then : (a b : ℕ) (t : Bool) → a ≡ b → t ≡ true → eqb a b && t ≡ true
eq_then a b t h k = both_true (eqb a b) t (eq-eqb a b h) k

-- of two numbers, one is at most the other
pub order : (a b : ℕ) → (a ≤ b) ⊎ (b < a)
order a b = go (leb a b) refl
  where
    go : (t : Bool) → leb a b ≡ t → (a ≤ b) ⊎ (b < a)
    go true e = inl (leb-true a b e)
    go false e = inr (leb-false a b e)

-- a test whose fault is not 0
pub one_zero : (a b m : ℕ) → (m ≡ 0 → ⊥) → unless (leb a b) m 0 ≡ 0 → a ≤ b
one_zero a b m hm = unless_elim (λ (x : ℕ). x ≡ 0 → a ≤ b) (leb a b) (λ _ z. absurd (hm z)) (λ e _. leb-true a b e)

pub one_pass : (a b m : ℕ) → a ≤ b → unless (leb a b) m 0 ≡ 0
one_pass a b m h = rw (le-leb a b h)

-- two such tests, one after the other
pub two_zero : (a b c d m k : ℕ) → (m ≡ 0 → ⊥) → (k ≡ 0 → ⊥) → unless (leb a b) m (unless (leb c d) k 0) ≡ 0 → (a ≤ b) × (c ≤ d)
two_zero a b c d m k hm hk =
    unless_elim (λ (x : ℕ). x ≡ 0 → (a ≤ b) × (c ≤ d)) (leb a b) (λ _ z. absurd (hm z)) (λ e.
    unless_elim (λ (x : ℕ). x ≡ 0 → (a ≤ b) × (c ≤ d)) (leb c d) (λ _ z. absurd (hk z)) (λ f _. (leb-true a b e, leb-true c d f)))

pub two_pass : (a b c d m k : ℕ) → a ≤ b → c ≤ d → unless (leb a b) m (unless (leb c d) k 0) ≡ 0
two_pass a b c d m k h l = rw (le-leb a b h, le-leb c d l)
