-- The theorems of granting: what the grants are, whatever the other ramps wish; that these sentences determine them; 24 exactly. Assumes nothing.
use Rattle.std.specs.Prelude.{◌≡◌, Bool, List, ℕ, zero, suc, ◌≤◌, ◌<◌, min, length, take}
use Rattle.std.proofs.Math.Path.{refl}
use Rattle.std.proofs.Common.{sym, ap, ◌∙◌, ⊎_elim, le_refl, not-suc-le-zero, eq-or-lt_of_le, le_of_suc-le-suc, arith, ext_get_or, take_all}
use Rattle.std.proofs.Math.Bool.{true, false}
use Rattle.model.specs.Numbers.{at, unless, sum_of}
use Rattle.numbers.specs.Tests.{not_both}
use Rattle.numbers.specs.SumLaws.{sum_start, sum_more}
use Rattle.model.specs.Street.{GrantRequest, street_ok, grants_of, granting_of, grants_after, Fair, GrantEnds}
use Rattle.street.specs.StreetLaws.{ok_request, request_ok, grants_length, grants_limit, grants_sure, grants_wish, grants_order, grants_whole}

-- 1: the grants are fair
pub fair : (limit : ℕ) (guarantees wishes : List ℕ) → GrantRequest limit guarantees wishes → Fair limit guarantees wishes (grants_of limit guarantees wishes)
fair limit guarantees wishes h = record {
  ramps = grants_length limit guarantees wishes;
  limited = grants_limit limit guarantees wishes h;
  sure = grants_sure limit guarantees wishes;
  wish = grants_wish limit guarantees wishes;
  order = grants_order limit guarantees wishes;
  whole = grants_whole limit guarantees wishes h;
}

-- 2: a ramp's guarantee holds whatever the others wish: it depends only on the ramp's own wish
pub whatever_others_wish : (limit : ℕ) (guarantees : List ℕ) (i wish : ℕ) → i < length guarantees
    → (wishes : List ℕ) → at wishes i ≡ wish → min wish (at guarantees i) ≤ at (grants_of limit guarantees wishes) i
whatever_others_wish limit guarantees i wish l wishes e = omega (arith, grants_sure limit guarantees wishes i l)

-- 3: these sentences determine the grants.
-- If two lists agree before i, the one with less at i and no more after it has the smaller sum
module _ (x y : List ℕ) (same : length x ≡ length y) (i : ℕ) (before : (k : ℕ) → k < i → at x k ≡ at y k) where
  sums_before : (m : ℕ) → m ≤ i → m ≤ length x → sum_of (take m x) ≡ sum_of (take m y)
  sums_before zero a b = omega (arith, sum_start x, sum_start y)
  sums_before (suc m) a b =
      omega (arith, sums_before m (omega arith) (omega arith), before m a, sum_more m x b, sum_more m y (omega arith))

  sums_after : at x i < at y i → ((j : ℕ) → i < j → j < length x → at x j ≤ at y j)
      → (m : ℕ) → i < m → m ≤ length x → sum_of (take m x) < sum_of (take m y)
  sums_after l after zero a b = absurd (not-suc-le-zero a)
  sums_after l after (suc m) a b = ⊎_elim
      (λ (e : i ≡ m). omega (arith, sums_before m (omega arith) (omega arith), ap (at x) e, ap (at y) e, sum_more m x b, sum_more m y (omega arith)))
      (λ (h : i < m). omega (arith, sums_after l after m h (omega arith), after m h b, sum_more m x b, sum_more m y (omega arith)))
      (eq-or-lt_of_le (le_of_suc-le-suc a))

module _ {limit : ℕ} {guarantees wishes : List ℕ} where
  -- neither of two fair grants is the first to give a ramp less
  no_less : {x y : List ℕ} → Fair limit guarantees wishes x → Fair limit guarantees wishes y → (i : ℕ) → i < length guarantees
      → ((k : ℕ) → k < i → at x k ≡ at y k) → at x i < at y i → ⊥
  no_less {x} {y} f g i l before h =
      let same : length x ≡ length y = f.ramps ∙ sym g.ramps in
      let after : (j : ℕ) → i < j → j < length x → at x j ≤ at y j = λ j a b.
      omega (arith, f.order i j a (omega (arith, f.ramps)) (omega (arith, g.wish i l)), g.sure j (omega (arith, f.ramps))) in
      let less = sums_after x y same i before h after (length x) (omega (arith, f.ramps)) (le_refl _) in
      omega (arith, f.whole, g.whole, ap sum_of (take_all (length x) x (le_refl _)), ap sum_of (take_all (length x) y (omega arith)))

  agree : {x y : List ℕ} → Fair limit guarantees wishes x → Fair limit guarantees wishes y → (i : ℕ) → i ≤ length guarantees
      → (k : ℕ) → k < i → at x k ≡ at y k
  agree f g zero l k a = absurd (not-suc-le-zero a)
  agree {x} {y} f g (suc i) l k a = ⊎_elim
      (λ (e : k ≡ i).
      let before = agree f g i (omega arith) in
      let p = no_less f g i l before in
      let q = no_less g f i l (λ j m. sym (before j m)) in
      let z : at x i ≡ at y i = omega arith in
      rw e z)
      (λ (m : k < i). agree f g i (omega arith) k m)
      (eq-or-lt_of_le (le_of_suc-le-suc a))

  pub fair_unique : GrantRequest limit guarantees wishes → (x : List ℕ) → Fair limit guarantees wishes x → x ≡ grants_of limit guarantees wishes
  fair_unique h x f =
      let g = fair limit guarantees wishes h in
      ext_get_or 0 x _ (f.ramps ∙ sym g.ramps) (λ k l. agree f g (length guarantees) (le_refl _) k (omega (arith, f.ramps)))

-- 4: every answer is one of the two cases
module _ (limit : ℕ) (guarantees wishes grants : List ℕ) where
  pub ends : GrantEnds limit guarantees wishes grants (granting_of limit guarantees wishes (length grants)) (grants_after limit guarantees wishes grants)
  unfolding granting_of grants_after
  ends = go (street_ok limit guarantees wishes (length grants)) refl
    where
      go : (a : Bool) → street_ok limit guarantees wishes (length grants) ≡ a
          → GrantEnds limit guarantees wishes grants (unless a 24 0) (unless a grants (grants_of limit guarantees wishes))
      go true e =
          let request = ok_request limit guarantees wishes (length grants) e in
          GrantEnds.granted request.0 request.1 (fair limit guarantees wishes request.0)
      go false e = GrantEnds.refused (λ request same. not_both (request_ok limit guarantees wishes (length grants) request same) e)

-- an answer and grants that the definitions give are one of the cases, so a contract may promise all three
pub meets_contract : (limit : ℕ) (guarantees wishes grants : List ℕ) {number : ℕ} {left : List ℕ}
    → number ≡ granting_of limit guarantees wishes (length grants) → left ≡ grants_after limit guarantees wishes grants
    → (number ≡ granting_of limit guarantees wishes (length grants)) × ((left ≡ grants_after limit guarantees wishes grants)
    × GrantEnds limit guarantees wishes grants number left)
meets_contract limit guarantees wishes grants e f = (e, (f, rw (e, f) (ends limit guarantees wishes grants)))

-- 5: 24 applies exactly if a limit is broken; it leaves the lent grants unchanged
module _ {limit : ℕ} {guarantees wishes grants : List ℕ} where
  refused_not : {number : ℕ} {left : List ℕ} → GrantEnds limit guarantees wishes grants number left → number ≡ 24
      → GrantRequest limit guarantees wishes → length grants ≡ length guarantees → ⊥
  refused_not (GrantEnds.refused h) e request same = h request same
  refused_not (GrantEnds.granted q s f) e request same = omega arith

  not_refused : {number : ℕ} {left : List ℕ} → GrantEnds limit guarantees wishes grants number left
      → (GrantRequest limit guarantees wishes → length grants ≡ length guarantees → ⊥) → (number ≡ 24) × (left ≡ grants)
  not_refused (GrantEnds.refused h) n = (refl, refl)
  not_refused (GrantEnds.granted q s f) n = absurd (n q s)

module _ (limit : ℕ) (guarantees wishes grants : List ℕ) where
  pub refused_only : granting_of limit guarantees wishes (length grants) ≡ 24 → GrantRequest limit guarantees wishes → length grants ≡ length guarantees → ⊥
  refused_only = refused_not (ends limit guarantees wishes grants)

  pub refused_if : (GrantRequest limit guarantees wishes → length grants ≡ length guarantees → ⊥)
      → (granting_of limit guarantees wishes (length grants) ≡ 24) × (grants_after limit guarantees wishes grants ≡ grants)
  refused_if = not_refused (ends limit guarantees wishes grants)
