-- Laws of a row's sum. Assumes nothing.
use Rattle.std.specs.Prelude.{◌≡◌, refl, List, [], ◌∷◌, ◌++◌, ℕ, zero, suc, ◌+◌, ◌-◌, ◌*◌, ◌^◌, ◌≤◌, ◌<◌, length, get_or, take, drop, set}
use Rattle.std.proofs.Common.{sym, ap, ◌∙◌, zero-add, suc-mul, le_of_eq, le_refl, add-one, arith, take-append-drop, length-drop, take_all, take-suc, take-suc-set}
use Rattle.model.specs.Numbers.{sum_of}

pub sum_append : (a b : List ℕ) → sum_of (a ++ b) ≡ sum_of a + sum_of b
unfolding sum_of
sum_append [] b = sym (zero-add (sum_of b))
sum_append (x ∷ a) b = omega (arith, sum_append a b)

-- a row's sum is the sum of its first half and of its second half
pub sum_halves : (k : ℕ) (l : List ℕ) → sum_of (take k l) + sum_of (drop k l) ≡ sum_of l
sum_halves k l = sym (sum_append (take k l) (drop k l)) ∙ ap sum_of (take-append-drop k l)

-- the same, with the second half as the code's slice gives it
pub sum_parts : (k : ℕ) (l : List ℕ) → sum_of (take k l) + sum_of (take (length l - k) (drop k l)) ≡ sum_of l
sum_parts k l = rw (take_all (length l - k) (drop k l) (le_of_eq (length-drop k l))) (sum_halves k l)

pub sum_one : (l : List ℕ) → length l ≡ 1 → sum_of l ≡ get_or l 0 0
unfolding sum_of
sum_one [] e = refl
sum_one (x ∷ []) e = omega arith
sum_one (x ∷ (y ∷ l)) e = omega arith

pub sum_none : (l : List ℕ) → length l ≡ 0 → sum_of l ≡ 0
unfolding sum_of
sum_none [] e = refl
sum_none (x ∷ l) e = omega arith

-- a row's sum, place by place
pub sum_start : (l : List ℕ) → sum_of (take 0 l) ≡ 0
unfolding sum_of
sum_start l = refl

pub sum_more : (k : ℕ) (l : List ℕ) → k < length l → sum_of (take (suc k) l) ≡ sum_of (take k l) + get_or l k 0
sum_more k l h =
    rw (take-suc l k 0 h, sum_append) (ap (λ (x : ℕ). sum_of (take k l) + x) (sum_one (get_or l k 0 ∷ []) refl))

-- the sum of n numbers that are each at most k
pub sum_bound : (l : List ℕ) (k n : ℕ) → n ≤ length l → ((i : ℕ) → i < n → get_or l i 0 ≤ k) → sum_of (take n l) ≤ n * k
sum_bound l k zero h f = omega (arith, sum_start l)
sum_bound l k (suc n) h f =
    omega (arith, sum_more n l h, f n (le_refl (suc n)), suc-mul n k, sum_bound l k n (omega arith) (λ i m. f i (omega arith)))

-- the sum of the first entries grows by the entry stored
pub sum_set : (l : List ℕ) (i x : ℕ) → i < length l → sum_of (take (i + 1) (set l i x)) ≡ sum_of (take i l) + x
sum_set l i x h =
    ap (λ (k : ℕ). sum_of (take k (set l i x))) (add-one i)
    ∙ ap sum_of (take-suc-set l i x h)
    ∙ sum_append (take i l) (x ∷ [])
    ∙ ap (λ (k : ℕ). sum_of (take i l) + k) (sum_one (x ∷ []) refl)

-- a loop that stores a row of 32-bit numbers has added the first i of them
pub record SummedRow (row : List ℕ) (sum i : ℕ) : Type 0 where
  pub is : sum ≡ sum_of (take i row)
  pub fits : sum ≤ (2 ^ 32 - 1) * i

pub summed_none : {row : List ℕ} → SummedRow row 0 0
summed_none {row} = record { is = sym (sum_start row); fits = omega arith }

pub summed_more : {row : List ℕ} {sum i : ℕ} → SummedRow row sum i → i < length row → {x y : ℕ} → y ≡ x → x ≤ 2 ^ 32 - 1
    → SummedRow (set row i x) (sum + y) (i + 1)
summed_more {row} {i = i} h l {x} e m = record { is = omega (arith, sum_set row i x l, h.is); fits = omega (arith, h.fits) }
