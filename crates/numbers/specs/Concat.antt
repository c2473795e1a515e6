-- Laws of lists of equal length, one after the other. Assumes nothing.
use Rattle.std.specs.Prelude.{◌≡◌, refl, List, [], ◌++◌, length}
use Rattle.std.proofs.Common.{sym, ap, ◌∙◌, eq-or-lt_of_le, le_of_suc-le-suc, le_refl, add-one, get_or-append-add}
use Rattle.std.proofs.Math.Logic.{⊎_elim}
use Prim.Native.Nat.{ℕ, zero, suc, ◌+◌, ◌*◌, ◌<◌}
use Rattle.std.proofs.Math.Nat.{suc-mul, mul-le-mul_right}
use native.Mathlib.Omega.{arith}
use Rattle.std.proofs.Math.ListN.{length-append, get_or-append}
use Rattle.model.specs.Numbers.{at, concat_of}

-- an entry of the first list, and an entry of the second
pub at_first : (a b : List ℕ) (k : ℕ) → k < length a → at (a ++ b) k ≡ at a k
at_first a b k l = get_or-append a b 0 k l

pub at_second : (a b : List ℕ) (m k : ℕ) → length a ≡ m → at (a ++ b) (m + k) ≡ at b k
at_second a b m k e = ap (λ (j : ℕ). at (a ++ b) (j + k)) (sym e) ∙ get_or-append-add a b k 0

pub concat_more : (f : ℕ → List ℕ) (n : ℕ) → concat_of f (n + 1) ≡ concat_of f n ++ f n
unfolding concat_of
concat_more f n = rw add-one

pub concat_none : (f : ℕ → List ℕ) → concat_of f 0 ≡ []
unfolding concat_of
concat_none f = refl

-- lists that agree up to n have the same concatenation
pub concat_same : (f g : ℕ → List ℕ) (n : ℕ) → ((i : ℕ) → i < n → f i ≡ g i) → concat_of f n ≡ concat_of g n
unfolding concat_of
concat_same f g zero h = refl
concat_same f g (suc n) h = rw (concat_same f g n (λ i l. h i (omega arith)), h n (le_refl (suc n)))

-- each list has w numbers
module _ (f : ℕ → List ℕ) (w : ℕ) (same : (i : ℕ) → length (f i) ≡ w) where
  pub length_concat : (n : ℕ) → length (concat_of f n) ≡ n * w
  unfolding concat_of
  length_concat zero = omega arith
  length_concat (suc n) = length-append (concat_of f n) (f n) ∙ omega (arith, length_concat n, same n, suc-mul n w)

  -- number k of list i
  pub concat_at : (n i k : ℕ) → i < n → k < w → at (concat_of f n) (i * w + k) ≡ at (f i) k
  unfolding concat_of
  concat_at zero i k l m = absurd (omega arith)
  concat_at (suc n) i k l m = ⊎_elim
      (λ (e : i ≡ n). rw e (at_second (concat_of f n) (f n) (n * w) k (length_concat n)))
      (λ (h : i < n).
      at_first (concat_of f n) (f n) (i * w + k) (omega (arith, length_concat n, suc-mul i w, mul-le-mul_right {m = suc i} {n = n} w h))
      ∙ concat_at n i k h m)
      (eq-or-lt_of_le (le_of_suc-le-suc l))
