-- Laws of a number's bytes placed into a list: the number is read there, and everything outside it is unchanged. Assumes nothing.
use Rattle.std.specs.Prelude.{◌≡◌, refl, ◌⊎◌, List, ◌++◌, ℕ, zero, suc, ◌+◌, ◌-◌, ◌^◌, ◌≤◌, ◌<◌, length, take, drop}
use Rattle.std.proofs.Common.{sym, ap, ◌∙◌, ⊎_elim, inl, inr, append_assoc, not-suc-le-zero, eq-or-lt_of_le}
use Rattle.std.proofs.Common.{le_of_suc-le-suc, arith, get_or-take, get_or-drop, length-take-le, ext_get_or}
use Rattle.model.specs.Numbers.{at, placed}
use Rattle.numbers.specs.Tests.{order}
use Rattle.numbers.specs.Concat.{at_first, at_second}
use Rattle.numbers.specs.PlacedText.{placed_there, length_placed}
use Rattle.model.specs.Record.{number_size, number_of, bytes_of}
use Rattle.fields.specs.BytesLaws.{length_bytes, number_same, field_number}
use Rattle.model.specs.Put.{Outside}

-- the v bytes from j on and the w bytes from i on do not overlap
abbrev pub Apart : ℕ → ℕ → ℕ → ℕ → Type 0
Apart j v i w = (j + v ≤ i) ⊎ (i + w ≤ j)

pub apart_outside : (j v i w k : ℕ) → Apart j v i w → k < v → Outside (j + k) i w
apart_outside j v i w k (◌⊎◌.inl h) l = inl (omega arith)
apart_outside j v i w k (◌⊎◌.inr h) l = inr (omega arith)

-- two numbers are equal, or one is smaller
pub compare : (a b : ℕ) → (a ≡ b) ⊎ ((a < b) ⊎ (b < a))
compare zero zero = inl refl
compare zero (suc b) = inr (inl (omega arith))
compare (suc a) zero = inr (inr (omega arith))
compare (suc a) (suc b) = ⊎_elim
    (λ (e : a ≡ b). inl (ap suc e))
    (λ (o : (a < b) ⊎ (b < a)). ⊎_elim (λ (l : a < b). inr (inl (omega arith))) (λ (l : b < a). inr (inr (omega arith))) o)
    (compare a b)

-- a text placed into a list that has room for it
module _ (s : List ℕ) (i : ℕ) (text : List ℕ) (room : i + length text ≤ length s) where
  before : length (take i s) ≡ i
  before = length-take-le i s (omega arith)

  there : placed s i text ≡ take i s ++ (text ++ drop (i + length text) s)
  there = placed_there s i text room ∙ append_assoc (take i s) text (drop (i + length text) s)

  pub placed_other : (k : ℕ) → Outside k i (length text) → at (placed s i text) k ≡ at s k
  placed_other k (◌⊎◌.inl h) =
      ap (λ (x : List ℕ). at x k) there
      ∙ at_first (take i s) (text ++ drop (i + length text) s) k (omega (arith, before))
      ∙ get_or-take i s k 0 h
  placed_other k (◌⊎◌.inr h) =
      let j = k - (i + length text) in
      let e : k ≡ i + (length text + j) = omega arith in
      let f : i + length text + j ≡ k = omega arith in
      ap (λ (x : List ℕ). at x k) there
      ∙ ap (at (take i s ++ (text ++ drop (i + length text) s))) e
      ∙ at_second (take i s) (text ++ drop (i + length text) s) i (length text + j) before
      ∙ at_second text (drop (i + length text) s) (length text) j refl
      ∙ get_or-drop (i + length text) s j 0
      ∙ ap (at s) f

  pub placed_at : (k : ℕ) → k < length text → at (placed s i text) (i + k) ≡ at text k
  placed_at k l =
      ap (λ (x : List ℕ). at x (i + k)) there
      ∙ at_second (take i s) (text ++ drop (i + length text) s) i k before
      ∙ at_first text (drop (i + length text) s) k l

-- the w bytes of x placed from i on
module _ (s : List ℕ) (i w x : ℕ) (room : i + w ≤ length s) where
  fits : i + length (bytes_of w x) ≤ length s
  fits = omega (arith, length_bytes w x)

  pub byte_other : (k : ℕ) → Outside k i w → at (placed s i (bytes_of w x)) k ≡ at s k
  byte_other k h = placed_other s i (bytes_of w x) fits k (rw (length_bytes w x) h)

  -- x is the number there
  pub number_placed : x < 256 ^ w → number_of (placed s i (bytes_of w x)) i w ≡ x
  number_placed l =
      field_number (placed s i (bytes_of w x)) i i w x refl l
      (record { byte = λ k h. placed_at s i (bytes_of w x) fits k (omega (arith, length_bytes w x)) })

  -- a number that does not overlap it is unchanged
  pub number_apart : (j v : ℕ) → Apart j v i w → number_of (placed s i (bytes_of w x)) j v ≡ number_of s j v
  number_apart j v a = number_same (placed s i (bytes_of w x)) s j j v (λ k l. byte_other (j + k) (apart_outside j v i w k a l))

-- the bytes of a number that is 0 are 0
zero_bytes : (s : List ℕ) (i w : ℕ) → number_of s i w ≡ 0 → (k : ℕ) → k < w → at s (i + k) ≡ 0
unfolding number_of
zero_bytes s i zero e k l = absurd (not-suc-le-zero l)
zero_bytes s i (suc w) e k l = ⊎_elim
    (λ (q : k ≡ w). rw q (omega arith))
    (λ (m : k < w). zero_bytes s i w (omega arith) k m)
    (eq-or-lt_of_le (le_of_suc-le-suc l))

-- so putting 0 over 0 changes nothing
module _ (s : List ℕ) (i : ℕ) (room : i + number_size ≤ length s) (z : number_of s i number_size ≡ 0) where
  abbrev zeroed : List ℕ
  zeroed = placed s i (bytes_of number_size 0)

  same_byte : (k : ℕ) → at zeroed k ≡ at s k
  same_byte k = ⊎_elim
      (λ (h : i ≤ k).
      ⊎_elim
      (λ (m : i + number_size ≤ k). byte_other s i number_size 0 room k (inr m))
      (λ (m : k < i + number_size).
      let e : k ≡ i + (k - i) = omega arith in
      let l : k - i < number_size = omega arith in
      ap (at zeroed) e
      ∙ zero_bytes zeroed i number_size (number_placed s i number_size 0 room (omega arith)) (k - i) l
      ∙ sym (ap (at s) e ∙ zero_bytes s i number_size z (k - i) l))
      (order (i + number_size) k))
      (λ (h : k < i). byte_other s i number_size 0 room k (inl h))
      (order i k)

  pub zero_placed : placed s i (bytes_of number_size 0) ≡ s
  zero_placed = ext_get_or 0 zeroed s (length_placed s i (bytes_of number_size 0)) (λ k _. same_byte k)
