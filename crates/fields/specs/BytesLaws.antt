-- Laws of a number's bytes: written and read back, read and written again. Assumes nothing.
use Rattle.std.specs.Prelude.{◌≡◌, refl, List, [], ◌∷◌, ◌++◌, ℕ, zero, suc, ◌+◌, ◌*◌, ◌/◌, ◌%◌, ◌^◌, ◌≤◌, ◌<◌, length, take, drop}
use Rattle.std.proofs.Common.{sym, ap, ◌∙◌, ⊎_elim, suc-mul, pow-suc, div-add-mod', div-lt_iff_lt-mul, eq-or-lt_of_le, le_of_suc-le-suc, le_refl}
use Rattle.std.proofs.Common.{arith, length-append, length-drop, get_or-take, get_or-drop, take-add, drop-drop, length-take-le, ext_get_or}
use Rattle.std.proofs.lemmas.List.{get_or_at}
use Rattle.model.specs.Numbers.{at, concat_of}
use Rattle.numbers.specs.Concat.{at_first, at_second, concat_at}
use Rattle.model.specs.Record.{number_of, bytes_of}

-- the bytes 1, 2, 3, 4 are 16,909,060
on_paper : number_of (1 ∷ 2 ∷ 3 ∷ 4 ∷ []) 0 4 ≡ 16909060
unfolding number_of
on_paper = refl

pub length_bytes : (w x : ℕ) → length (bytes_of w x) ≡ w
unfolding bytes_of
length_bytes zero x = refl
length_bytes (suc w) x = length-append (bytes_of w (x / 256)) (x % 256 ∷ []) ∙ omega (arith, length_bytes w (x / 256))

-- a number depends only on its bytes
pub number_same : (s t : List ℕ) (i j w : ℕ) → ((k : ℕ) → k < w → at s (i + k) ≡ at t (j + k)) → number_of s i w ≡ number_of t j w
unfolding number_of
number_same s t i j zero h = refl
number_same s t i j (suc w) h = rw (number_same s t i j w (λ k l. h k (omega arith)), h w (le_refl (suc w)))

-- bytes that are each at most another's make a number that is at most the other's
pub number_le : (s t : List ℕ) (i j w : ℕ) → ((k : ℕ) → k < w → at s (i + k) ≤ at t (j + k)) → number_of s i w ≤ number_of t j w
unfolding number_of
number_le s t i j zero h = le_refl 0
number_le s t i j (suc w) h = omega (arith, number_le s t i j w (λ k l. h k (omega arith)), h w (le_refl (suc w)))

-- the first w of w + 1 bytes, and the last
bytes_first : (w x k : ℕ) → k < w → at (bytes_of (suc w) x) k ≡ at (bytes_of w (x / 256)) k
unfolding bytes_of
bytes_first w x k l = at_first (bytes_of w (x / 256)) (x % 256 ∷ []) k (omega (arith, length_bytes w (x / 256)))

bytes_last : (w x : ℕ) → at (bytes_of (suc w) x) w ≡ x % 256
unfolding bytes_of
bytes_last w x = get_or_at (bytes_of w (x / 256)) (x % 256) [] 0 w (length_bytes w (x / 256))

-- a number that fits is read back from its bytes
pub number_bytes : (w x : ℕ) → x < 256 ^ w → number_of (bytes_of w x) 0 w ≡ x
unfolding number_of
number_bytes zero x h = omega arith
number_bytes (suc w) x h =
    let d : x / 256 < 256 ^ w = (div-lt_iff_lt-mul {k = 256} {x = x} {y = 256 ^ w} (omega arith)).1 (omega (arith, pow-suc 256 w)) in
    let e : number_of (bytes_of (suc w) x) 0 w ≡ x / 256 =
    number_same (bytes_of (suc w) x) (bytes_of w (x / 256)) 0 0 w (λ k l. at_zero k (bytes_first w x k l)) ∙ number_bytes w (x / 256) d in
    rw (e, last) (div-add-mod' x 256)
  where
    at_zero : (k : ℕ) → at (bytes_of (suc w) x) k ≡ at (bytes_of w (x / 256)) k → at (bytes_of (suc w) x) (0 + k) ≡ at (bytes_of w (x / 256)) (0 + k)
    at_zero k e = let z : 0 + k ≡ k = omega arith in rw z e

    last : at (bytes_of (suc w) x) (0 + w) ≡ x % 256
    last = let z : 0 + w ≡ w = omega arith in rw z (bytes_last w x)

-- the bytes of a number read from s are those in s
pub bytes_number : (s : List ℕ) (i w : ℕ) → ((k : ℕ) → k < w → at s (i + k) < 256) → (k : ℕ) → k < w → at (bytes_of w (number_of s i w)) k ≡ at s (i + k)
unfolding number_of
bytes_number s i zero h k l = absurd (omega arith)
bytes_number s i (suc w) h k l =
    let x = number_of s i w * 256 + at s (i + w) in
    let b : at s (i + w) < 256 = h w (le_refl (suc w)) in
    let d : x / 256 ≡ number_of s i w = omega arith in
    let m : x % 256 ≡ at s (i + w) = omega arith in
    ⊎_elim
    (λ (e : k ≡ w). rw e (bytes_last w x ∙ m))
    (λ (j : k < w). bytes_first w x k j ∙ rw d (bytes_number s i w (λ k l. h k (omega arith)) k j))
    (eq-or-lt_of_le (le_of_suc-le-suc l))

-- the w bytes of x are in s from an offset on
pub record Field (s : List ℕ) (offset w x : ℕ) : Type 0 where
  pub byte : (k : ℕ) → k < w → at s (offset + k) ≡ at (bytes_of w x) k

-- a field in front, after a list, and in one of several lists of equal length
pub field_first : (w x : ℕ) (rest : List ℕ) → Field (bytes_of w x ++ rest) 0 w x
field_first w x rest = record { byte = λ k l. let z : 0 + k ≡ k = omega arith in rw z (at_first (bytes_of w x) rest k (omega (arith, length_bytes w x))) }

pub field_only : (w x : ℕ) → Field (bytes_of w x) 0 w x
field_only w x = record { byte = λ k l. let z : 0 + k ≡ k = omega arith in rw z }

pub field_after : (a b : List ℕ) (m offset w x : ℕ) → length a ≡ m → Field b offset w x → Field (a ++ b) (m + offset) w x
field_after a b m offset w x e h =
    record { byte = λ k l. let z : m + offset + k ≡ m + (offset + k) = omega arith in rw z (at_second a b m (offset + k) e ∙ h.byte k l) }

pub field_before : (a b : List ℕ) (offset w x : ℕ) → offset + w ≤ length a → Field a offset w x → Field (a ++ b) offset w x
field_before a b offset w x h f = record { byte = λ k l. at_first a b (offset + k) (omega arith) ∙ f.byte k l }

pub field_in : (f : ℕ → List ℕ) (size n i offset w x : ℕ) → ((j : ℕ) → length (f j) ≡ size) → i < n → offset + w ≤ size
    → Field (f i) offset w x → Field (concat_of f n) (i * size + offset) w x
field_in f size n i offset w x same l h g =
    record {
      byte = λ k m.
          let z : i * size + offset + k ≡ i * size + (offset + k) = omega arith in
          rw z (concat_at f size same n i (offset + k) l (omega arith) ∙ g.byte k m);
    }

-- the same field, at an equal offset
pub field_there : {s : List ℕ} {offset place w x : ℕ} → offset ≡ place → Field s offset w x → Field s place w x
field_there e f = record { byte = λ k l. rw (← e) (f.byte k l) }

-- reading the field gives its number
pub field_number : (s : List ℕ) (offset place w x : ℕ) → offset ≡ place → x < 256 ^ w → Field s offset w x → number_of s place w ≡ x
field_number s offset place w x e h f =
    number_same s (bytes_of w x) place 0 w (λ k l. let z : 0 + k ≡ k = omega arith in rw (z, ← e) (f.byte k l)) ∙ number_bytes w x h

-- part of a list, and two parts one after the other
abbrev pub part_of : List ℕ → ℕ → ℕ → List ℕ
part_of s i w = take w (drop i s)

pub part_join : (s : List ℕ) (i m k : ℕ) → part_of s i m ++ part_of s (i + m) k ≡ part_of s i (m + k)
part_join s i m k = sym (take-add m k (drop i s) ∙ ap (λ (x : List ℕ). part_of s i m ++ take k x) (drop-drop m i s))

-- the same for offsets from a base
pub part_next : (s : List ℕ) (base offset m k : ℕ) → part_of s (base + offset) m ++ part_of s (base + (offset + m)) k ≡ part_of s (base + offset) (m + k)
part_next s base offset m k =
    let e : base + (offset + m) ≡ base + offset + m = omega arith in
    rw e (part_join s (base + offset) m k)

-- n parts of w bytes each from `base` on, one after the other
pub part_concat : (s : List ℕ) (base w n : ℕ) → concat_of (λ j. part_of s (base + j * w) w) n ≡ part_of s base (n * w)
unfolding concat_of
part_concat s base w zero = let e : 0 * w ≡ 0 = omega arith in rw e
part_concat s base w (suc n) =
    rw (part_concat s base w n) (part_join s base (n * w) w ∙ ap (part_of s base) (sym (suc-mul n w)))

-- a number's bytes are the part that it was read from
pub bytes_part : (s : List ℕ) (i w : ℕ) → ((k : ℕ) → at s k < 256) → i + w ≤ length s → bytes_of w (number_of s i w) ≡ part_of s i w
bytes_part s i w small l =
    let m : length (part_of s i w) ≡ w = length-take-le w (drop i s) (omega (arith, length-drop i s)) in
    ext_get_or 0 (bytes_of w (number_of s i w)) (part_of s i w) (length_bytes w (number_of s i w) ∙ sym m)
    (λ k h.
    let j : k < w = omega (arith, length_bytes w (number_of s i w)) in
    bytes_number s i w (λ k l. small (i + k)) k j ∙ sym (get_or-take w (drop i s) k 0 j ∙ get_or-drop i s k 0))
