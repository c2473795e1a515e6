-- Laws of tables. Assumes nothing.
use Rattle.std.specs.Prelude.{◌≡◌, get_or}
use Rattle.std.proofs.Common.{sym, ◌∙◌, mul-le-mul_right, suc-mul, not-suc-le-zero, eq-or-lt_of_le, le_of_suc-le-suc, add-one, length-take-le, get_or-take, get_or-drop}
use Rattle.std.proofs.Math.Path.{ap}
use Rattle.std.proofs.Math.Logic.{⊎_elim}
use mathlib.Core.List.{List, [], ◌++◌, append_assoc, append-nil}
use Prim.Native.Nat.{ℕ, zero, suc, ◌+◌, ◌-◌, ◌*◌, ◌≤◌, ◌<◌}
use native.Mathlib.Omega.{arith}
use Rattle.std.proofs.Math.ListN.{length, take, drop, length-append, length-drop}
use Rattle.std.proofs.Math.Seq.{take_at, drop_at, drop-drop}
use Rattle.model.specs.Numbers.{concat_of, row_at, front_of}
use Rattle.numbers.specs.Concat.{concat_more, concat_none, concat_same, length_concat}

-- row k ends within t rows
pub row_ends : (k t w : ℕ) → k < t → k * w + w ≤ t * w
row_ends k t w h = omega (arith, suc-mul k w, mul-le-mul_right {m = suc k} {n = t} w h)

pub mul_more : (k w : ℕ) → (k + 1) * w ≡ k * w + w
mul_more k w = rw add-one (suc-mul k w)

-- the row, as the code's slice gives it
pub part_row : (l : List ℕ) (w k from : ℕ) → from ≡ k * w → take (from + w - from) (drop from l) ≡ row_at l w k
unfolding row_at
part_row l w k from e =
    let h : from + w - from ≡ w = omega arith in
    rw (h, e)

pub part_length : (l : List ℕ) (from w : ℕ) → from + w ≤ length l → length (take (from + w - from) (drop from l)) ≡ w
part_length l from w h = length-take-le (from + w - from) (drop from l) (omega (arith, length-drop from l)) ∙ omega arith

-- each row of a table of t rows has w numbers
pub row_length : (l : List ℕ) (w k t : ℕ) → k < t → length l ≡ t * w → length (row_at l w k) ≡ w
unfolding row_at
row_length l w k t h e = length-take-le w (drop (k * w) l) (omega (arith, length-drop (k * w) l, row_ends k t w h))

-- an entry of a row, in the table
pub row_entry : (l : List ℕ) (w k i : ℕ) → i < w → get_or (row_at l w k) i 0 ≡ get_or l (k * w + i) 0
unfolding row_at
row_entry l w k i h = get_or-take w (drop (k * w) l) i 0 h ∙ get_or-drop (k * w) l i 0

-- rows of w numbers, one after the other
module _ (rows : ℕ → List ℕ) (w : ℕ) (same : (k : ℕ) → length (rows k) ≡ w) where
  row_there : (k j : ℕ) (rest : List ℕ) → j < k → row_at (concat_of rows k ++ rest) w j ≡ rows j
  unfolding concat_of row_at
  row_there zero j rest l = absurd (not-suc-le-zero l)
  row_there (suc k) j rest l =
      ap (λ (x : List ℕ). take w (drop (j * w) x)) (append_assoc (concat_of rows k) (rows k) rest)
      ∙ ⊎_elim
      (λ (e : j ≡ k). rw e (
      ap (take w) (drop_at (concat_of rows k) (rows k ++ rest) (k * w) (length_concat rows w same k)) ∙ take_at (rows k) rest w (same k)))
      (λ (m : j < k). row_there k j (rows k ++ rest) m)
      (eq-or-lt_of_le (le_of_suc-le-suc l))

  -- row j of the rows by themselves
  pub concat_row : (k j : ℕ) → j < k → row_at (concat_of rows k) w j ≡ rows j
  concat_row k j l = ap (λ (x : List ℕ). row_at x w j) (sym (append-nil (concat_of rows k))) ∙ row_there k j [] l

  -- rows in front of a list: the list's length stays, row j is there, and what is beyond is unchanged
  module _ (list : List ℕ) (k : ℕ) where
    pub length_front : k * w ≤ length list → length (front_of rows w list k) ≡ length list
    unfolding front_of
    length_front h =
        length-append (concat_of rows k) (drop (k * w) list) ∙ omega (arith, length_concat rows w same k, length-drop (k * w) list)

    pub front_row : (j : ℕ) → j < k → row_at (front_of rows w list k) w j ≡ rows j
    unfolding front_of
    front_row j l = row_there k j (drop (k * w) list) l

    pub front_past : drop (k * w) (front_of rows w list k) ≡ drop (k * w) list
    unfolding front_of
    front_past = drop_at (concat_of rows k) (drop (k * w) list) (k * w) (length_concat rows w same k)

    pub front_rows : take (k * w) (front_of rows w list k) ≡ concat_of rows k
    unfolding front_of
    front_rows = take_at (concat_of rows k) (drop (k * w) list) (k * w) (length_concat rows w same k)

    -- one more row, as the code's write to a part of the list leaves it
    pub front_more : (out part : List ℕ) (to : ℕ) → out ≡ front_of rows w list k → part ≡ rows k → to ≡ k * w
        → take to out ++ (part ++ drop (to + w - to) (drop to out)) ≡ front_of rows w list (k + 1)
    unfolding front_of
    front_more out part to eo ep et =
        let f = concat_of rows k in
        let n : length f ≡ k * w = length_concat rows w same k in
        let front : take to out ≡ f = rw (eo, et) (take_at f (drop (k * w) list) (k * w) n) in
        let size : to + w - to ≡ w = omega arith in
        let back : drop to out ≡ drop (k * w) list = rw (eo, et) (drop_at f (drop (k * w) list) (k * w) n) in
        let rest : drop w (drop (k * w) list) ≡ drop ((k + 1) * w) list = drop-drop w (k * w) list ∙ ap (λ (x : ℕ). drop x list) (sym (mul_more k w)) in
        rw (front, size, back, rest, ep, concat_more rows k) (sym (append_assoc f (rows k) (drop ((k + 1) * w) list)))

-- without a row the list is unchanged
pub front_none : (rows : ℕ → List ℕ) (w : ℕ) (list : List ℕ) → front_of rows w list 0 ≡ list
unfolding front_of
front_none rows w list = let e : 0 * w ≡ 0 = omega arith in rw (e, concat_none rows)

-- rows that agree up to k give the same list
pub front_same : (f g : ℕ → List ℕ) (w : ℕ) (list : List ℕ) (k : ℕ) → ((i : ℕ) → i < k → f i ≡ g i) → front_of f w list k ≡ front_of g w list k
unfolding front_of
front_same f g w list k h = rw (concat_same f g k h)
