-- Laws of releases put into a record: they are there, and nothing else changes. Assumes nothing.
use Rattle.std.specs.Prelude.{◌≡◌, refl, ◌⊎◌, ℕ, zero, suc, ◌+◌, ◌-◌, ◌*◌, ◌^◌, ◌≤◌, ◌<◌, length, set}
use Rattle.std.proofs.Math.Path.{sym, ap}
use Rattle.std.proofs.Common.{◌∙◌, ⊎_elim, inl, inr, add-zero, add-suc, mul-le-mul_right, not-suc-le-zero, eq-or-lt_of_le}
use Rattle.std.proofs.Common.{le_of_suc-le-suc, le_refl, arith, length-set, get_or-set_same, get_or-set_other, ext_get_or}
use mathlib.Core.List.{List, [], ◌∷◌}
use Rattle.model.specs.Numbers.{at}
use Rattle.numbers.specs.PlacedText.{length_placed}
use Rattle.model.specs.Record.{number_size, version_offset, version_of, row_size, row_start, bytes_of, entry_start, entry_of, record_row}
use Rattle.fields.specs.FieldsLaws.{HoldsRow, length_row, row_at_lem, row_within}
use Rattle.model.specs.Put.{put_entry, release_number, put_releases, put_table, released_row}
use Rattle.model.specs.Put.{Outside}
use Rattle.put.specs.Bytes.{Apart, compare, byte_other, number_placed, number_apart, zero_placed}
use Rattle.model.specs.Put.{NumberPut}

-- in a row of two cells, 8 and 9 are put after the arrivals of each
on_paper : released_row (λ i. 8 + i) 2 (1 ∷ 2 ∷ 3 ∷ 4 ∷ 5 ∷ []) ≡ 1 ∷ 2 ∷ 8 ∷ 4 ∷ 9 ∷ []
unfolding released_row
on_paper = refl

-- the rows do not overlap, and neither do the numbers of a row
entries_apart : (version n t k q j : ℕ) → k < 1 + 2 * n → j < 1 + 2 * n → (q ≡ t → j ≡ k → ⊥)
    → Apart (entry_start version n q j) number_size (entry_start version n t k) number_size
entries_apart version n t k q j hk hj d = ⊎_elim
    (λ (e : q ≡ t). rw e (⊎_elim
    (λ (f : j ≡ k). absurd (d e f))
    (λ (o : (j < k) ⊎ (k < j)). ⊎_elim (λ (l : j < k). inl (omega arith)) (λ (l : k < j). inr (omega arith)) o)
    (compare j k)))
    (λ (o : (q < t) ⊎ (t < q)). ⊎_elim
    (λ (l : q < t). inl (omega (arith, row_within version n q t l)))
    (λ (l : t < q). inr (omega (arith, row_within version n t q l))) o)
    (compare q t)

-- a row whose numbers are those of another list
row_by : (s : List ℕ) (n t : ℕ) (list : List ℕ) → length list ≡ 1 + 2 * n → ((j : ℕ) → j < 1 + 2 * n → entry_of s n t j ≡ at list j) → record_row s n t ≡ list
row_by s n t list size h =
    ext_get_or 0 (record_row s n t) list (length_row s n t ∙ sym size)
    (λ j m. let l : j < 1 + 2 * n = omega (arith, length_row s n t) in row_at_lem s n t j l ∙ h j l)

module _ (s : List ℕ) (n t k x : ℕ) (l : k < 1 + 2 * n) (held : HoldsRow s n t) (fits : x < 2 ^ 32) where
  abbrev u : List ℕ
  u = put_entry s n t k x

  abbrev start : ℕ
  start = entry_start (version_of s) n t k

  room : entry_start (version_of s) n t k + number_size ≤ length s
  room = omega (arith, held.row)

  -- the header, and so the layout, is unchanged
  kept : version_of u ≡ version_of s
  kept = number_apart s start number_size x room version_offset 1 (inl (omega arith))

  number : entry_of u n t k ≡ x
  number = rw kept (number_placed s start number_size x room (omega arith))

  others : (q j : ℕ) → j < 1 + 2 * n → (q ≡ t → j ≡ k → ⊥) → entry_of u n q j ≡ entry_of s n q j
  others q j a d =
      rw kept (number_apart s start number_size x room (entry_start (version_of s) n q j) number_size (entries_apart (version_of s) n t k q j l a d))

  entry : (j : ℕ) → j < 1 + 2 * n → entry_of u n t j ≡ at (set (record_row s n t) k x) j
  entry j m = ⊎_elim
      (λ (q : j ≡ k). rw q (number ∙ sym (get_or-set_same (record_row s n t) k x 0 (omega (arith, length_row s n t)))))
      (λ (o : (j < k) ⊎ (k < j)).
      let d : j ≡ k → ⊥ = λ q. ⊎_elim (λ (a : j < k). omega arith) (λ (a : k < j). omega arith) o in
      others t j m (λ _ e. d e) ∙ sym (row_at_lem s n t j m) ∙ sym (get_or-set_other (record_row s n t) k j x 0 d))
      (compare j k)

  pub put_entry_lem : NumberPut s (put_entry s n t k x) n t k x
  put_entry_lem = record {
    size = length_placed s start (bytes_of number_size x);
    version = kept;
    byte = byte_other s start number_size x room;
    number = number;
    others = others;
    row = row_by u n t (set (record_row s n t) k x) (length-set (record_row s n t) k x ∙ length_row s n t) entry;
    rows = λ q d. row_by u n q (record_row s n q) (length_row s n q) (λ j a. others q j a (λ e _. d e) ∙ sym (row_at_lem s n q j a));
  }

-- a row with given releases
pub length_released : (f : ℕ → ℕ) (c : ℕ) (row : List ℕ) → length (released_row f c row) ≡ length row
unfolding released_row
length_released f zero row = refl
length_released f (suc c) row = rw length-set (length_released f c row)

pub released_at : (f : ℕ → ℕ) (c : ℕ) (row : List ℕ) (i : ℕ) → i < c → 2 * c < length row → at (released_row f c row) (release_number i) ≡ f i
unfolding released_row
released_at f zero row i l h = absurd (not-suc-le-zero l)
released_at f (suc c) row i l h = ⊎_elim
    (λ (e : i ≡ c). rw e (get_or-set_same (released_row f c row) (release_number c) (f c) 0 (omega (arith, length_released f c row))))
    (λ (m : i < c).
    get_or-set_other (released_row f c row) (release_number c) (release_number i) (f c) 0 (λ e. omega arith) ∙ released_at f c row i m (omega arith))
    (eq-or-lt_of_le (le_of_suc-le-suc l))

released_other : (f : ℕ → ℕ) (c : ℕ) (row : List ℕ) (j : ℕ) → ((i : ℕ) → i < c → j ≡ release_number i → ⊥) → at (released_row f c row) j ≡ at row j
unfolding released_row
released_other f zero row j h = refl
released_other f (suc c) row j h =
    get_or-set_other (released_row f c row) (release_number c) j (f c) 0 (h c (omega arith)) ∙ released_other f c row j (λ i l. h i (omega arith))

pub released_gate : (f : ℕ → ℕ) (c : ℕ) (row : List ℕ) → at (released_row f c row) 0 ≡ at row 0
released_gate f c row = released_other f c row 0 (λ i l e. omega arith)

pub released_arrivals : (f : ℕ → ℕ) (c : ℕ) (row : List ℕ) (i : ℕ) → at (released_row f c row) (2 * i + 1) ≡ at row (2 * i + 1)
released_arrivals f c row i = released_other f c row (2 * i + 1) (λ j l e. omega arith)

-- u is s with the releases of the first c cells, given by f, put into the row of step t
pub record PutRow (s u : List ℕ) (n t : ℕ) (f : ℕ → ℕ) (c : ℕ) : Type 0 where
  pub size : length u ≡ length s
  pub version : version_of u ≡ version_of s
  pub byte : (b : ℕ) → ((i : ℕ) → i < c → Outside b (entry_start (version_of s) n t (release_number i)) number_size) → at u b ≡ at s b
  pub row : record_row u n t ≡ released_row f c (record_row s n t)
  pub rows : (q : ℕ) → (q ≡ t → ⊥) → record_row u n q ≡ record_row s n q

-- one more release
put_more : {s u v : List ℕ} {n t : ℕ} {f : ℕ → ℕ} (c : ℕ) → PutRow s u n t f c → NumberPut u v n t (release_number c) (f c) → PutRow s v n t f (suc c)
unfolding released_row
put_more {f = f} c p q = record {
  size = q.size ∙ p.size;
  version = q.version ∙ p.version;
  byte = λ b o. q.byte b (rw p.version (o c (omega arith))) ∙ p.byte b (λ i l. o i (omega arith));
  row = q.row ∙ ap (λ (x : List ℕ). set x (release_number c) (f c)) p.row;
  rows = λ j d. q.rows j d ∙ p.rows j d;
}

pub put_releases_lem : (s : List ℕ) (n t : ℕ) (f : ℕ → ℕ) (c : ℕ) → c ≤ n → HoldsRow s n t → ((i : ℕ) → i < c → f i < 2 ^ 32)
    → PutRow s (put_releases s n t f c) n t f c
unfolding put_releases released_row
put_releases_lem s n t f zero h l m = record { size = refl; version = refl; byte = λ b o. refl; row = refl; rows = λ q d. refl }
put_releases_lem s n t f (suc c) h l m =
    let p = put_releases_lem s n t f c (omega arith) l (λ i a. m i (omega arith)) in
    let held : HoldsRow (put_releases s n t f c) n t = record { cells = l.cells; row = rw p.version (omega (arith, p.size, l.row)) } in
    put_more c p (put_entry_lem (put_releases s n t f c) n t (release_number c) (f c) (omega arith) held (m c (omega arith)))

-- putting releases of 0 over 0 changes nothing
module _ (s : List ℕ) (n t : ℕ) (f : ℕ → ℕ) (held : HoldsRow s n t) (small : (i : ℕ) → f i < 2 ^ 32) where
  -- the release of the cell at i is 0, and 0 is put there
  abbrev pub NoRelease : ℕ → Type 0
  NoRelease i = (f i ≡ 0) × (at (record_row s n t) (release_number i) ≡ 0)

  put_one : (c : ℕ) → c < n → NoRelease c → put_releases s n t f (suc c) ≡ put_releases s n t f c
  unfolding put_releases
  put_one c l (e, z) =
      let u = put_releases s n t f c in
      let p = put_releases_lem s n t f c (omega arith) held (λ i _. small i) in
      let there : entry_of u n t (release_number c) ≡ 0 =
      sym (row_at_lem u n t (release_number c) (omega arith))
      ∙ ap (λ (row : List ℕ). at row (release_number c)) p.row
      ∙ released_other f c (record_row s n t) (release_number c) (λ i m q. omega arith)
      ∙ z in
      ap (put_entry u n t (release_number c)) e ∙ zero_placed u (entry_start (version_of u) n t (release_number c)) (rw p.version (omega (arith, p.size, held.row))) there

  put_skip : (a d : ℕ) → a + d ≤ n → ((i : ℕ) → a ≤ i → i < a + d → NoRelease i) → put_releases s n t f (a + d) ≡ put_releases s n t f a
  put_skip a zero l z = ap (put_releases s n t f) (add-zero a)
  put_skip a (suc d) l z =
      ap (put_releases s n t f) (add-suc a d)
      ∙ put_one (a + d) (omega arith) (z (a + d) (omega arith) (omega arith))
      ∙ put_skip a d (omega arith) (λ i x y. z i x (omega arith))

  pub put_to : (a b : ℕ) → a ≤ b → b ≤ n → ((i : ℕ) → a ≤ i → i < b → NoRelease i) → put_releases s n t f b ≡ put_releases s n t f a
  put_to a b h l z =
      let e : a + (b - a) ≡ b = omega arith in
      ap (put_releases s n t f) (sym e) ∙ put_skip a (b - a) (omega arith) (λ i x y. z i x (omega arith))

-- only the releases of these cells matter
pub put_same : (s : List ℕ) (n t : ℕ) (f g : ℕ → ℕ) (c : ℕ) → ((i : ℕ) → i < c → f i ≡ g i) → put_releases s n t f c ≡ put_releases s n t g c
unfolding put_releases
put_same s n t f g zero h = refl
put_same s n t f g (suc c) h = rw (put_same s n t f g c (λ i l. h i (omega arith)), h c (omega arith))

-- u is s with the releases f put into the rows of the first k steps
pub record PutTable (s u : List ℕ) (n : ℕ) (f : ℕ → ℕ → ℕ) (k : ℕ) : Type 0 where
  pub size : length u ≡ length s
  pub version : version_of u ≡ version_of s
  pub byte : (b : ℕ) → ((t i : ℕ) → t < k → i < n → Outside b (entry_start (version_of s) n t (release_number i)) number_size) → at u b ≡ at s b
  pub row : (t : ℕ) → t < k → record_row u n t ≡ released_row (f t) n (record_row s n t)
  pub later : (t : ℕ) → k ≤ t → record_row u n t ≡ record_row s n t

-- one more row
table_more : {s u v : List ℕ} {n : ℕ} {f : ℕ → ℕ → ℕ} (k : ℕ) → PutTable s u n f k → PutRow u v n k (f k) n → PutTable s v n f (suc k)
table_more {n = n} {f = f} k p q = record {
  size = q.size ∙ p.size;
  version = q.version ∙ p.version;
  byte = λ b o. q.byte b (λ i l. rw p.version (o k i (omega arith) l)) ∙ p.byte b (λ t i l m. o t i (omega arith) m);
  row = λ t l. ⊎_elim
      (λ (e : t ≡ k). rw e (q.row ∙ ap (released_row (f k) n) (p.later k (omega arith))))
      (λ (m : t < k). q.rows t (λ e. omega arith) ∙ p.row t m)
      (eq-or-lt_of_le (le_of_suc-le-suc l));
  later = λ t l. q.rows t (λ e. omega arith) ∙ p.later t (omega arith);
}

pub put_table_lem : (s : List ℕ) (n : ℕ) (f : ℕ → ℕ → ℕ) (k : ℕ) → ((t : ℕ) → t < k → HoldsRow s n t)
    → ((t i : ℕ) → t < k → i < n → f t i < 2 ^ 32) → PutTable s (put_table s n f k) n f k
unfolding put_table
put_table_lem s n f zero h m = record {
  size = refl;
  version = refl;
  byte = λ b o. refl;
  row = λ t l. absurd (not-suc-le-zero l);
  later = λ t l. refl;
}
put_table_lem s n f (suc k) h m =
    let w : HoldsRow s n k = h k (omega arith) in
    let p = put_table_lem s n f k (λ t a. h t (omega arith)) (λ t i a b. m t i (omega arith) b) in
    let held : HoldsRow (put_table s n f k) n k = record { cells = w.cells; row = rw p.version (omega (arith, p.size, w.row)) } in
    table_more k p (put_releases_lem (put_table s n f k) n k (f k) n (le_refl n) held (λ i a. m k i (omega arith) a))

-- the bytes before the rows are unchanged
pub table_head : {s u : List ℕ} {n : ℕ} {f : ℕ → ℕ → ℕ} {k : ℕ} → PutTable s u n f k → (b : ℕ) → b < row_start (version_of s) n 0
    → at u b ≡ at s b
table_head {n = n} p b l = p.byte b (λ t i h m. inl (omega (arith, mul-le-mul_right {m = 0} {n = t} (row_size n) (omega arith))))
