-- Laws of arrivals put into a record: only their own bytes change, and the arrivals that were there before don't matter. Assumes nothing.
use Rattle.std.specs.Prelude.{◌≡◌, refl, List, ℕ, zero, suc, ◌+◌, ◌-◌, ◌≤◌, ◌<◌, length}
use Rattle.std.proofs.Common.{sym, ap, ◌∙◌, ⊎_elim, inl, inr, not-suc-le-zero, eq-or-lt_of_le, le_of_suc-le-suc, le_refl, arith, ext_get_or}
use Rattle.model.specs.Numbers.{at, placed}
use Rattle.numbers.specs.Tests.{order}
use Rattle.numbers.specs.PlacedText.{length_placed}
use Rattle.model.specs.Record.{number_size, version_offset, version_of, row_start, bytes_of, entry_start, entry_of}
use Rattle.fields.specs.FieldsLaws.{HoldsRow, row_within}
use Rattle.fields.specs.BytesLaws.{length_bytes, number_same}
use Rattle.model.specs.Put.{put_entry, release_number}
use Rattle.model.specs.Put.{Outside}
use Rattle.put.specs.Bytes.{compare, placed_other, placed_at, byte_other, number_apart}
use Rattle.model.specs.Many.{arrival_number, put_arrivals, put_arrival_rows}

-- where the arrivals of place p are in the row of step t
abbrev pub arrival_start : ℕ → ℕ → ℕ → ℕ → ℕ
arrival_start version n t p = entry_start version n t (arrival_number p)

-- a byte outside the arrivals of the first c places in the row of step t, and outside those of the first k steps
abbrev pub OutsideRow : ℕ → ℕ → ℕ → ℕ → ℕ → Type 0
OutsideRow version n t c b = (p : ℕ) → p < c → Outside b (arrival_start version n t p) number_size

abbrev pub OutsideRows : ℕ → ℕ → ℕ → ℕ → Type 0
OutsideRows version n k b = (t p : ℕ) → t < k → p < n + 1 → Outside b (arrival_start version n t p) number_size

-- one number put: where it is, and what does not change
module _ (s : List ℕ) (n t p x : ℕ) (l : p < n + 1) (held : HoldsRow s n t) where
  room : arrival_start (version_of s) n t p + number_size ≤ length s
  room = omega (arith, held.row)

  one_version : version_of (put_entry s n t (arrival_number p) x) ≡ version_of s
  one_version = number_apart s (arrival_start (version_of s) n t p) number_size x room version_offset 1 (inl (omega arith))

  one_byte : (b : ℕ) → Outside b (arrival_start (version_of s) n t p) number_size → at (put_entry s n t (arrival_number p) x) b ≡ at s b
  one_byte = byte_other s (arrival_start (version_of s) n t p) number_size x room

-- u is s with other arrivals of the first c places in the row of step t
pub record ArrivedRow (s u : List ℕ) (n t c : ℕ) : Type 0 where
  pub size : length u ≡ length s
  pub version : version_of u ≡ version_of s
  pub byte : (b : ℕ) → OutsideRow (version_of s) n t c b → at u b ≡ at s b

-- the same row in a record of the same size and version
pub holds_on : {s u : List ℕ} {n t : ℕ} → length u ≡ length s → version_of u ≡ version_of s → HoldsRow s n t → HoldsRow u n t
holds_on size version h = record { cells = h.cells; row = rw version (omega (arith, size, h.row)) }

pub row_put : (s : List ℕ) (n t : ℕ) (f : ℕ → ℕ) (c : ℕ) → c ≤ n + 1 → HoldsRow s n t → ArrivedRow s (put_arrivals s n t f c) n t c
unfolding put_arrivals
row_put s n t f zero l h = record { size = refl; version = refl; byte = λ b o. refl }
row_put s n t f (suc c) l h =
    let u = put_arrivals s n t f c in
    let q = row_put s n t f c (omega arith) h in
    let held = holds_on q.size q.version h in
    record {
      size = length_placed u (arrival_start (version_of u) n t c) (bytes_of number_size (f c)) ∙ q.size;
      version = one_version u n t c (f c) l held ∙ q.version;
      byte = λ b o. one_byte u n t c (f c) l held b (rw q.version (o c (le_refl (suc c)))) ∙ q.byte b (λ p m. o p (omega arith));
    }

-- u is s with other arrivals in the rows of the first k steps
pub record ArrivedRows (s u : List ℕ) (n k : ℕ) : Type 0 where
  pub size : length u ≡ length s
  pub version : version_of u ≡ version_of s
  pub byte : (b : ℕ) → OutsideRows (version_of s) n k b → at u b ≡ at s b

pub rows_more : {s u v : List ℕ} {n k : ℕ} → ArrivedRows s u n k → ArrivedRow u v n k (n + 1) → ArrivedRows s v n (suc k)
rows_more {n = n} {k = k} p q = record {
  size = q.size ∙ p.size;
  version = q.version ∙ p.version;
  byte = λ b o. q.byte b (λ i l. rw p.version (o k i (le_refl (suc k)) l)) ∙ p.byte b (λ t i l m. o t i (omega arith) m);
}

pub rows_put : (s : List ℕ) (n : ℕ) (f : ℕ → ℕ → ℕ) (k : ℕ) → ((t : ℕ) → t < k → HoldsRow s n t) → ArrivedRows s (put_arrival_rows s n f k) n k
unfolding put_arrival_rows
rows_put s n f zero h = record { size = refl; version = refl; byte = λ b o. refl }
rows_put s n f (suc k) h =
    let q = rows_put s n f k (λ t l. h t (omega arith)) in
    let held = holds_on q.size q.version (h k (le_refl (suc k))) in
    rows_more q (row_put (put_arrival_rows s n f k) n k (f k) (n + 1) (le_refl (n + 1)) held)

-- the same text placed into two lists of equal length: the results agree at b if the lists agree there whenever b is outside the text
one_merged : (s u : List ℕ) (i : ℕ) (text : List ℕ) (b : ℕ) → i + length text ≤ length s → length u ≡ length s
    → (Outside b i (length text) → at u b ≡ at s b) → at (placed u i text) b ≡ at (placed s i text) b
one_merged s u i text b room size h =
    let wide : i + length text ≤ length u = omega arith in
    let other : Outside b i (length text) → at (placed u i text) b ≡ at (placed s i text) b =
    λ o. placed_other u i text wide b o ∙ h o ∙ sym (placed_other s i text room b o) in
    ⊎_elim
    (λ (l : i ≤ b). ⊎_elim
    (λ (m : i + length text ≤ b). other (inr m))
    (λ (m : b < i + length text).
    let e : b ≡ i + (b - i) = omega arith in
    let j : b - i < length text = omega arith in
    ap (at (placed u i text)) e ∙ placed_at u i text wide (b - i) j ∙ sym (ap (at (placed s i text)) e ∙ placed_at s i text room (b - i) j))
    (order (i + length text) b))
    (λ (l : b < i). other (inl l))
    (order i b)

-- the same for the arrivals of a row
row_merged : (s u : List ℕ) (n t : ℕ) (f : ℕ → ℕ) (c b : ℕ) → length u ≡ length s → version_of u ≡ version_of s → c ≤ n + 1 → HoldsRow s n t
    → (OutsideRow (version_of s) n t c b → at u b ≡ at s b) → at (put_arrivals u n t f c) b ≡ at (put_arrivals s n t f c) b
unfolding put_arrivals
row_merged s u n t f zero b size version l h k = k (λ p m. absurd (not-suc-le-zero m))
row_merged s u n t f (suc c) b size version l h k =
    let x = put_arrivals s n t f c in
    let y = put_arrivals u n t f c in
    let p = row_put s n t f c (omega arith) h in
    let q = row_put u n t f c (omega arith) (holds_on size version h) in
    let text = bytes_of number_size (f c) in
    let start = arrival_start (version_of s) n t c in
    let held = holds_on p.size p.version h in
    let wide : start + length text ≤ length x = omega (arith, held.row, p.version, length_bytes number_size (f c)) in
    let before : Outside b start (length text) → at y b ≡ at x b =
    λ o. row_merged s u n t f c b size version (omega arith) h (λ outs. k (λ i m. ⊎_elim
    (λ (e : i ≡ c). rw e (rw (length_bytes number_size (f c)) at o))
    (λ (a : i < c). outs i a)
    (eq-or-lt_of_le (le_of_suc-le-suc m)))) in
    ap (λ (v : ℕ). at (placed y (arrival_start v n t c) text) b) (q.version ∙ version)
    ∙ one_merged x y start text b wide (q.size ∙ size ∙ sym p.size) before
    ∙ ap (λ (v : ℕ). at (placed x (arrival_start v n t c) text) b) (sym p.version)

-- the same for all rows
pub rows_merged : (s u : List ℕ) (n : ℕ) (f : ℕ → ℕ → ℕ) (k b : ℕ) → length u ≡ length s → version_of u ≡ version_of s
    → ((t : ℕ) → t < k → HoldsRow s n t) → (OutsideRows (version_of s) n k b → at u b ≡ at s b) → at (put_arrival_rows u n f k) b ≡ at (put_arrival_rows s n f k) b
unfolding put_arrival_rows
rows_merged s u n f zero b size version h g = g (λ t p l m. absurd (not-suc-le-zero l))
rows_merged s u n f (suc k) b size version h g =
    let below : (t : ℕ) → t < k → HoldsRow s n t = λ t l. h t (omega arith) in
    let p = rows_put s n f k below in
    let q = rows_put u n f k (λ t l. holds_on size version (below t l)) in
    row_merged (put_arrival_rows s n f k) (put_arrival_rows u n f k) n k (f k) (n + 1) b (q.size ∙ size ∙ sym p.size) (q.version ∙ version ∙ sym p.version)
    (le_refl (n + 1)) (holds_on p.size p.version (h k (le_refl (suc k))))
    (λ out. rows_merged s u n f k b size version below (λ outs. g (λ t i l m. ⊎_elim
    (λ (e : t ≡ k). rw e (rw p.version at (out i m)))
    (λ (a : t < k). outs t i a m)
    (eq-or-lt_of_le (le_of_suc-le-suc l)))))

-- so putting arrivals over others gives the same record as putting them without the others
pub arrived_again : (s : List ℕ) (n : ℕ) (f g : ℕ → ℕ → ℕ) (T : ℕ) → ((t : ℕ) → t < T → HoldsRow s n t)
    → put_arrival_rows (put_arrival_rows s n f T) n g T ≡ put_arrival_rows s n g T
arrived_again s n f g T h =
    let u = put_arrival_rows s n f T in
    let p = rows_put s n f T h in
    let held : (t : ℕ) → t < T → HoldsRow u n t = λ t l. holds_on p.size p.version (h t l) in
    ext_get_or 0 (put_arrival_rows u n g T) (put_arrival_rows s n g T) ((rows_put u n g T held).size ∙ p.size ∙ sym (rows_put s n g T h).size)
    (λ b l. rows_merged s u n g T b p.size p.version h (p.byte b))

-- the releases are unchanged
module _ (version n t i q p : ℕ) (l : i < n) (m : p < n + 1) where
  releases_apart : (k : ℕ) → k < number_size → Outside (entry_start version n t (release_number i) + k) (arrival_start version n q p) number_size
  releases_apart k h = ⊎_elim
      (λ (e : t ≡ q). rw e (⊎_elim (λ (a : p ≤ i). inr (omega arith)) (λ (a : i < p). ⊎_elim
      (λ (d : p ≡ i + 1). inr (omega arith))
      (λ o. ⊎_elim (λ (d : p < i + 1). inr (omega arith)) (λ (d : i + 1 < p). inl (omega arith)) o)
      (compare p (i + 1))) (order p i)))
      (λ o. ⊎_elim
      (λ (a : t < q). inl (omega (arith, row_within version n t q a)))
      (λ (a : q < t). inr (omega (arith, row_within version n q t a))) o)
      (compare t q)

pub releases_kept : {s u : List ℕ} {n T : ℕ} → ArrivedRows s u n T → (t i : ℕ) → i < n → entry_of u n t (release_number i) ≡ entry_of s n t (release_number i)
releases_kept {s} {u} {n} p t i l =
    let e : entry_start (version_of u) n t (release_number i) ≡ entry_start (version_of s) n t (release_number i) =
    ap (λ (v : ℕ). entry_start v n t (release_number i)) p.version in
    rw e (number_same u s _ _ number_size (λ k m. p.byte _ (λ q j a c. releases_apart (version_of s) n t i q j l c k m)))

-- the bytes before the rows are unchanged
pub head_kept : {s u : List ℕ} {n T : ℕ} → ArrivedRows s u n T → (b : ℕ) → b < row_start (version_of s) n 0 → at u b ≡ at s b
head_kept {n = n} p b l = p.byte b (λ t i a c. inl (omega arith))

-- the arrivals are those put, whatever the record was
pub arrivals_same : (s u : List ℕ) (n : ℕ) (f : ℕ → ℕ → ℕ) (T : ℕ) → length u ≡ length s → version_of u ≡ version_of s
    → ((t : ℕ) → t < T → HoldsRow s n t) → (t p : ℕ) → t < T → p < n + 1
    → entry_of (put_arrival_rows u n f T) n t (arrival_number p) ≡ entry_of (put_arrival_rows s n f T) n t (arrival_number p)
arrivals_same s u n f T size version h t p l m =
    let x = rows_put s n f T h in
    let y = rows_put u n f T (λ q a. holds_on size version (h q a)) in
    let i = arrival_start (version_of s) n t p in
    let ex : arrival_start (version_of (put_arrival_rows s n f T)) n t p ≡ i = ap (λ (v : ℕ). arrival_start v n t p) x.version in
    let ey : arrival_start (version_of (put_arrival_rows u n f T)) n t p ≡ i = ap (λ (v : ℕ). arrival_start v n t p) (y.version ∙ version) in
    rw (ex, ey) (number_same (put_arrival_rows u n f T) (put_arrival_rows s n f T) i i number_size (λ k a.
    rows_merged s u n f T (i + k) size version h (λ out.
    absurd (⊎_elim (λ (o : i + k < i). omega arith) (λ (o : i + number_size ≤ i + k). omega arith) (out t p l m)))))
