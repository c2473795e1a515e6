-- Laws of the joined record's bytes: the cells and the rows of both roads, as the code puts them. Assumes nothing.
use Rattle.std.specs.Prelude.{◌≡◌, refl, List, ◌++◌, ℕ, zero, suc, ◌+◌, ◌-◌, ◌*◌, ◌≤◌, ◌<◌, length, set, take, drop}
use Rattle.std.proofs.Common.{sym, ap, subst, ◌∙◌, ⊎_elim, append_assoc, append-nil, eq-or-lt_of_le, arith, length-append, length-drop, get_or-set_same, get_or-set_other, take_all}
use Rattle.model.specs.Numbers.{at, fill_of, concat_of}
use Rattle.numbers.specs.Concat.{at_first, at_second, concat_same, length_concat}
use Rattle.numbers.specs.PlacedText.{Puts, puts_more, length_placed}
use Rattle.model.specs.declared.Road.{Road}
use Rattle.model.specs.declared.State.{State}
use Rattle.model.specs.Road.{most_cells, zeros}
use Rattle.model.specs.Schedules.{Study}
use Rattle.model.specs.Record.{number_size, header_size, cell_size, row_numbers, row_size, record_row, bytes_of}
use Rattle.fields.specs.FieldsLaws.{length_row}
use Rattle.model.specs.Reading.{size_of}
use Rattle.fields.specs.HeaderLaws.{Counts}
use Rattle.reading.specs.Headers.{Steps}
use Rattle.model.specs.Encoding.{numbers_of, header_bytes, cell_bytes, row_bytes, record_of}
use Rattle.encoding.specs.Encoding as encoding
use Rattle.encoding.specs.Encoding.{PuttingLists, putting_none, putting_more, putting_end, putting_fits, length_cell, header_ends, cells_end, record_puts}
use Rattle.model.specs.Joining.{joined_share, joined_road, joined_start, joined_row, joined_study}
use Rattle.joining.specs.JoinedColumns.{column_joined, shares_joined, row_joined}

-- n + m lists are n lists, then m more
pub concat_split : (f : ℕ → List ℕ) (n m : ℕ) → concat_of f (n + m) ≡ concat_of f n ++ concat_of (λ i. f (n + i)) m
unfolding concat_of
concat_split f n zero = let e : n + 0 ≡ n = omega arith in ap (concat_of f) e ∙ sym (append-nil (concat_of f n))
concat_split f n (suc m) =
    let e : n + suc m ≡ suc (n + m) = omega arith in
    ap (concat_of f) e
    ∙ ap (λ (x : List ℕ). x ++ f (n + m)) (concat_split f n m)
    ∙ append_assoc (concat_of f n) (concat_of (λ i. f (n + i)) m) (f (n + m))

-- the road with another share at its last cell
abbrev pub with_share : Road → ℕ → Road
with_share r share = record {
  n = r.n;
  version = r.version;
  seconds = r.seconds;
  gate_capacity = r.gate_capacity;
  speed = r.speed;
  wave = r.wave;
  share = set r.share (r.n - 1) share;
  ramp = r.ramp;
  jam = r.jam;
  capacity = r.capacity;
}

-- upstream's shares with the stated one stored at its last cell
module _ (n m : ℕ) (most : n + m ≤ most_cells) (up down : List ℕ) (share : ℕ) where
  pub share_stored : n ≤ length up → (i : ℕ) → i < n → at (fill_of (joined_share share n up down) (n + m) zeros) i ≡ at (set up (n - 1) share) i
  share_stored some i l =
      let h : i + 1 ≤ n = omega arith in
      let shares = shares_joined n m most up down share in
      ⊎_elim
      (λ (e : i + 1 ≡ n).
      let k : n - 1 ≡ i = omega arith in
      shares.joint i e ∙ sym (ap (λ (j : ℕ). at (set up j share) i) k ∙ get_or-set_same up i share 0 (omega arith)))
      (λ (k : i + 1 < n). shares.upper i k ∙ sym (get_or-set_other up (n - 1) i share 0 (λ z. omega arith)))
      (eq-or-lt_of_le h)

-- the joined cells: upstream's with the joint's share, then downstream's
module _ (a b : Road) (share : ℕ) (s q : State) (most : a.n + b.n ≤ most_cells) where
  abbrev joined : ℕ → List ℕ
  joined = cell_bytes (joined_road a b share) (joined_start a.n b.n s q)

  cell_first : a.n ≤ length a.share → (i : ℕ) → i < a.n → joined i ≡ cell_bytes (with_share a share) s i
  cell_first some i l =
      cc (
        (column_joined a.n b.n most a.speed b.speed).upper i l,
        (column_joined a.n b.n most a.wave b.wave).upper i l,
        share_stored a.n b.n most a.share b.share share some i l,
        (column_joined a.n b.n most a.ramp b.ramp).upper i l,
        (column_joined a.n b.n most a.jam b.jam).upper i l,
        (column_joined a.n b.n most a.capacity b.capacity).upper i l,
        (column_joined a.n b.n most s.held q.held).upper i l,
        (column_joined a.n b.n most s.queue q.queue).upper i l,
      )

  cell_second : (i : ℕ) → i < b.n → joined (a.n + i) ≡ cell_bytes b q i
  cell_second i l =
      cc (
        (column_joined a.n b.n most a.speed b.speed).lower i l,
        (column_joined a.n b.n most a.wave b.wave).lower i l,
        (shares_joined a.n b.n most a.share b.share share).lower i l,
        (column_joined a.n b.n most a.ramp b.ramp).lower i l,
        (column_joined a.n b.n most a.jam b.jam).lower i l,
        (column_joined a.n b.n most a.capacity b.capacity).lower i l,
        (column_joined a.n b.n most s.held q.held).lower i l,
        (column_joined a.n b.n most s.queue q.queue).lower i l,
      )

  pub joined_cells : a.n ≤ length a.share
      → concat_of (cell_bytes (with_share a share) s) a.n ++ concat_of (cell_bytes b q) b.n ≡ concat_of joined (a.n + b.n)
  joined_cells some =
      sym (
      concat_split joined a.n b.n
      ∙ ap (λ (x : List ℕ). x ++ concat_of (λ i. joined (a.n + i)) b.n) (concat_same joined (cell_bytes (with_share a share) s) a.n (cell_first some))
      ∙ ap (λ (x : List ℕ). concat_of (cell_bytes (with_share a share) s) a.n ++ x)
      (concat_same (λ i. joined (a.n + i)) (cell_bytes b q) b.n cell_second)
      )

-- the numbers of two lists, one after the other
pub numbers_append : (x y : List ℕ) → numbers_of x (length x) ++ numbers_of y (length y) ≡ numbers_of (x ++ y) (length (x ++ y))
numbers_append x y =
    let f : ℕ → List ℕ = λ k. bytes_of number_size (at (x ++ y) k) in
    sym (
    ap (concat_of f) (length-append x y)
    ∙ concat_split f (length x) (length y)
    ∙ ap (λ (z : List ℕ). z ++ concat_of (λ i. f (length x + i)) (length y))
    (concat_same f (λ k. bytes_of number_size (at x k)) (length x) (λ k l. ap (bytes_of number_size) (at_first x y k l)))
    ∙ ap (λ (z : List ℕ). numbers_of x (length x) ++ z)
    (concat_same (λ i. f (length x + i)) (λ k. bytes_of number_size (at y k)) (length y)
    (λ k l. ap (bytes_of number_size) (at_second x y (length x) k refl)))
    )

-- room for both rows is room for the first
pub room_row : (row next : List ℕ) (start size : ℕ) → start + length (joined_row row next) * number_size ≤ size → start + length row * number_size ≤ size
room_row row next start size h = omega (arith, length-append row (drop 1 next))

-- a row, then the next road's from its second number on, as the code's slice gives it
module _ (row next a : List ℕ) (start : ℕ) (b : List ℕ) (p : ℕ) (first : Puts a start (numbers_of row (length row)) b p) where
  abbrev rest : List ℕ
  rest = take (length next - 1) (drop 1 next)

  rest_is : rest ≡ drop 1 next
  rest_is = take_all (length next - 1) (drop 1 next) (omega (arith, length-drop 1 next))

  pub room_rest : start + length (joined_row row next) * number_size ≤ length a → p + length rest * number_size ≤ length b
  room_rest h =
      let same : length b ≡ length a = ap length first.1 ∙ length_placed a start (numbers_of row (length row)) in
      omega (arith, same, first.0, encoding.length_numbers row (length row), length-append row (drop 1 next), ap length rest_is)

  pub row_puts : (c : List ℕ) (e : ℕ) → Puts b p (numbers_of rest (length rest)) c e
      → Puts a start (numbers_of (joined_row row next) (length (joined_row row next))) c e
  row_puts c e second =
      let q : Puts b p (numbers_of (drop 1 next) (length (drop 1 next))) c e = subst (λ (x : List ℕ). Puts b p (numbers_of x (length x)) c e) rest_is second in
      subst (λ (x : List ℕ). Puts a start x c e) (numbers_append row (drop 1 next))
      (puts_more a start (numbers_of row (length row)) b p (numbers_of (drop 1 next) (length (drop 1 next))) c e first q)

-- the rows of two records, joined step by step
abbrev pub joined_rows : List ℕ → ℕ → List ℕ → ℕ → ℕ → List ℕ
joined_rows up n down m t = joined_row (record_row up n t) (record_row down m t)

-- the loop over the steps: the joined rows of the first t are put
pub record JoinedRowsSoFar (before : List ℕ) (start : ℕ) (up : List ℕ) (n : ℕ) (down : List ℕ) (m T t : ℕ) (after : List ℕ) (end : ℕ) : Type 0 where
  pub within : t ≤ T
  pub put : PuttingLists before start (row_bytes (n + m) (joined_rows up n down m)) (row_size (n + m)) t after end

module _ {before : List ℕ} {start : ℕ} {up : List ℕ} {n : ℕ} {down : List ℕ} {m T : ℕ} where
  pub rowing_none : JoinedRowsSoFar before start up n down m T 0 before start
  rowing_none = record { within = omega arith; put = putting_none before start _ (row_size (n + m)) }

  module _ {t : ℕ} {after : List ℕ} {end : ℕ} (h : JoinedRowsSoFar before start up n down m T t after end) where
    pub rowing_room : (row next : List ℕ) → t < T → start + T * row_size (n + m) ≤ length before → length row ≡ row_numbers n → length next ≡ row_numbers m
        → end + length (joined_row row next) * number_size ≤ length after
    rowing_room row next l r e k =
        omega (arith, (row_joined n m row next e k).numbers, putting_fits before start _ (row_size (n + m)) t T h.put l r)

    pub rowing_more : {row next more : List ℕ} {to : ℕ} → t < T → row ≡ record_row up n t → next ≡ record_row down m t
        → Puts after end (numbers_of (joined_row row next) (length (joined_row row next))) more to → JoinedRowsSoFar before start up n down m T (t + 1) more to
    rowing_more {row} {next} {more} {to} l e k p =
        let size = (row_joined n m (record_row up n t) (record_row down m t) (length_row up n t) (length_row down m t)).numbers in
        let q : Puts after end (row_bytes (n + m) (joined_rows up n down m) t) more to = rw (e, k, size) at p in
        record {
          within = omega arith;
          put = putting_more before start _ (row_size (n + m)) t (encoding.length_row (n + m) (joined_rows up n down m) t) h.put q;
        }

    pub rowing_end : T ≤ t → Puts before start (concat_of (row_bytes (n + m) (joined_rows up n down m)) T) after end
    rowing_end l = putting_end before start _ (row_size (n + m)) t T (omega (arith, h.within)) h.put

-- what putting the joined record requires
pub record JoinNeeds (up : List ℕ) (road : Road) (T : ℕ) (down : List ℕ) (next : Road) (target : List ℕ) : Type 0 where
  pub some : 1 ≤ road.n
  pub counts : Counts (road.n + next.n) T
  pub upstream : Steps up road.n T
  pub downstream : Steps down next.n T
  pub room : size_of road.version (road.n + next.n) T ≤ length target

-- where the n cells put end, in a list of the same length as before
pub cells_there : (r : Road) (s : State) (n : ℕ) (b : List ℕ) (p : ℕ) (c : List ℕ) (u : ℕ) → Puts b p (concat_of (cell_bytes r s) n) c u
    → (u ≡ p + n * cell_size) × (length c ≡ length b)
cells_there r s n b p c u h = (
  omega (arith, h.0, length_concat (cell_bytes r s) cell_size (λ i. length_cell _ _ _ _ _ _ _ _) n),
  ap length h.1 ∙ length_placed b p (concat_of (cell_bytes r s) n),
)

-- the parts of the joined record, one after the other: the header, the cells of both roads and the rows
module _ (a b : Study) (share : ℕ) {up down target : List ℕ} (j : JoinNeeds up a.road a.steps down b.road target) where
  abbrev joint : Study
  joint = joined_study a b share

  module _ (c : List ℕ) (p : ℕ) (header : Puts target 0 (header_bytes joint) c p) where
    header_end : (p ≡ header_size a.road.version) × (length c ≡ length target)
    header_end = header_ends joint target c p header

    module _ (r : Road) (e : r ≡ with_share a.road share) where
      same_cells : r.n ≡ a.road.n
      same_cells = ap (λ (x : Road). x.n) e

      pub room_first : (r.n ≤ most_cells) × (p + r.n * cell_size ≤ length c)
      room_first =
          let k = header_end in
          let l = same_cells in
          (omega (arith, j.counts.cells), omega (arith, k.0, k.1, j.room))

      module _ (d : List ℕ) (u : ℕ) (first : Puts c p (concat_of (cell_bytes r a.start) r.n) d u) where
        pub room_second : (b.road.n ≤ most_cells) × (u + b.road.n * cell_size ≤ length d)
        room_second =
            let k = header_end in
            let l = same_cells in
            let m = cells_there r a.start r.n c p d u first in
            (omega (arith, j.counts.cells), omega (arith, k.0, k.1, l, m.0, m.1, j.room))

        module _ (entries : length a.road.share ≡ most_cells) (f : List ℕ) (v : ℕ)
            (second : Puts d u (concat_of (cell_bytes b.road b.start) b.road.n) f v) where
          cells_put : Puts c p (concat_of (cell_bytes joint.road joint.start) joint.road.n) f v
          cells_put =
              let h : Puts c p (concat_of (cell_bytes (with_share a.road share) a.start) a.road.n) d u =
              subst (λ (x : Road). Puts c p (concat_of (cell_bytes x a.start) x.n) d u) e first in
              let most = j.counts.cells in
              subst (λ (x : List ℕ). Puts c p x f v)
              (joined_cells a.road b.road share a.start b.start most (omega (arith, entries, most)))
              (puts_more c p _ d u _ f v h second)

          pub room_rows : v + a.steps * row_size (a.road.n + b.road.n) ≤ length f
          room_rows = let k = cells_end joint target c p header f v cells_put in omega (arith, k.0, k.1, j.room)

          pub joined_puts : (after : List ℕ) (end : ℕ) → Puts f v (concat_of (row_bytes joint.road.n joint.rows) a.steps) after end
              → Puts target 0 (record_of joint) after end
          joined_puts after end rows = record_puts joint target c p header f v cells_put after end rows
