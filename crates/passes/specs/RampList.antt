-- The cells with a ramp in a list, lowest first, and rows that change only at these cells. Assumes nothing.
use Rattle.std.specs.Prelude.{◌≡◌, List, [], ◌∷◌, length, set, take}
use Rattle.std.proofs.Math.Path.{refl, ap}
use Rattle.std.proofs.Common.{sym, subst, ◌∙◌, add-suc, add-zero, le_refl, add-one, arith, get_or-set_same, get_or-set_other, ⊎_elim}
use Prim.Native.Nat.{ℕ, zero, suc, ◌+◌, ◌-◌, ◌≤◌, ◌<◌}
use Rattle.std.proofs.lemmas.List.{set-get_or}
use Rattle.numbers.specs.Tests.{order}
use Rattle.model.specs.Numbers.{sum_of, fill_of, at}
use Rattle.numbers.specs.SumLaws.{sum_more}
use Rattle.numbers.specs.RowsLaws.{fill_more, fill_past}
use Rattle.model.specs.Road.{most_cells}

-- the cell after the one that is listed before entry k, 0 for the first
unfoldable pub start_of : List ℕ → ℕ → ℕ
start_of cell zero = 0
start_of cell (suc k) = at cell k + 1

pub start_more : (cell : List ℕ) (k : ℕ) → start_of cell (k + 1) ≡ at cell k + 1
unfolding start_of
start_more cell k = rw add-one

-- the first `count` entries list cells of n, lowest first, and P holds for the cells that they leave out
pub record Listed (P : ℕ → Type 0) (n count : ℕ) (cell : List ℕ) : Type 0 where
  pub most : count ≤ n
  pub rises : (k : ℕ) → k < count → start_of cell k ≤ at cell k
  pub within : (k : ℕ) → k < count → at cell k < n
  pub gap : (k : ℕ) → k < count → (i : ℕ) → start_of cell k ≤ i → i < at cell k → P i
  pub last : start_of cell count ≤ n
  pub past : (i : ℕ) → start_of cell count ≤ i → i < n → P i

-- each of the first `count` entries is a cell with a ramp
abbrev pub AtRamps : List ℕ → ℕ → List ℕ → Type 0
AtRamps ramp count cell = (k : ℕ) → k < count → at ramp (at cell k) ≡ 1

-- the invariant of a loop over the listed cells about its count
pub record Upto (ramps k : ℕ) : Type 0 where
  pub within : k ≤ ramps
  pub cells : ramps ≤ most_cells

pub upto_none : {P : ℕ → Type 0} {n ramps : ℕ} {cell : List ℕ} → Listed P n ramps cell → n ≤ most_cells → Upto ramps 0
upto_none h l = record { within = omega arith; cells = omega (arith, h.most) }

pub upto_more : {ramps k : ℕ} → Upto ramps k → k < ramps → Upto ramps (k + 1)
upto_more h l = record { within = omega arith; cells = h.cells }

-- what P implies holds for them too
pub listed_map : {P Q : ℕ → Type 0} {n count : ℕ} {cell : List ℕ} → ((i : ℕ) → i < n → P i → Q i) → Listed P n count cell → Listed Q n count cell
listed_map f h = record {
  most = h.most;
  rises = h.rises;
  within = h.within;
  gap = λ k l i a b. f i (omega (arith, h.within k l)) (h.gap k l i a b);
  last = h.last;
  past = λ i a b. f i b (h.past i a b);
}

-- entries that do not change need not be stored
fill_skip : (f : ℕ → ℕ) (l : List ℕ) (a d : ℕ) → ((i : ℕ) → a ≤ i → i < a + d → f i ≡ at l i) → fill_of f (a + d) l ≡ fill_of f a l
unfolding fill_of
fill_skip f l a zero h = ap (λ (k : ℕ). fill_of f k l) (add-zero a)
fill_skip f l a (suc d) h =
    let e : f (a + d) ≡ at (fill_of f (a + d) l) (a + d) = h (a + d) (omega arith) (omega arith) ∙ sym (fill_past f (a + d) l (a + d) (le_refl (a + d))) in
    ap (λ (k : ℕ). fill_of f k l) (add-suc a d)
    ∙ ap (set (fill_of f (a + d) l) (a + d)) e
    ∙ set-get_or (fill_of f (a + d) l) (a + d) 0
    ∙ fill_skip f l a d (λ i x y. h i x (omega arith))

pub fill_to : (f : ℕ → ℕ) (l : List ℕ) (a b : ℕ) → a ≤ b → ((i : ℕ) → a ≤ i → i < b → f i ≡ at l i) → fill_of f b l ≡ fill_of f a l
fill_to f l a b h g =
    let e : a + (b - a) ≡ b = omega arith in
    ap (λ (k : ℕ). fill_of f k l) (sym e) ∙ fill_skip f l a (b - a) (λ i x y. g i x (omega arith))

-- entries that are 0 add nothing
sum_skip : (l : List ℕ) (a d : ℕ) → a + d ≤ length l → ((i : ℕ) → a ≤ i → i < a + d → at l i ≡ 0) → sum_of (take (a + d) l) ≡ sum_of (take a l)
sum_skip l a zero h g = ap (λ (k : ℕ). sum_of (take k l)) (add-zero a)
sum_skip l a (suc d) h g =
    ap (λ (k : ℕ). sum_of (take k l)) (add-suc a d)
    ∙ omega (arith, sum_more (a + d) l (omega arith), g (a + d) (omega arith) (omega arith), sum_skip l a d (omega arith) (λ i x y. g i x (omega arith)))

pub sum_to : (l : List ℕ) (a b : ℕ) → a ≤ b → b ≤ length l → ((i : ℕ) → a ≤ i → i < b → at l i ≡ 0) → sum_of (take b l) ≡ sum_of (take a l)
sum_to l a b h m g =
    let e : a + (b - a) ≡ b = omega arith in
    ap (λ (k : ℕ). sum_of (take k l)) (sym e) ∙ sum_skip l a (b - a) (omega arith) (λ i x y. g i x (omega arith))

-- the sum grows as much as an entry
pub sum_add : (l : List ℕ) (n i g : ℕ) → i < n → n ≤ length l → sum_of (take n (set l i (at l i + g))) ≡ sum_of (take n l) + g
unfolding sum_of
sum_add [] n i g h m = absurd (omega arith)
sum_add (x ∷ l) zero i g h m = absurd (omega arith)
sum_add (x ∷ l) (suc n) zero g h m = omega arith
sum_add (x ∷ l) (suc n) (suc i) g h m = omega (arith, sum_add l n i g (omega arith) (omega arith))

-- a row that is stored only at the listed cells
module _ (f : ℕ → ℕ) (l : List ℕ) {P : ℕ → Type 0} {n count : ℕ} {cell : List ℕ} (c : Listed P n count cell)
    (same : (i : ℕ) → i < n → P i → f i ≡ at l i) where
  pub listed_before : {x : List ℕ} {k : ℕ} → k < count → x ≡ fill_of f (start_of cell k) l → x ≡ fill_of f (at cell k) l
  listed_before {x} {k} h e =
      e ∙ sym (fill_to f l (start_of cell k) (at cell k) (c.rises k h) (λ i a b. same i (omega (arith, c.within k h)) (c.gap k h i a b)))

  pub listed_here : {x : List ℕ} {k : ℕ} → k < count → x ≡ fill_of f (start_of cell k) l → at x (at cell k) ≡ at l (at cell k)
  listed_here {x} {k} h e =
      ap (λ (q : List ℕ). at q (at cell k)) (listed_before h e) ∙ fill_past f (at cell k) l (at cell k) (le_refl (at cell k))

  pub listed_more : {x : List ℕ} {k z : ℕ} → k < count → x ≡ fill_of f (start_of cell k) l → z ≡ f (at cell k)
      → set x (at cell k) z ≡ fill_of f (start_of cell (k + 1)) l
  listed_more {x} {k} {z} h e ez =
      let b = listed_before h e in
      let s = start_more cell k in
      cc (fill_more f (at cell k) l)

  pub listed_end : {x : List ℕ} {k : ℕ} → k ≡ count → x ≡ fill_of f (start_of cell k) l → x ≡ fill_of f n l
  listed_end {x} {k} h e =
      e ∙ ap (λ (q : ℕ). fill_of f (start_of cell q) l) h
      ∙ sym (fill_to f l (start_of cell count) n c.last (λ i a b. same i b (c.past i a b)))

-- the list is built cell by cell
module _ {P : ℕ → Type 0} where
  pub listed_none : {cell : List ℕ} → Listed P 0 0 cell
  unfolding start_of
  listed_none = record {
    most = omega arith;
    rises = λ k l. absurd (omega arith);
    within = λ k l. absurd (omega arith);
    gap = λ k l. absurd (omega arith);
    last = omega arith;
    past = λ i a b. absurd (omega arith);
  }

  module _ {i count : ℕ} {cell : List ℕ} (h : Listed P i count cell) where
    pub listed_skip : P i → Listed P (i + 1) count cell
    listed_skip p = record {
      most = omega (arith, h.most);
      rises = h.rises;
      within = λ k l. omega (arith, h.within k l);
      gap = h.gap;
      last = omega (arith, h.last);
      past = λ j a b. ⊎_elim
          (λ (q : i ≤ j). let e : i ≡ j = omega arith in subst P e p)
          (λ (q : j < i). h.past j a q)
          (order i j);
    }

    module _ (room : count < length cell) where
      kept : (k : ℕ) → k < count → at (set cell count i) k ≡ at cell k
      kept k l = get_or-set_other cell count k i 0 (λ e. omega arith)

      stored : at (set cell count i) count ≡ i
      stored = get_or-set_same cell count i 0 room

      starts : (k : ℕ) → k ≤ count → start_of (set cell count i) k ≡ start_of cell k
      unfolding start_of
      starts zero l = refl
      starts (suc k) l = ap (λ (x : ℕ). x + 1) (kept k l)

      last_start : start_of (set cell count i) (count + 1) ≡ i + 1
      last_start = start_more (set cell count i) count ∙ ap (λ (x : ℕ). x + 1) stored

      pub listed_put : Listed P (i + 1) (count + 1) (set cell count i)
      listed_put = record {
        most = omega (arith, h.most);
        rises = λ k l. ⊎_elim
            (λ (q : count ≤ k).
            let e : count ≡ k = omega arith in
            subst (λ (x : ℕ). start_of (set cell count i) x ≤ at (set cell count i) x) e (omega (arith, starts count (le_refl count), stored, h.last)))
            (λ (q : k < count). omega (arith, starts k (omega arith), kept k q, h.rises k q))
            (order count k);
        within = λ k l. ⊎_elim
            (λ (q : count ≤ k).
            let e : count ≡ k = omega arith in
            subst (λ (x : ℕ). at (set cell count i) x < i + 1) e (omega (arith, stored)))
            (λ (q : k < count). omega (arith, kept k q, h.within k q))
            (order count k);
        gap = λ k l j a b. ⊎_elim
            (λ (q : count ≤ k).
            let e : k ≡ count = omega arith in
            let a' = subst (λ (x : ℕ). start_of (set cell count i) x ≤ j) e a in
            let b' = subst (λ (x : ℕ). j < at (set cell count i) x) e b in
            h.past j (omega (arith, starts count (le_refl count))) (omega (arith, stored)))
            (λ (q : k < count). h.gap k q j (omega (arith, starts k (omega arith))) (omega (arith, kept k q)))
            (order count k);
        last = omega (arith, last_start);
        past = λ j a b. absurd (omega (arith, last_start));
      }

      pub ramps_put : (ramp : List ℕ) → at ramp i ≡ 1 → AtRamps ramp count cell → AtRamps ramp (count + 1) (set cell count i)
      ramps_put ramp e f k l = ⊎_elim
          (λ (q : count ≤ k).
          let same : count ≡ k = omega arith in
          ap (λ (x : ℕ). at ramp (at (set cell count i) x)) (sym same) ∙ ap (at ramp) stored ∙ e)
          (λ (q : k < count). ap (at ramp) (kept k q) ∙ f k q)
          (order count k)

pub listed_same : {P : ℕ → Type 0} {n count count' : ℕ} {cell cell' : List ℕ} → cell' ≡ cell → count' ≡ count → Listed P n count cell
    → Listed P n count' cell'
listed_same {P} {n} {count} {count'} {cell} {cell'} e g h =
    subst (λ (k : ℕ). Listed P n k cell') (sym g) (subst (λ (x : List ℕ). Listed P n count x) (sym e) h)

pub ramps_same : (ramp : List ℕ) {count count' : ℕ} {cell cell' : List ℕ} → cell' ≡ cell → count' ≡ count → AtRamps ramp count cell
    → AtRamps ramp count' cell'
ramps_same ramp e g h = rw (e, g) h
