-- Present and exits depend on at most 64 cells. Assumes nothing.
use Rattle.std.specs.Prelude.{◌≡◌, List, ℕ, ◌+◌, ◌-◌, ◌*◌, ◌^◌, min, ◌≤◌, ◌<◌, length, take}
use Rattle.std.proofs.Common.{sym, ap, ◌∙◌, ⊎_elim, add-one, arith, length-take, take_all}
use Rattle.std.proofs.Math.ListN.{get_or-eq_default}
use Rattle.numbers.specs.Tests.{order}
use Rattle.model.specs.Numbers.{sum_of, list_of}
use Rattle.numbers.specs.RowsLaws.{sum_list_none, sum_list_more, sum_list_min}
use Rattle.model.specs.declared.Road.{Road}
use Rattle.model.specs.declared.State.{State}
use Rattle.model.specs.Road.{most_cells}
use Rattle.model.specs.Move.{exit_at, exits_of}

-- the code's slice: the first n entries of an array, or all of them if n is more
pub record Part (l : List ℕ) (n k : ℕ) : Type 0 where
  pub long : length l ≡ most_cells
  pub cells : k ≡ min n most_cells

pub part_length : {l : List ℕ} {n k : ℕ} → Part l n k → length (take k l) ≡ k
part_length {l} {k = k} p = omega (arith, p, length-take k l)

part_is : {l : List ℕ} {n k : ℕ} → Part l n k → take k l ≡ take n l
part_is {l} {n} {k} p = ⊎_elim
    (λ (a : n ≤ most_cells). let e : k ≡ n = omega (arith, p) in ap (λ (i : ℕ). take i l) e)
    (λ (a : most_cells < n). take_all k l (omega (arith, p)) ∙ sym (take_all n l (omega (arith, p))))
    (order n most_cells)

-- the sum of such a slice equals the definition's, and fits a machine number
pub record PartSum (l : List ℕ) (n sum : ℕ) : Type 0 where
  pub is : sum ≡ sum_of (take n l)
  pub fits : sum < 2 ^ 38

pub part_sum : {l : List ℕ} {n k sum : ℕ} → Part l n k → (sum ≡ sum_of (take k l)) × (sum ≤ (2 ^ 32 - 1) * length (take k l))
    → PartSum l n sum
part_sum p h = record { is = h.0 ∙ ap sum_of (part_is p); fits = omega (arith, h.1, p, part_length p) }

-- a cell past the arrays has no exits
exit_past : (r : Road) (s : State) (i : ℕ) → length s.cumulative ≤ i → exit_at r s i ≡ 0
exit_past r s i h = rw (get_or-eq_default s.cumulative 0 {n = i} h) (omega arith)

exits_cells : (r : Road) (s : State) → length s.cumulative ≡ most_cells → sum_of (list_of (exit_at r s) (min r.n most_cells)) ≡ exits_of r s
unfolding exits_of
exits_cells r s h = sum_list_min (exit_at r s) most_cells r.n (λ i l. exit_past r s i (omega arith))

-- the loop over the cells has added the exits of the first i of them
pub record ExitsSoFar (r : Road) (s : State) (n sum i : ℕ) : Type 0 where
  pub within : i ≤ n
  pub cells : n ≡ min r.n most_cells
  pub is : sum ≡ sum_of (list_of (exit_at r s) i)
  pub fits : sum ≤ 2 ^ 32 * i

pub exits_none : {r : Road} {s : State} {n : ℕ} → n ≡ min r.n most_cells → ExitsSoFar r s n 0 0
exits_none {r} {s} e = record { within = omega arith; cells = e; is = sym (sum_list_none (exit_at r s)); fits = omega arith }

pub exits_more : {r : Road} {s : State} {n sum i x : ℕ} → ExitsSoFar r s n sum i → i < n → (x ≡ exit_at r s i) × (x ≤ 2 ^ 32 - 1)
    → ExitsSoFar r s n (sum + x) (i + 1)
exits_more {r} {s} {i = i} h l e = record {
  within = omega arith;
  cells = h.cells;
  is = rw (add-one i) (omega (arith, sum_list_more (exit_at r s) i, h.is, e.0));
  fits = omega (arith, h.fits, e.1);
}

pub exits_end : {r : Road} {s : State} {n sum i : ℕ} → ExitsSoFar r s n sum i → n ≤ i → length s.cumulative ≡ most_cells → sum ≡ exits_of r s
exits_end {r} {s} {i = i} h l long =
    let e : i ≡ min r.n most_cells = omega (arith, h.within, h.cells) in
    h.is ∙ ap (λ (k : ℕ). sum_of (list_of (exit_at r s) k)) e ∙ exits_cells r s long
