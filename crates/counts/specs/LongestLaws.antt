-- Laws of the longest queues: they are the greatest over the steps done, and how one more step changes them. Assumes nothing.
use Rattle.std.specs.Prelude.{◌≡◌, List}
use Rattle.std.proofs.Math.Path.{refl, sym, ap}
use Rattle.std.proofs.Common.{◌∙◌, le_refl, not-suc-le-zero, eq-or-lt_of_le, le_of_suc-le-suc, ext_get_or}
use Rattle.std.proofs.Math.Logic.{⊎_elim}
use Prim.Native.Nat.{ℕ, zero, suc, ◌+◌, ◌≤◌, ◌<◌, max}
use native.Mathlib.Omega.{arith}
use Rattle.std.proofs.Math.ListN.{length}
use Rattle.model.specs.Numbers.{at, fill_of}
use Rattle.numbers.specs.Tests.{order}
use Rattle.numbers.specs.RowsLaws.{length_fill, fill_at, fill_past, fill_same, fill_own}
use Rattle.model.specs.declared.Road.{Road}
use Rattle.model.specs.declared.State.{State}
use Rattle.model.specs.Road.{most_cells, zeros}
use Rattle.numbers.specs.Zeros.{length_zeros, zeros_at}
use Rattle.model.specs.Flow.{gate_arrivals}
use Rattle.model.specs.Move.{moved_to, counted_of, next_of}
use Rattle.model.specs.Schedules.{Obeys}
use Rattle.theory.specs.RulesLaws.{demand_at_gate}
use Rattle.passes.specs.Supplies.{FilledTo}
use Rattle.model.specs.Longest.{maximum_of, stayed_of, Queues, queues_of, longest_of}
use Rattle.counts.specs.Longest.{no_queues}

-- m is one of the first k values of f, the one at `step`
pub record OneOf (f : ℕ → ℕ) (k m : ℕ) : Type 0 where
  pub step : ℕ
  pub within : step < k
  pub value : m ≡ f step

-- m is the greatest of the first k values of f: no value is above it, it is one of them, and it is 0 if there is none
pub record Greatest (f : ℕ → ℕ) (k m : ℕ) : Type 0 where
  pub above : (j : ℕ) → j < k → f j ≤ m
  pub reached : 0 < k → OneOf f k m
  pub none : k ≡ 0 → m ≡ 0

module _ (f : ℕ → ℕ) where
  above : (k j : ℕ) → j < k → f j ≤ maximum_of f k
  unfolding maximum_of
  above zero j l = absurd (not-suc-le-zero l)
  above (suc k) j l = ⊎_elim
      (λ (e : j ≡ k). rw e (omega arith))
      (λ (m : j < k). omega (arith, above k j m))
      (eq-or-lt_of_le (le_of_suc-le-suc l))

  none : (k : ℕ) → k ≡ 0 → maximum_of f k ≡ 0
  unfolding maximum_of
  none k e = rw e refl

  reached : (k : ℕ) → 0 < k → OneOf f k (maximum_of f k)
  unfolding maximum_of
  reached zero l = absurd (not-suc-le-zero l)
  reached (suc k) l = ⊎_elim
      (λ (m : maximum_of f k ≤ f k). record { step = k; within = omega arith; value = omega arith })
      (λ (m : f k < maximum_of f k).
      let some : 0 < k = ⊎_elim (λ (e : k ≤ 0). absurd (omega (arith, none k (omega arith)))) (λ (p : 0 < k). p) (order k 0) in
      let h = reached k some in
      record { step = h.step; within = omega (arith, h.within); value = omega (arith, h.value) })
      (order (maximum_of f k) (f k))

  pub greatest : (k : ℕ) → Greatest f k (maximum_of f k)
  greatest k = record { above = above k; reached = reached k; none = none k }

-- so each of the longest queues is the greatest over the states after the steps
module _ (n : ℕ) (after : ℕ → State) (k : ℕ) where
  pub longest_gate : Greatest (λ j. (after (suc j)).gate_queue) k (longest_of n after k).gate
  unfolding longest_of
  longest_gate = greatest (λ j. (after (suc j)).gate_queue) k

  pub longest_waiting : Greatest (λ j. stayed_of (after j) (after (suc j))) k (longest_of n after k).waiting
  unfolding longest_of
  longest_waiting = greatest (λ j. stayed_of (after j) (after (suc j))) k

  module _ (few : n ≤ most_cells) where
    pub longest_ramp : (i : ℕ) → i < n → Greatest (λ j. at (after (suc j)).queue i) k (at (longest_of n after k).ramps i)
    unfolding longest_of
    longest_ramp i l =
        rw (fill_at (λ i. maximum_of (λ j. at (after (suc j)).queue i) k) n zeros i l (omega (arith, length_zeros)))
        (greatest (λ j. at (after (suc j)).queue i) k)

    pub longest_past : (i : ℕ) → n ≤ i → at (longest_of n after k).ramps i ≡ 0
    unfolding longest_of
    longest_past i l = fill_past (λ i. maximum_of (λ j. at (after (suc j)).queue i) k) n zeros i l ∙ zeros_at i

-- the queue after a step is what stayed at the gate plus the step's arrivals
pub stayed_arrivals : (r : Road) (s : State) (row y : List ℕ) → Obeys r s row y
    → (next_of r s row y).gate_queue ≡ stayed_of s (next_of r s row y) + gate_arrivals row
unfolding counted_of moved_to
stayed_arrivals r s row y ok = omega (arith, ok.demand 0 (omega arith), demand_at_gate r s)

-- entries that are filled again
fill_over : (f g : ℕ → ℕ) (n : ℕ) (l : List ℕ) → n ≤ length l → fill_of g n (fill_of f n l) ≡ fill_of g n l
fill_over f g n l m =
    let kept = length_fill f n l in
    ext_get_or 0 (fill_of g n (fill_of f n l)) (fill_of g n l) (length_fill g n (fill_of f n l) ∙ kept ∙ sym (length_fill g n l)) (λ i b. ⊎_elim
    (λ (h : n ≤ i). fill_past g n (fill_of f n l) i h ∙ fill_past f n l i h ∙ sym (fill_past g n l i h))
    (λ (h : i < n). fill_at g n (fill_of f n l) i h (omega (arith, kept)) ∙ sym (fill_at g n l i h m))
    (order n i))

-- the entry that a pass reaches is still unchanged
pub entry_kept : {f : ℕ → ℕ} {n : ℕ} {l x : List ℕ} {i : ℕ} → FilledTo f n l x i → at x i ≡ at l i
entry_kept {f} {l = l} {i = i} h = ap (λ (y : List ℕ). at y i) h.filled ∙ fill_past f i l i (le_refl i)

-- the longest queues after one more step: raised by what stayed at the gate, by its queue and by the ramps' queues
abbrev pub longest_after : ℕ → Queues → ℕ → ℕ → List ℕ → Queues
longest_after n q stayed gate queue =
    queues_of (max q.gate gate) (max q.waiting stayed) (fill_of (λ i. max (at q.ramps i) (at queue i)) n q.ramps)

-- the code's longest queues
pub longest_after_lem : (n : ℕ) (q : Queues) (stayed gate : ℕ) (queue : List ℕ) {g w : ℕ} {ramps : List ℕ} → g ≡ max q.gate gate
    → w ≡ max q.waiting stayed → ramps ≡ fill_of (λ i. max (at q.ramps i) (at queue i)) n q.ramps
    → queues_of g w ramps ≡ longest_after n q stayed gate queue
longest_after_lem n q stayed gate queue eg ew er = rw (eg, ew, er) refl

module _ (n : ℕ) (after : ℕ → State) where
  pub longest_none : longest_of n after 0 ≡ no_queues
  unfolding longest_of maximum_of
  longest_none = ap (queues_of 0 0) (fill_same (λ i. 0) (at zeros) n zeros (λ i l. sym (zeros_at i)) ∙ fill_own zeros n)

  pub longest_more : (k : ℕ) → n ≤ most_cells
      → longest_of n after (suc k)
      ≡ longest_after n (longest_of n after k) (stayed_of (after k) (after (suc k))) (after (suc k)).gate_queue (after (suc k)).queue
  unfolding longest_of maximum_of
  longest_more k few =
      let long : n ≤ length zeros = omega (arith, length_zeros) in
      let f : ℕ → ℕ = λ i. maximum_of (λ j. at (after (suc j)).queue i) k in
      let g : ℕ → ℕ = λ i. max (f i) (at (after (suc k)).queue i) in
      let h : ℕ → ℕ = λ i. max (at (fill_of f n zeros) i) (at (after (suc k)).queue i) in
      ap (queues_of _ _)
      (sym (fill_over f g n zeros long)
      ∙ fill_same g h n (fill_of f n zeros) (λ i l. ap (λ (x : ℕ). max x (at (after (suc k)).queue i)) (sym (fill_at f n zeros i l long))))
