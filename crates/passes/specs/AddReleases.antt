-- The loop that adds each listed cell's release to its held count and stores the ramp's queue after the step. Assumes nothing.
use Rattle.std.specs.Prelude.{◌≡◌, refl, List, ℕ, ◌+◌, ◌*◌, ◌≤◌, ◌<◌, length, set, take}
use Rattle.std.proofs.Common.{sym, ap, subst, ◌∙◌, arith}
use Rattle.model.specs.Numbers.{sum_of, fill_of, at}
use Rattle.numbers.specs.SumLaws.{sum_start, sum_set}
use Rattle.numbers.specs.RowsLaws.{fill_past, length_fill}
use Rattle.model.specs.Road.{most_cells, most_rate, most_steps}
use Rattle.model.specs.Limits.{most_queue}
use Rattle.passes.specs.RampList.{start_of, start_more, Listed, Upto, sum_to, sum_add, listed_before, listed_here, listed_more, listed_end}

-- a cell without a ramp releases nothing and has no queue
pub record Idle (give wait : ℕ → ℕ) (queue : List ℕ) (i : ℕ) : Type 0 where
  pub gives : give i ≡ 0
  pub waits : wait i ≡ 0
  pub queues : at queue i ≡ 0

-- the most that all cells hold, and the longest queue of one ramp and of all
abbrev pub most_on_road : ℕ
most_on_road = 3 * most_rate * most_cells

abbrev most_waiting : ℕ
most_waiting = most_queue most_steps + most_rate

abbrev pub most_at_ramps : ℕ
most_at_ramps = most_waiting * most_cells

-- what adding the releases requires: the release of each listed cell, and its queue after it
pub record AddRequires (give wait : ℕ → ℕ) (n ramps : ℕ) (cell release waiting held queue : List ℕ) : Type 0 where
  pub cells : n ≤ most_cells
  pub long_held : n ≤ length held
  pub long_queue : n ≤ length queue
  pub listed : Listed (Idle give wait queue) n ramps cell
  pub releases : (k : ℕ) → k < ramps → at release k ≡ give (at cell k)
  pub waits : (k : ℕ) → k < ramps → at waiting k ≡ wait (at cell k)
  pub helds : (i : ℕ) → i < n → at held i ≤ 2 * most_rate
  pub rates : (i : ℕ) → i < n → give i ≤ most_rate
  pub queues : (i : ℕ) → i < n → wait i ≤ most_waiting

-- the same for some releases and queues, with a sum that fits
pub record AddLent (n ramps sum : ℕ) (cell release waiting held queue : List ℕ) : Type 0 where
  pub give : ℕ → ℕ
  pub wait : ℕ → ℕ
  pub ready : AddRequires give wait n ramps cell release waiting held queue
  pub small : sum ≤ 2 * most_rate * n

-- a cell's held count with its release; the columns afterwards, and their sums
abbrev pub given_at : (ℕ → ℕ) → List ℕ → ℕ → ℕ
given_at give held i = at held i + give i

pub record AddGives (give wait : ℕ → ℕ) (n : ℕ) (held₀ queue₀ held queue : List ℕ) (sum₀ on_road at_ramps : ℕ) : Type 0 where
  pub helds : held ≡ fill_of (given_at give held₀) n held₀
  pub queues : queue ≡ fill_of wait n queue₀
  pub road : sum₀ ≡ sum_of (take n held₀) → on_road ≡ sum_of (take n held)
  pub ramps : at_ramps ≡ sum_of (take n queue)

-- the loop over the listed cells
pub record AddSoFar (give wait : ℕ → ℕ) (n : ℕ) (cell held₀ queue₀ held queue : List ℕ) (sum₀ on_road at_ramps j : ℕ) : Type 0 where
  pub helds : held ≡ fill_of (given_at give held₀) (start_of cell j) held₀
  pub queues : queue ≡ fill_of wait (start_of cell j) queue₀
  pub road : sum₀ ≡ sum_of (take n held₀) → on_road ≡ sum_of (take n held)
  pub ramps : at_ramps ≡ sum_of (take (start_of cell j) queue)
  pub bound : on_road ≤ sum₀ + most_rate * j
  pub small : at_ramps ≤ most_waiting * j

pub add_none : {give wait : ℕ → ℕ} {n : ℕ} {cell held queue : List ℕ} {sum : ℕ} → AddSoFar give wait n cell held queue held queue sum sum 0 0
unfolding fill_of start_of
add_none {queue = queue} = record {
  helds = refl;
  queues = refl;
  road = λ e. e;
  ramps = sym (sum_start queue);
  bound = omega arith;
  small = omega arith;
}

-- the facts about the numbers of a turn
pub record AddTurn (hold give wait i n : ℕ) : Type 0 where
  pub held : hold ≤ 2 * most_rate
  pub given : give ≤ most_rate
  pub waits : wait ≤ most_waiting
  pub within : i < n
  pub cells : n ≤ most_cells

module _ {give wait : ℕ → ℕ} {n ramps : ℕ} {cell release waiting held₀ queue₀ held queue : List ℕ} {sum₀ on_road at_ramps j : ℕ}
    (k : AddRequires give wait n ramps cell release waiting held₀ queue₀)
    (h : AddSoFar give wait n cell held₀ queue₀ held queue sum₀ on_road at_ramps j) where
  same_held : (i : ℕ) → i < n → Idle give wait queue₀ i → given_at give held₀ i ≡ at held₀ i
  same_held i l p = omega (arith, p.gives)

  same_queue : (i : ℕ) → i < n → Idle give wait queue₀ i → wait i ≡ at queue₀ i
  same_queue i l p = p.waits ∙ sym p.queues

  pub held_listed : j < ramps → at held (at cell j) ≡ at held₀ (at cell j)
  held_listed l = listed_here (given_at give held₀) held₀ k.listed same_held l h.helds

  pub long_held_lem : n ≤ length held
  long_held_lem = omega (arith, ap length h.helds, length_fill (given_at give held₀) (start_of cell j) held₀, k.long_held)

  pub long_queue_lem : n ≤ length queue
  long_queue_lem = omega (arith, ap length h.queues, length_fill wait (start_of cell j) queue₀, k.long_queue)

  pub add_turn : j < ramps → AddTurn (at held (at cell j)) (at release j) (at waiting j) (at cell j) n
  add_turn l = record {
    held = omega (arith, held_listed l, k.helds (at cell j) (k.listed.within j l));
    given = omega (arith, k.releases j l, k.rates (at cell j) (k.listed.within j l));
    waits = omega (arith, k.waits j l, k.queues (at cell j) (k.listed.within j l));
    within = k.listed.within j l;
    cells = k.cells;
  }

  pub add_more : j < ramps
      → AddSoFar give wait n cell held₀ queue₀ (set held (at cell j) (at held (at cell j) + at release j)) (set queue (at cell j) (at waiting j))
      sum₀ (on_road + at release j) (at_ramps + at waiting j) (j + 1)
  add_more l =
      let c = at cell j in
      let inside = k.listed.within j l in
      let there = held_listed l in
      let given = k.releases j l in
      let z : at held c + at release j ≡ given_at give held₀ c = cc in
      let w : at waiting j ≡ wait c = k.waits j l in
      let q = listed_before wait queue₀ k.listed same_queue l h.queues in
      let zero_there : (i : ℕ) → start_of cell j ≤ i → i < c → at queue i ≡ 0 =
      λ i a b. ap (λ (x : List ℕ). at x i) h.queues ∙ fill_past wait (start_of cell j) queue₀ i a ∙ (k.listed.gap j l i a b).queues in
      let skip = sum_to queue (start_of cell j) c (k.listed.rises j l) (omega (arith, long_queue_lem, k.cells)) zero_there in
      record {
        helds = listed_more (given_at give held₀) held₀ k.listed same_held l h.helds z;
        queues = listed_more wait queue₀ k.listed same_queue l h.queues w;
        road = λ e. omega (arith, h.road e, sum_add held n c (at release j) inside (omega (arith, long_held_lem, k.cells)));
        ramps = rw (start_more cell j) (omega (arith, h.ramps, skip, sum_set queue c (at waiting j) (omega (arith, long_queue_lem, k.cells))));
        bound = omega (arith, h.bound, k.rates c inside);
        small = omega (arith, h.small, k.queues c inside);
      }

  pub add_end : ramps ≤ j → Upto ramps j → AddGives give wait n held₀ queue₀ held queue sum₀ on_road at_ramps
  add_end l m =
      let e : j ≡ ramps = omega (arith, m.within) in
      let zero_there : (i : ℕ) → start_of cell j ≤ i → i < n → at queue i ≡ 0 =
      λ i a b. ap (λ (x : List ℕ). at x i) h.queues ∙ fill_past wait (start_of cell j) queue₀ i a
      ∙ (k.listed.past i (subst (λ (q : ℕ). start_of cell q ≤ i) e a) b).queues in
      let last : start_of cell j ≤ n = subst (λ (q : ℕ). start_of cell q ≤ n) (sym e) k.listed.last in
      record {
        helds = listed_end (given_at give held₀) held₀ k.listed same_held e h.helds;
        queues = listed_end wait queue₀ k.listed same_queue e h.queues;
        road = h.road;
        ramps = h.ramps ∙ sym (sum_to queue (start_of cell j) n last (omega (arith, long_queue_lem, k.cells)) zero_there);
      }
