-- A part of a road, with its start and its rows: within the limits where the road is. A study is cut into two such parts. Assumes nothing.
use Rattle.std.specs.Prelude.{◌≡◌, cond, List, [], ◌∷◌, ℕ, ◌+◌, ◌-◌, ◌*◌, ◌≤◌, ◌<◌, eqb, length, take, drop}
use Rattle.std.proofs.Common.{sym, ap, ◌∙◌, arith}
use Rattle.model.specs.Numbers.{at, fill_of}
use Rattle.numbers.specs.RowsLaws.{fill_at, fill_own}
use Rattle.model.specs.Flow.{whole}
use Rattle.model.specs.declared.Road.{Road}
use Rattle.model.specs.declared.State.{State}
use Rattle.model.specs.Road.{most_cells, most_rate, zeros, start_state, start_in}
use Rattle.numbers.specs.Zeros.{length_zeros, zeros_at}
use Rattle.model.specs.Schedules.{Study, study}
use Rattle.model.specs.Record.{row_numbers}
use Rattle.limits.specs.LimitsLaws.{RoadOk, StateOk, RowOk}
use Rattle.model.specs.Writing.{cut_of, kept_seconds, cut_road, cut_state}
use Rattle.joining.specs.JoinedColumns.{cut_own}

-- the m entries of a column from cell k on, and 0 past them
abbrev pub part_of : ℕ → ℕ → List ℕ → List ℕ
part_of k m l = fill_of (λ i. at l (k + i)) m zeros

-- the shares of the first k cells; the last of these is now the road's last cell, with share 0
abbrev pub upper_share : ℕ → List ℕ → ℕ → ℕ
upper_share k l i = cond (eqb (i + 1) k) 0 (at l (0 + i))

-- m cells of a road from cell k on, with a gate of this capacity and these shares
abbrev pub part_road : ℕ → ℕ → ℕ → List ℕ → Road → Road
part_road k m gate share r = record {
  n = m;
  version = r.version;
  seconds = r.seconds;
  gate_capacity = gate;
  speed = part_of k m r.speed;
  wave = part_of k m r.wave;
  share = share;
  ramp = part_of k m r.ramp;
  jam = part_of k m r.jam;
  capacity = part_of k m r.capacity;
}

abbrev pub part_start : ℕ → ℕ → ℕ → State → State
part_start k m gate q = start_state (record { gate_queue = gate; held = part_of k m q.held; queue = part_of k m q.queue })

-- the first k cells of a study, with its gate; and the others, with a gate of capacity 0 without queue or arrivals
abbrev pub upper_of : ℕ → Study → Study
upper_of k a =
    study (part_road 0 k a.road.gate_capacity (fill_of (upper_share k a.road.share) k zeros) a.road) (part_start 0 k a.start.gate_queue a.start)
    a.steps (λ t. take (row_numbers k) (a.rows t)) []

abbrev pub lower_of : ℕ → Study → Study
lower_of k a =
    study (part_road k (a.road.n - k) 0 (part_of k (a.road.n - k) a.road.share) a.road) (part_start k (a.road.n - k) 0 a.start)
    a.steps (λ t. 0 ∷ drop (row_numbers k) (a.rows t)) []

pub part_at : (k m : ℕ) (l : List ℕ) → m ≤ most_cells → (i : ℕ) → i < m → at (part_of k m l) i ≡ at l (k + i)
part_at k m l h i b = fill_at (λ j. at l (k + j)) m zeros i b (omega (arith, length_zeros))

-- a part of a road within its limits is within them too, if its gate, its shares and its number of cells are
module _ (r : Road) (ok : RoadOk r) (k m gate : ℕ) (share : List ℕ) (some : 1 ≤ m) (within : k + m ≤ r.n) (gated : gate ≤ most_rate)
    (shared : (i : ℕ) → i < m → at share i ≤ whole) (last : (i : ℕ) → i + 1 ≡ m → at share i ≡ 0) where
  few : m ≤ most_cells
  few = omega (arith, ok.cells)

  entry : (l : List ℕ) (i : ℕ) → i < m → at (part_of k m l) i ≡ at l (k + i)
  entry l i b = part_at k m l few i b

  below : (l : List ℕ) (most : ℕ) → ((i : ℕ) → i < r.n → at l i ≤ most) → (i : ℕ) → i < m → at (part_of k m l) i ≤ most
  below l most h i b = omega (arith, entry l i b, h (k + i) (omega arith))

  pub part_road_lem : RoadOk (part_road k m gate share r)
  part_road_lem = record {
    some = some;
    cells = few;
    gate = gated;
    speed = below r.speed whole ok.speed;
    wave = below r.wave whole ok.wave;
    share = shared;
    last = last;
    ramp = below r.ramp 1 ok.ramp;
    jam = below r.jam most_rate ok.jam;
    capacity = below r.capacity most_rate ok.capacity;
  }

  pub part_start_lem : (q : State) (queue : ℕ) → StateOk r (start_state (start_in q)) → queue ≤ q.gate_queue
      → StateOk (part_road k m gate share r) (part_start k m queue q)
  part_start_lem q queue h l = record {
    done = omega arith;
    total = omega arith;
    gate_queue = omega (arith, h.gate_queue);
    gate_cumulative = omega arith;
    held = λ i b. omega (arith, entry q.held i b, entry r.jam i b, h.held (k + i) (omega arith));
    queue = λ i b. omega (arith, entry q.queue i b, h.queue (k + i) (omega arith));
    no_ramp = λ i b e. entry q.queue i b ∙ h.no_ramp (k + i) (omega arith) (sym (entry r.ramp i b) ∙ e);
    cumulative = λ i b. omega (arith, zeros_at i);
  }

  -- a row whose numbers for the cells are the road's
  pub part_row : (row all : List ℕ) → RowOk r all → length row ≡ row_numbers m → at row 0 ≤ most_rate
      → ((j : ℕ) → j < 2 * m → at row (1 + j) ≡ at all (1 + 2 * k + j)) → RowOk (part_road k m gate share r) row
  part_row row all h long gate same =
      let arrives : (i : ℕ) → i < m → at row (2 * i + 1) ≡ at all (2 * (k + i) + 1) =
      λ i b.
      (let e : 1 + 2 * i ≡ 2 * i + 1 = omega arith in
      let f : 1 + 2 * k + 2 * i ≡ 2 * (k + i) + 1 = omega arith in
      ap (at row) (sym e) ∙ same (2 * i) (omega arith) ∙ ap (at all) f) in
      let goes : (i : ℕ) → i < m → at row (2 * i + 2) ≡ at all (2 * (k + i) + 2) =
      λ i b.
      (let e : 1 + (2 * i + 1) ≡ 2 * i + 2 = omega arith in
      let f : 1 + 2 * k + (2 * i + 1) ≡ 2 * (k + i) + 2 = omega arith in
      ap (at row) (sym e) ∙ same (2 * i + 1) (omega arith) ∙ ap (at all) f) in
      record {
        numbers = long;
        gate = gate;
        arrivals = λ i b. omega (arith, arrives i b, h.arrivals (k + i) (omega arith));
        release = λ i b. omega (arith, goes i b, h.release (k + i) (omega arith));
        no_arrivals = λ i b e. arrives i b ∙ h.no_arrivals (k + i) (omega arith) (sym (entry r.ramp i b) ∙ e);
        no_release = λ i b e. goes i b ∙ h.no_release (k + i) (omega arith) (sym (entry r.ramp i b) ∙ e);
      }

  pub part_cut : (f : ℕ → ℕ) → share ≡ fill_of f m zeros → kept_seconds r.version r.seconds ≡ r.seconds
      → cut_road (part_road k m gate share r) ≡ part_road k m gate share r
  part_cut f e s =
      let own : cut_of m share ≡ share = ap (cut_of m) e ∙ cut_own f m few ∙ sym e in
      rw (
        s,
        cut_own (λ i. at r.speed (k + i)) m few,
        cut_own (λ i. at r.wave (k + i)) m few,
        own,
        cut_own (λ i. at r.ramp (k + i)) m few,
        cut_own (λ i. at r.jam (k + i)) m few,
        cut_own (λ i. at r.capacity (k + i)) m few,
      )

pub start_part : (k m gate : ℕ) (q : State) → m ≤ most_cells → cut_state m (part_start k m gate q) ≡ part_start k m gate q
start_part k m gate q few =
    rw (cut_own (λ i. at q.held (k + i)) m few, cut_own (λ i. at q.queue (k + i)) m few, fill_own zeros m)
