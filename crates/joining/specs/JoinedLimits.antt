-- If two studies are within the limits, so is the joined study. Assumes nothing.
use Rattle.std.specs.Prelude.{◌≡◌, List, ℕ, ◌+◌, ◌-◌, ◌*◌, ◌≤◌, ◌<◌}
use Rattle.std.proofs.Common.{sym, ap, ◌∙◌, ⊎_elim, arith}
use Rattle.model.specs.Numbers.{at}
use Rattle.numbers.specs.Tests.{order}
use Rattle.numbers.specs.RowsLaws.{fill_own}
use Rattle.model.specs.Flow.{whole}
use Rattle.model.specs.declared.Road.{Road}
use Rattle.model.specs.declared.State.{State}
use Rattle.model.specs.Road.{most_cells, most_bytes, most_rate, most_start, zeros, start_state, start_in}
use Rattle.numbers.specs.Zeros.{zeros_at}
use Rattle.model.specs.Schedules.{Study}
use Rattle.limits.specs.LimitsLaws.{RoadOk, StateOk, RowOk}
use Rattle.model.specs.Encoding.{record_size}
use Rattle.model.specs.Writing.{kept_seconds, cut_road, cut_state}
use Rattle.writing.specs.ReadBack.{Recordable}
use Rattle.model.specs.Joining.{joined_entry, joined_column, joined_share, joined_road, joined_start, joined_row, joined_study}
use Rattle.joining.specs.JoinedColumns.{halves, ColumnJoined, JoinedShares, column_joined, shares_joined, row_joined, cut_own}

-- a limit that holds for all entries of both
most_joined : (n m most : ℕ) {up down l : List ℕ} → ColumnJoined n m up down l → ((i : ℕ) → i < n → at up i ≤ most) → ((i : ℕ) → i < m → at down i ≤ most)
    → (i : ℕ) → i < n + m → at l i ≤ most
most_joined n m most {up} {down} {l} j h k =
    halves n m (λ i. at l i ≤ most) (λ i b. omega (arith, j.upper i b, h i b)) (λ i b. omega (arith, j.lower i b, k i b))

module _ (a b : Road) (share : ℕ) (ra : RoadOk a) (rb : RoadOk b) (stated : share ≤ whole) (most : a.n + b.n ≤ most_cells) where
  abbrev n : ℕ
  n = a.n

  abbrev m : ℕ
  m = b.n

  abbrev r : Road
  r = joined_road a b share

  column : (up down : List ℕ) → ColumnJoined a.n b.n up down (joined_column a.n b.n up down)
  column up down = column_joined n m most up down

  shares : JoinedShares share a.n b.n a.share b.share (joined_road a b share).share
  shares = shares_joined n m most a.share b.share share

  upper_share_lem : (i : ℕ) → i < a.n → at (joined_road a b share).share i ≤ whole
  upper_share_lem i l = ⊎_elim
      (λ (h : n ≤ i + 1). omega (arith, shares.joint i (omega arith)))
      (λ (h : i + 1 < n). omega (arith, shares.upper i h, ra.share i l))
      (order n (i + 1))

  pub road_joined : RoadOk (joined_road a b share)
  road_joined = record {
    some = omega (arith, ra.some);
    cells = most;
    gate = ra.gate;
    speed = most_joined n m whole (column a.speed b.speed) ra.speed rb.speed;
    wave = most_joined n m whole (column a.wave b.wave) ra.wave rb.wave;
    share = halves n m (λ i. at r.share i ≤ whole) upper_share_lem (λ i l. omega (arith, shares.lower i l, rb.share i l));
    last = λ i e.
        let j : n + (m - 1) ≡ i = omega (arith, e, rb.some) in
        ap (at r.share) (sym j) ∙ shares.lower (m - 1) (omega (arith, rb.some)) ∙ rb.last (m - 1) (omega (arith, rb.some));
    ramp = most_joined n m 1 (column a.ramp b.ramp) ra.ramp rb.ramp;
    jam = most_joined n m most_rate (column a.jam b.jam) ra.jam rb.jam;
    capacity = most_joined n m most_rate (column a.capacity b.capacity) ra.capacity rb.capacity;
  }

  -- it is 0 past its cells, like every road that was read
  pub road_cut : kept_seconds a.version a.seconds ≡ a.seconds → cut_road (joined_road a b share) ≡ joined_road a b share
  road_cut e =
      rw (
        e,
        cut_own (joined_entry n a.speed b.speed) (n + m) most,
        cut_own (joined_entry n a.wave b.wave) (n + m) most,
        cut_own (joined_share share n a.share b.share) (n + m) most,
        cut_own (joined_entry n a.ramp b.ramp) (n + m) most,
        cut_own (joined_entry n a.jam b.jam) (n + m) most,
        cut_own (joined_entry n a.capacity b.capacity) (n + m) most,
      )

  -- the state before step 0
  module _ (qa qb : State) (sa : StateOk a (start_state (start_in qa))) (sb : StateOk b (start_state (start_in qb))) where
    abbrev q : State
    q = joined_start n m qa qb

    pub start_joined : StateOk (joined_road a b share) (joined_start a.n b.n qa qb)
    start_joined =
        let jam = column a.jam b.jam in
        let held = column qa.held qb.held in
        let queue = column qa.queue qb.queue in
        let ramp = column a.ramp b.ramp in
        record {
          done = omega arith;
          total = omega arith;
          gate_queue = sa.gate_queue;
          gate_cumulative = omega arith;
          held = halves n m (λ i. at q.held i ≤ at r.jam i)
              (λ i l. omega (arith, held.upper i l, jam.upper i l, sa.held i l))
              (λ i l. omega (arith, held.lower i l, jam.lower i l, sb.held i l));
          queue = most_joined n m most_start queue (λ i l. omega (arith, sa.queue i l)) (λ i l. omega (arith, sb.queue i l));
          no_ramp = halves n m (λ i. at r.ramp i ≡ 0 → at q.queue i ≡ 0)
              (λ i l e. queue.upper i l ∙ sa.no_ramp i l (sym (ramp.upper i l) ∙ e))
              (λ i l e. queue.lower i l ∙ sb.no_ramp i l (sym (ramp.lower i l) ∙ e));
          cumulative = λ i l. omega (arith, zeros_at i);
        }

  pub start_cut : (qa qb : State) → cut_state (a.n + b.n) (joined_start a.n b.n qa qb) ≡ joined_start a.n b.n qa qb
  start_cut qa qb =
      rw (cut_own (joined_entry n qa.held qb.held) (n + m) most, cut_own (joined_entry n qa.queue qb.queue) (n + m) most, fill_own zeros (n + m))

  -- a row
  pub row_within : (up down : List ℕ) → RowOk a up → RowOk b down → RowOk (joined_road a b share) (joined_row up down)
  row_within up down wa wb =
      let j = row_joined n m up down wa.numbers wb.numbers in
      let row = joined_row up down in
      let ramp = column a.ramp b.ramp in
      record {
        numbers = j.numbers;
        gate = omega (arith, j.gate, wa.gate);
        arrivals = halves n m (λ i. at row (2 * i + 1) ≤ most_rate)
            (λ i l. omega (arith, j.upper_arrivals i l, wa.arrivals i l)) (λ i l. omega (arith, j.lower_arrivals i l, wb.arrivals i l));
        release = halves n m (λ i. at row (2 * i + 2) ≤ most_rate)
            (λ i l. omega (arith, j.upper_release i l, wa.release i l)) (λ i l. omega (arith, j.lower_release i l, wb.release i l));
        no_arrivals = halves n m (λ i. at r.ramp i ≡ 0 → at row (2 * i + 1) ≡ 0)
            (λ i l e. j.upper_arrivals i l ∙ wa.no_arrivals i l (sym (ramp.upper i l) ∙ e))
            (λ i l e. j.lower_arrivals i l ∙ wb.no_arrivals i l (sym (ramp.lower i l) ∙ e));
        no_release = halves n m (λ i. at r.ramp i ≡ 0 → at row (2 * i + 2) ≡ 0)
            (λ i l e. j.upper_release i l ∙ wa.no_release i l (sym (ramp.upper i l) ∙ e))
            (λ i l e. j.lower_release i l ∙ wb.no_release i l (sym (ramp.lower i l) ∙ e));
      }

pub study_joined : (a b : Study) (share : ℕ) → Recordable a → Recordable b → share ≤ whole → a.steps ≡ b.steps
    → a.road.n + b.road.n ≤ most_cells → record_size (joined_study a b share) ≤ most_bytes → Recordable (joined_study a b share)
study_joined a b share wa wb stated steps most size = record {
  version = wa.version;
  counts = record { some_cells = omega (arith, wa.counts.some_cells); cells = most; some_steps = wa.counts.some_steps; steps = wa.counts.steps };
  seconds = wa.seconds;
  size = size;
  road = road_joined a.road b.road share wa.road wb.road stated most;
  start = start_joined a.road b.road share wa.road wb.road stated most a.start b.start wa.start wb.start;
  row = λ t l.
      row_within a.road b.road share wa.road wb.road stated most (a.rows t) (b.rows t) (wa.row t l) (wb.row t (omega arith));
}
