-- Laws of releases for a wanted queue. Assumes nothing.
use Rattle.std.specs.Prelude.{◌≡◌, true, List}
use Rattle.std.proofs.Math.Path.{refl}
use Rattle.std.proofs.Common.{sym}
use Prim.Native.Nat.{ℕ, zero, suc, ◌+◌, ◌-◌, ◌*◌, ◌≤◌, ◌<◌, min, max}
use Rattle.std.proofs.Math.Nat.{le_refl}
use native.Mathlib.Omega.{arith}
use Rattle.std.proofs.Math.ListN.{length}
use borrow.Author.Tests.{leb-true, le-leb}
use Rattle.numbers.specs.SumLaws.{sum_start, sum_more, sum_bound}
use Rattle.model.specs.Numbers.{list_of, at}
use Rattle.numbers.specs.RowsLaws.{length_list, list_at}
use Rattle.model.specs.Road.{most_rate, most_start}
use Rattle.numbers.specs.FirstLaws.{all_at, all_true}
use Rattle.numbers.specs.Tests.{and_true, both_true, le_head, eq_head, le_then, eq_then}
use Rattle.model.specs.Limits.{all_within}
use Rattle.limits.specs.AllWithin.{within_at, within_true}
use Rattle.model.specs.Wanted.{ArrivalsOk, WantedRequest, ramp_queue_after, TableObeys, running_sum, wanted_frame_ok, wanted_ok}
use Rattle.model.specs.Wanted.{lowest_queue, possible_of, inflow_of, least_from, least_at, least_release, least_table}

-- the inflow
module _ (start : ℕ) (arrivals : List ℕ) where
  pub inflow_none : inflow_of start arrivals 0 ≡ start
  unfolding inflow_of
  inflow_none = omega (arith, sum_start arrivals)

  pub inflow_more : (k : ℕ) → k < length arrivals → inflow_of start arrivals (suc k) ≡ inflow_of start arrivals k + at arrivals k
  unfolding inflow_of
  inflow_more k l = omega (arith, sum_more k arrivals l)

  pub inflow_most : ArrivalsOk start arrivals → (k : ℕ) → k ≤ length arrivals → inflow_of start arrivals k ≤ most_start + k * most_rate
  unfolding inflow_of
  inflow_most h k l = omega (arith, h.starts, sum_bound arrivals most_rate k l (λ i m. h.each i (omega arith)))

module _ (start ceiling rate : ℕ) (arrivals : List ℕ) where
  -- the test of 23 passes exactly if its limits hold
  pub ok_request : (places : ℕ) → wanted_ok start ceiling rate arrivals places ≡ true
      → WantedRequest start ceiling rate arrivals places
  ok_request places h =
      let both = and_true (wanted_frame_ok start ceiling rate (length arrivals) places) (all_within arrivals most_rate) h in
      let some = le_head _ _ _ both.0 in
      let most = le_head _ _ _ some.1 in
      let same = eq_head _ _ _ most.1 in
      let rates = le_head _ _ _ same.1 in
      let starts = le_head _ _ _ rates.1 in
      record {
        limits = record {
          some = some.0;
          comes = record { most = most.0; starts = starts.0; each = within_at arrivals most_rate both.1 };
          rates = rates.0;
          ceilings = leb-true _ _ starts.1;
        };
        same = same.0;
      }

  pub request_ok : (places : ℕ) → WantedRequest start ceiling rate arrivals places → wanted_ok start ceiling rate arrivals places ≡ true
  request_ok places q =
      let h = q.limits in
      both_true (wanted_frame_ok start ceiling rate (length arrivals) places) (all_within arrivals most_rate)
      (le_then _ _ _ h.some (le_then _ _ _ h.comes.most (eq_then _ _ _ q.same (le_then _ _ _ h.rates (le_then _ _ _ h.comes.starts (le-leb _ _ h.ceilings))))))
      (sym (within_true arrivals most_rate h.comes.each))

  -- for every table: the queue and the releases together are the start queue and the arrivals
  module _ (table : List ℕ) (same : length table ≡ length arrivals) where
    balance : ((k : ℕ) → k < length arrivals → at table k ≤ ramp_queue_after start arrivals table k + at arrivals k)
        → (k : ℕ) → k ≤ length arrivals → ramp_queue_after start arrivals table k + running_sum table k ≡ inflow_of start arrivals k
    unfolding ramp_queue_after
    balance there zero l = omega (arith, sum_start table, inflow_none start arrivals)
    balance there (suc k) l =
        omega (arith, there k l, sum_more k table (omega arith), inflow_more start arrivals k l, balance there k (omega arith))

  module _ (table : List ℕ) (o : TableObeys start ceiling rate arrivals table) where
    -- a table that obeys has released at least the least sum after step k, with n steps after it
    sum_least : (n k : ℕ) → suc k + n ≡ length arrivals → least_from start ceiling rate arrivals k n ≤ running_sum table (suc k)
    unfolding least_from
    sum_least zero k e =
        omega (arith, o.under k (omega arith), balance table o.steps o.there (suc k) (omega arith))
    sum_least (suc n) k e =
        omega (
          arith,
          o.under k (omega arith),
          balance table o.steps o.there (suc k) (omega arith),
          sum_least n (suc k) (omega arith),
          o.slow (suc k) (omega arith),
          sum_more (suc k) table (omega (arith, o.steps)),
        )

    pub least_sum : (k : ℕ) → k < length arrivals → least_at start ceiling rate arrivals k ≤ running_sum table (suc k)
    least_sum k l = sum_least (length arrivals - suc k) k (omega arith)

    -- its queue is at least the lowest
    pub lowest_queue_lem : (k : ℕ) → k ≤ length arrivals → lowest_queue start rate arrivals k ≤ ramp_queue_after start arrivals table k
    unfolding lowest_queue ramp_queue_after
    lowest_queue_lem zero l = le_refl start
    lowest_queue_lem (suc k) l = omega (arith, lowest_queue_lem k (omega arith), o.slow k l)

    pub obeyed_possible : possible_of start ceiling rate arrivals ≡ true
    unfolding possible_of
    obeyed_possible =
        all_true _ (length arrivals) (λ k l. le-leb (lowest_queue start rate arrivals (suc k)) ceiling (omega (arith, lowest_queue_lem (suc k) l, o.under k l)))

  -- the release of a step that releases as much as possible
  abbrev fastest : ℕ → ℕ
  fastest k = min rate (lowest_queue start rate arrivals k + at arrivals k)

  abbrev fastest_table : List ℕ
  fastest_table = list_of fastest (length arrivals)

  fast_queue : (k : ℕ) → k ≤ length arrivals → ramp_queue_after start arrivals fastest_table k ≡ lowest_queue start rate arrivals k
  unfolding ramp_queue_after lowest_queue
  fast_queue zero l = refl
  fast_queue (suc k) l = omega (arith, fast_queue k (omega arith), list_at fastest (length arrivals) k l)

  fast_obeys : possible_of start ceiling rate arrivals ≡ true → TableObeys start ceiling rate arrivals fastest_table
  unfolding possible_of
  fast_obeys p = record {
    steps = length_list fastest (length arrivals);
    slow = λ k l. omega (arith, list_at fastest (length arrivals) k l);
    there = λ k l. omega (arith, list_at fastest (length arrivals) k l, fast_queue k (omega arith));
    under = λ k l. omega (arith, fast_queue (suc k) l, leb-true (lowest_queue start rate arrivals (suc k)) ceiling (all_at _ (length arrivals) p k l));
  }

  -- the least running sums, step by step
  pub least_last : (k : ℕ) → suc k ≡ length arrivals → least_at start ceiling rate arrivals k ≡ inflow_of start arrivals (suc k) - ceiling
  unfolding least_from
  least_last k e = let z : length arrivals - suc k ≡ 0 = omega arith in rw z

  pub least_more : (k : ℕ) → suc k < length arrivals
      → least_at start ceiling rate arrivals k ≡ max (inflow_of start arrivals (suc k) - ceiling) (least_at start ceiling rate arrivals (suc k) - rate)
  unfolding least_from
  least_more k l = let z : length arrivals - suc k ≡ suc (length arrivals - suc (suc k)) = omega arith in rw z

  least_over : (k n : ℕ) → inflow_of start arrivals (suc k) - ceiling ≤ least_from start ceiling rate arrivals k n
  unfolding least_from
  least_over k zero = le_refl _
  least_over k (suc n) = omega arith

  pub least_grows : (k : ℕ) → suc k < length arrivals → least_at start ceiling rate arrivals k ≤ least_at start ceiling rate arrivals (suc k)
  least_grows k l =
      omega (arith, least_more k l, least_over (suc k) (length arrivals - suc (suc k)), inflow_more start arrivals (suc k) l)

  -- the running sums of the table are the least
  pub sums : (k : ℕ) → k < length arrivals → running_sum (least_table start ceiling rate arrivals) (suc k) ≡ least_at start ceiling rate arrivals k
  unfolding least_table least_release
  sums zero l =
      let f = least_release start ceiling rate arrivals in
      let table = list_of f (length arrivals) in
      omega (arith, sum_start table, sum_more 0 table (omega (arith, length_list f (length arrivals))), list_at f (length arrivals) 0 l)
  sums (suc k) l =
      let f = least_release start ceiling rate arrivals in
      let table = list_of f (length arrivals) in
      omega (arith, sums k (omega arith), sum_more (suc k) table (omega (arith, length_list f (length arrivals))), list_at f (length arrivals) (suc k) l, least_grows k l)

  -- the least table obeys if any table does
  module _ (p : possible_of start ceiling rate arrivals ≡ true) where
    least_there : (k : ℕ) → k < length arrivals → least_at start ceiling rate arrivals k ≤ inflow_of start arrivals (suc k)
    least_there k l =
        let o = fast_obeys p in
        omega (arith, least_sum fastest_table o k l, balance fastest_table o.steps o.there (suc k) l)

    release_slow : (k : ℕ) → k < length arrivals → least_release start ceiling rate arrivals k ≤ rate
    unfolding least_release
    release_slow zero l =
        let o = fast_obeys p in
        omega (arith, least_sum fastest_table o 0 l, o.slow 0 l, sum_start fastest_table, sum_more 0 fastest_table (omega (arith, o.steps)))
    release_slow (suc k) l = omega (arith, least_more k l)

    table_length : length (least_table start ceiling rate arrivals) ≡ length arrivals
    unfolding least_table
    table_length = length_list (least_release start ceiling rate arrivals) (length arrivals)

    table_at : (k : ℕ) → k < length arrivals → at (least_table start ceiling rate arrivals) k ≡ least_release start ceiling rate arrivals k
    unfolding least_table
    table_at k l = list_at (least_release start ceiling rate arrivals) (length arrivals) k l

    table_balance : (k : ℕ) → k ≤ length arrivals
        → ramp_queue_after start arrivals (least_table start ceiling rate arrivals) k + running_sum (least_table start ceiling rate arrivals) k ≡ inflow_of start arrivals k
    unfolding ramp_queue_after
    table_balance zero l = omega (arith, sum_start (least_table start ceiling rate arrivals), inflow_none start arrivals)
    table_balance (suc k) l =
        omega (
          arith,
          table_balance k (omega arith),
          sum_more k (least_table start ceiling rate arrivals) (omega (arith, table_length)),
          inflow_more start arrivals k l,
          sums k l,
          least_there k l,
        )

    pub table_obeys : TableObeys start ceiling rate arrivals (least_table start ceiling rate arrivals)
    table_obeys = record {
      steps = table_length;
      slow = λ k l. omega (arith, table_at k l, release_slow k l);
      there = λ k l.
          omega (
            arith,
            table_balance k (omega arith),
            sum_more k (least_table start ceiling rate arrivals) (omega (arith, table_length)),
            inflow_more start arrivals k l,
            sums k l,
            least_there k l,
          );
      under = λ k l. omega (arith, table_balance (suc k) l, sums k l, least_over k (length arrivals - suc k));
    }

  -- no table that obeys has released less after any step
  pub table_least : (table : List ℕ) → TableObeys start ceiling rate arrivals table
      → (k : ℕ) → k ≤ length arrivals → running_sum (least_table start ceiling rate arrivals) k ≤ running_sum table k
  table_least table o zero l = omega (arith, sum_start (least_table start ceiling rate arrivals))
  table_least table o (suc k) l = omega (arith, sums k l, least_sum table o k l)
