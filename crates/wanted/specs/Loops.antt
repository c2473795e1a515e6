-- The invariants of the search's loops, and its ends. Assumes nothing.
use Rattle.std.specs.Prelude.{◌≡◌, true, false, List, leb, set}
use Rattle.std.proofs.Math.Path.{refl, sym, ap}
use Rattle.std.proofs.Common.{◌∙◌, ⊎_elim, eq-or-lt_of_le, add-one, arith, le-leb}
use Prim.Native.Nat.{ℕ, zero, suc, ◌+◌, ◌-◌, ◌*◌, ◌≤◌, ◌<◌, max}
use Rattle.std.proofs.Math.ListN.{length, length-set}
use Rattle.std.proofs.Math.Seq.{ext_get_or, get_or-set_same, get_or-set_other}
use Rattle.std.proofs.lemmas.Bool.{lt-leb}
use Rattle.numbers.specs.RowsLaws.{length_list, list_at}
use Rattle.model.specs.Numbers.{at}
use Rattle.model.specs.Road.{most_start, most_rate}
use Rattle.numbers.specs.FirstLaws.{PassedTests, passed_none, passed_more, passed_fails, passed_all}
use Rattle.model.specs.Limits.{all_within}
use Rattle.model.specs.Wanted.{ArrivalsOk, Limits, wanted_frame_ok, wanted_ok, lowest_queue, possible_of, inflow_of}
use Rattle.model.specs.Wanted.{least_at, least_release, least_table, WantedAnswer, search_answer, wanted_of, table_after}
use Rattle.wanted.specs.WantedLaws.{inflow_none, inflow_more, inflow_most, least_last, least_more, least_grows}

-- after k steps that each release as much as possible
pub record ReleasedSoFar (start ceiling rate : ℕ) (arrivals : List ℕ) (queue k : ℕ) : Type 0 where
  pub lowest : queue ≡ lowest_queue start rate arrivals k
  pub small : queue ≤ most_start
  pub passed : PassedTests (λ j. leb (lowest_queue start rate arrivals (suc j)) ceiling) (length arrivals) k

-- the start queue and k arrivals are added
pub record InflowSoFar (start : ℕ) (arrivals : List ℕ) (total k : ℕ) : Type 0 where
  pub within : k ≤ length arrivals
  pub sum : total ≡ inflow_of start arrivals k

-- the table is filled after step k
pub record TableFilled (start ceiling rate : ℕ) (arrivals : List ℕ) (total after k : ℕ) (table : List ℕ) : Type 0 where
  pub within : k < length arrivals
  pub inflow : total ≡ inflow_of start arrivals (suc k)
  pub least : after ≡ least_at start ceiling rate arrivals k
  pub same : length table ≡ length arrivals
  pub later : (j : ℕ) → k < j → j < length arrivals → at table j ≡ least_release start ceiling rate arrivals j

-- the larger of two numbers that are known by equations
pub larger_is : {larger a b x y : ℕ} → larger ≡ max a b → a ≡ x → b ≡ y → larger ≡ max x y
larger_is h e f = h ∙ rw (e, f) refl

-- the answer of the search, and the table that it leaves
pub record SearchOutcome (start ceiling rate : ℕ) (arrivals table : List ℕ) (a : WantedAnswer) (left : List ℕ) : Type 0 where
  pub answer : a ≡ wanted_of start ceiling rate arrivals (length table)
  pub leaves : left ≡ table_after start ceiling rate arrivals table

module _ {start : ℕ} {arrivals : List ℕ} where
  pub added_none : InflowSoFar start arrivals start 0
  added_none = record { within = omega arith; sum = sym (inflow_none start arrivals) }

  pub added_fits : {total k : ℕ} → ArrivalsOk start arrivals → InflowSoFar start arrivals total k → k < length arrivals
      → total + at arrivals k ≤ most_start + length arrivals * most_rate
  added_fits {total} {k} p h l =
      omega (arith, h.sum, inflow_more start arrivals k l, inflow_most start arrivals p (suc k) l)

  pub added_more : {total k : ℕ} → InflowSoFar start arrivals total k → k < length arrivals → InflowSoFar start arrivals (total + at arrivals k) (k + 1)
  added_more {total} {k} h l = record {
    within = omega arith;
    sum = rw add-one (omega (arith, h.sum, inflow_more start arrivals k l));
  }

  pub added_end : {total k : ℕ} → InflowSoFar start arrivals total k → length arrivals ≤ k → total ≡ inflow_of start arrivals (length arrivals)
  added_end {k = k} h l = let e : k ≡ length arrivals = omega (arith, h.within) in h.sum ∙ ap (inflow_of start arrivals) e

module _ {start ceiling rate : ℕ} {arrivals : List ℕ} where
  pub lowered_none : Limits start ceiling rate arrivals → ReleasedSoFar start ceiling rate arrivals start 0
  unfolding lowest_queue
  lowered_none h = record { lowest = refl; small = h.comes.starts; passed = passed_none }

  module _ {queue k next : ℕ} (h : ReleasedSoFar start ceiling rate arrivals queue k) (l : k < length arrivals) (e : next ≡ queue + at arrivals k - rate) where
    next_lowest : next ≡ lowest_queue start rate arrivals (suc k)
    unfolding lowest_queue
    next_lowest = omega (arith, h.lowest)

    pub lowered_more : ceiling ≤ most_start → next ≤ ceiling → ReleasedSoFar start ceiling rate arrivals next (k + 1)
    lowered_more m n = record {
      lowest = rw add-one next_lowest;
      small = omega arith;
      passed = passed_more h.passed l refl (le-leb (lowest_queue start rate arrivals (suc k)) ceiling (omega (arith, next_lowest)));
    }

    pub lowered_stop : ceiling < next → false ≡ possible_of start ceiling rate arrivals
    unfolding possible_of
    lowered_stop n = passed_fails h.passed l refl (lt-leb (lowest_queue start rate arrivals (suc k)) ceiling (omega (arith, next_lowest)))

  pub lowered_end : {queue k : ℕ} → ReleasedSoFar start ceiling rate arrivals queue k → length arrivals ≤ k → true ≡ possible_of start ceiling rate arrivals
  unfolding possible_of
  lowered_end h l = passed_all h.passed l

  -- filling begins at the last step
  pub filled_none : {total after k : ℕ} {table : List ℕ} → Limits start ceiling rate arrivals → length table ≡ length arrivals
      → total ≡ inflow_of start arrivals (length arrivals) → after ≡ total - ceiling → k ≡ length arrivals - 1
      → TableFilled start ceiling rate arrivals total after k table
  filled_none {total} {after} {k} p s e f g =
      let n : suc k ≡ length arrivals = omega (arith, p.some) in
      record {
        within = omega arith;
        inflow = rw n e;
        least = rw (least_last start ceiling rate arrivals k n, n, f, e);
        same = s;
        later = λ j a b. absurd (omega arith);
      }

  module _ {total after k : ℕ} {table : List ℕ} (h : TableFilled start ceiling rate arrivals total after k table) where
    pub arrival_fits : at arrivals k ≤ total
    arrival_fits = omega (arith, h.inflow, inflow_more start arrivals k h.within)

    module _ (m : ℕ) (e : k ≡ suc m) {lower before : ℕ} (f : lower ≡ total - at arrivals k) (g : before ≡ max (lower - ceiling) (after - rate)) where
      inside : suc m < length arrivals
      inside = omega (arith, h.within)

      lower_inflow : lower ≡ inflow_of start arrivals (suc m)
      lower_inflow = omega (arith, f, h.inflow, inflow_more start arrivals k h.within, ap (inflow_of start arrivals) e)

      before_least : before ≡ least_at start ceiling rate arrivals m
      before_least =
          let at_last : after ≡ least_at start ceiling rate arrivals (suc m) = h.least ∙ ap (least_at start ceiling rate arrivals) e in
          cc (lower_inflow, least_more start ceiling rate arrivals m inside)

      pub before_fits : before ≤ after
      before_fits =
          omega (arith, before_least, h.least, ap (least_at start ceiling rate arrivals) e, least_grows start ceiling rate arrivals m inside)

      released : after - before ≡ least_release start ceiling rate arrivals k
      unfolding least_release
      released = rw (e, before_least) (omega (arith, h.least, ap (least_at start ceiling rate arrivals) e))

      filled_at : (j : ℕ) → m < j → j < length arrivals → at (set table k (after - before)) j ≡ least_release start ceiling rate arrivals j
      filled_at j a b = ⊎_elim
          (λ (q : k ≡ j). rw (← q) (get_or-set_same table k (after - before) 0 (omega (arith, h.same, h.within)) ∙ released))
          (λ (q : k < j). get_or-set_other table k j (after - before) 0 (λ r. omega arith) ∙ h.later j q b)
          (eq-or-lt_of_le (omega arith))

      pub filled_more : TableFilled start ceiling rate arrivals lower before m (set table k (after - before))
      filled_more = record {
        within = omega (arith, inside);
        inflow = lower_inflow;
        least = before_least;
        same = rw length-set h.same;
        later = filled_at;
      }

    -- at step 0 the table is complete
    pub filled_end : k ≡ 0 → set table 0 after ≡ least_table start ceiling rate arrivals
    unfolding least_table least_release
    filled_end z =
        let f = least_release start ceiling rate arrivals in
        let e : length (set table 0 after) ≡ length arrivals = rw length-set h.same in
        ext_get_or 0 (set table 0 after) _ (e ∙ sym (length_list f (length arrivals)))
        (λ j l. each j (omega arith) ∙ sym (list_at f (length arrivals) j (omega arith)))
      where
        each : (j : ℕ) → j < length arrivals → at (set table 0 after) j ≡ least_release start ceiling rate arrivals j
        each zero l = get_or-set_same table 0 after 0 (omega (arith, h.same)) ∙ h.least ∙ ap (least_at start ceiling rate arrivals) z
        each (suc j) l = get_or-set_other table 0 (suc j) after 0 (λ r. omega arith) ∙ h.later (suc j) (omega arith) l

-- the ends of the search
module _ (start ceiling rate : ℕ) (arrivals table : List ℕ) where
  -- a test of 23 fails
  refused : wanted_ok start ceiling rate arrivals (length table) ≡ false
      → SearchOutcome start ceiling rate arrivals table (search_answer 23 false false) table
  unfolding wanted_of table_after
  refused n = record { answer = rw n; leaves = rw n }

  pub ends_frame : wanted_frame_ok start ceiling rate (length arrivals) (length table) ≡ false
      → SearchOutcome start ceiling rate arrivals table (search_answer 23 false false) table
  ends_frame n = refused (rw n)

  module _ (f : wanted_frame_ok start ceiling rate (length arrivals) (length table) ≡ true) where
    pub ends_arrivals : all_within arrivals most_rate ≡ false → SearchOutcome start ceiling rate arrivals table (search_answer 23 false false) table
    ends_arrivals n = refused (rw (f, n))

    module _ (w : all_within arrivals most_rate ≡ true) where
      pub ends_none : possible_of start ceiling rate arrivals ≡ false → SearchOutcome start ceiling rate arrivals table (search_answer 0 true false) table
      unfolding wanted_of table_after
      ends_none n = record { answer = rw (f, w, n); leaves = rw (f, w, n) }

      pub ends_found : possible_of start ceiling rate arrivals ≡ true
          → SearchOutcome start ceiling rate arrivals table (search_answer 0 true true) (least_table start ceiling rate arrivals)
      unfolding wanted_of table_after
      ends_found n = record { answer = rw (f, w, n); leaves = rw (f, w, n) }
