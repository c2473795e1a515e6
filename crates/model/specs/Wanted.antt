-- docs/MODEL.md, 'Releases for a wanted queue': what a table must obey, the least one, and what the search answers. Assumes nothing.
use Rattle.std.specs.Prelude.{◌≡◌, Bool, true, false, cond, ◌&&◌, List, ℕ, zero, suc, ◌+◌, ◌-◌, ◌≤◌, ◌<◌, max, leb, eqb, length, take}
use Rattle.model.specs.declared.Wanted.TheVariants.{Refused, None, Found}
use Rattle.model.specs.declared.Wanted.{Wanted}
use Rattle.model.specs.Numbers.{sum_of, list_of, at, unless, all_of}
use Rattle.model.specs.Road.{most_steps, most_rate, most_start}
use Rattle.model.specs.Refusals.{refusal_number}
use Rattle.model.specs.Limits.{all_within}

-- the queue after k steps with the releases of a table
unfoldable pub ramp_queue_after : ℕ → List ℕ → List ℕ → ℕ → ℕ
ramp_queue_after start arrivals table zero = start
ramp_queue_after start arrivals table (suc k) = ramp_queue_after start arrivals table k + at arrivals k - at table k

-- a table that obeys: no release exceeds the rate or queue plus arrivals, and the queue after each step is at or under the ceiling
pub record TableObeys (start ceiling rate : ℕ) (arrivals table : List ℕ) : Type 0 where
  pub steps : length table ≡ length arrivals
  pub slow : (k : ℕ) → k < length arrivals → at table k ≤ rate
  pub there : (k : ℕ) → k < length arrivals → at table k ≤ ramp_queue_after start arrivals table k + at arrivals k
  pub under : (k : ℕ) → k < length arrivals → ramp_queue_after start arrivals table (suc k) ≤ ceiling

-- the running sum of a table after k steps
abbrev pub running_sum : List ℕ → ℕ → ℕ
running_sum table k = sum_of (take k table)

-- the limits of refusal 23, as facts: of the arrivals, and of all arguments
pub record ArrivalsOk (start : ℕ) (arrivals : List ℕ) : Type 0 where
  pub most : length arrivals ≤ most_steps
  pub starts : start ≤ most_start
  pub each : (k : ℕ) → k < length arrivals → at arrivals k ≤ most_rate

pub record Limits (start ceiling rate : ℕ) (arrivals : List ℕ) : Type 0 where
  pub some : 1 ≤ length arrivals
  pub comes : ArrivalsOk start arrivals
  pub rates : rate ≤ most_rate
  pub ceilings : ceiling ≤ most_start

pub record WantedRequest (start ceiling rate : ℕ) (arrivals : List ℕ) (places : ℕ) : Type 0 where
  pub limits : Limits start ceiling rate arrivals
  pub same : places ≡ length arrivals

-- refusal 23 applies if these tests fail: 1 to 1,440 steps, lists of equal length, no rate or arrival above 1,000,000, no start or ceiling above 1,000,000,000
abbrev pub wanted_frame_ok : ℕ → ℕ → ℕ → ℕ → ℕ → Bool
wanted_frame_ok start ceiling rate steps places =
    leb 1 steps && (leb steps most_steps && (eqb places steps && (leb rate most_rate && (leb start most_start && leb ceiling most_start))))

abbrev pub wanted_ok : ℕ → ℕ → ℕ → List ℕ → ℕ → Bool
wanted_ok start ceiling rate arrivals places = wanted_frame_ok start ceiling rate (length arrivals) places && all_within arrivals most_rate

-- the queue after k steps that each release as much as possible: no table makes it shorter
unfoldable pub lowest_queue : ℕ → ℕ → List ℕ → ℕ → ℕ
lowest_queue start rate arrivals zero = start
lowest_queue start rate arrivals (suc k) = lowest_queue start rate arrivals k + at arrivals k - rate

-- whether it stays at or under the ceiling
unfoldable pub possible_of : ℕ → ℕ → ℕ → List ℕ → Bool
possible_of start ceiling rate arrivals = all_of (λ k. leb (lowest_queue start rate arrivals (suc k)) ceiling) (length arrivals)

-- the start queue and the arrivals of k steps
unfoldable pub inflow_of : ℕ → List ℕ → ℕ → ℕ
inflow_of start arrivals k = start + sum_of (take k arrivals)

-- the least sum released by the end of step k, with n steps after it: enough for the ceiling, and enough that the next step's least needs at most the rate
unfoldable pub least_from : ℕ → ℕ → ℕ → List ℕ → ℕ → ℕ → ℕ
least_from start ceiling rate arrivals k zero = inflow_of start arrivals (suc k) - ceiling
least_from start ceiling rate arrivals k (suc n) =
    max (inflow_of start arrivals (suc k) - ceiling) (least_from start ceiling rate arrivals (suc k) n - rate)

abbrev pub least_at : ℕ → ℕ → ℕ → List ℕ → ℕ → ℕ
least_at start ceiling rate arrivals k = least_from start ceiling rate arrivals k (length arrivals - suc k)

-- the release of each step: the growth of that least sum
unfoldable pub least_release : ℕ → ℕ → ℕ → List ℕ → ℕ → ℕ
least_release start ceiling rate arrivals zero = least_at start ceiling rate arrivals 0
least_release start ceiling rate arrivals (suc k) = least_at start ceiling rate arrivals (suc k) - least_at start ceiling rate arrivals k

-- the table of these releases
unfoldable pub least_table : ℕ → ℕ → ℕ → List ℕ → List ℕ
least_table start ceiling rate arrivals = list_of (least_release start ceiling rate arrivals) (length arrivals)

-- what the search answers: the refusal's number, whether there was a search, and whether it found a table
pub record WantedAnswer : Type 0 where
  pub number : ℕ
  pub searched : Bool
  pub found : Bool

abbrev pub search_answer : ℕ → Bool → Bool → WantedAnswer
search_answer number searched found = record { number = number; searched = searched; found = found }

-- the number and the values of each case of the code's answer; no two cases have the same
abbrev pub wanted_answer : Wanted → WantedAnswer
wanted_answer (Refused refusal) = search_answer (refusal_number refusal) false false
wanted_answer None = search_answer 0 true false
wanted_answer Found = search_answer 0 true true

-- 23 precedes any search; if no table obeys, the answer is none
unfoldable pub wanted_of : ℕ → ℕ → ℕ → List ℕ → ℕ → WantedAnswer
wanted_of start ceiling rate arrivals places =
    unless (wanted_ok start ceiling rate arrivals places) (search_answer 23 false false)
    (unless (possible_of start ceiling rate arrivals) (search_answer 0 true false)
    (search_answer 0 true true))

-- the lent table afterwards: the table found; unchanged after none and after 23
unfoldable pub table_after : ℕ → ℕ → ℕ → List ℕ → List ℕ → List ℕ
table_after start ceiling rate arrivals table =
    cond (wanted_of start ceiling rate arrivals (length table)).found (least_table start ceiling rate arrivals) table

-- a table that obeys, and whose running sum after every step is at most that of each table that obeys
pub record Least (start ceiling rate : ℕ) (arrivals table : List ℕ) : Type 0 where
  pub obeys : TableObeys start ceiling rate arrivals table
  pub least : (other : List ℕ) → TableObeys start ceiling rate arrivals other → (k : ℕ) → k ≤ length arrivals → running_sum table k ≤ running_sum other k

-- the three cases of the answer, with the lent table that each leaves
pub data WantedEnds (start ceiling rate : ℕ) (arrivals table : List ℕ) : WantedAnswer → List ℕ → Type 0 where
  refused : (WantedRequest start ceiling rate arrivals (length table) → ⊥) → WantedEnds start ceiling rate arrivals table (search_answer 23 false false) table
  none : WantedRequest start ceiling rate arrivals (length table) → ((other : List ℕ) → TableObeys start ceiling rate arrivals other → ⊥)
      → WantedEnds start ceiling rate arrivals table (search_answer 0 true false) table
  found : WantedRequest start ceiling rate arrivals (length table) → {filled : List ℕ} → Least start ceiling rate arrivals filled
      → WantedEnds start ceiling rate arrivals table (search_answer 0 true true) filled
