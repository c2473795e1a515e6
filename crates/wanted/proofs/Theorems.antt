-- The theorems of releases for a wanted queue: the table found has the least running sum after every step; none and 23 apply exactly
-- as on the page, and leave the lent table unchanged. Assumes nothing.
use Rattle.std.specs.Prelude.{◌≡◌, refl, true, false, cond, List, ℕ, suc, ◌≤◌, ◌<◌, length}
use Rattle.std.proofs.Common.{sym, ap, ◌∙◌, arith, ext_get_or}
use Rattle.model.specs.Numbers.{at}
use Rattle.numbers.specs.Tests.{unless_elim, not_both}
use Rattle.numbers.specs.SumLaws.{sum_more}
use Rattle.model.specs.Wanted.{WantedRequest, TableObeys, running_sum, wanted_ok, possible_of, least_table, WantedAnswer, search_answer, wanted_of, table_after, Least, WantedEnds}
use Rattle.wanted.specs.WantedLaws.{ok_request, request_ok, obeyed_possible, table_obeys, table_least}

-- 1: there is only one such table
module _ (start ceiling rate : ℕ) (arrivals : List ℕ) {one other : List ℕ} where
  pub least_unique : Least start ceiling rate arrivals one → Least start ceiling rate arrivals other → one ≡ other
  least_unique h g =
      let same : length one ≡ length other = h.obeys.steps ∙ sym g.obeys.steps in
      ext_get_or 0 one other same (λ k l. each k (omega (arith, h.obeys.steps)))
    where
      sums_agree : (k : ℕ) → k ≤ length arrivals → running_sum one k ≡ running_sum other k
      sums_agree k l = omega (arith, h.least other g.obeys k l, g.least one h.obeys k l)

      each : (k : ℕ) → k < length arrivals → at one k ≡ at other k
      each k l =
          omega (
            arith,
            sums_agree k (omega arith),
            sums_agree (suc k) l,
            sum_more k one (omega (arith, h.obeys.steps)),
            sum_more k other (omega (arith, g.obeys.steps)),
          )

-- 2: every answer is one of the three cases
module _ (start ceiling rate : ℕ) (arrivals table : List ℕ) where
  -- an answer, with the table that it leaves
  abbrev End : WantedAnswer → Type 0
  End x = WantedEnds start ceiling rate arrivals table x (cond x.found (least_table start ceiling rate arrivals) table)

  pub ends : WantedEnds start ceiling rate arrivals table (wanted_of start ceiling rate arrivals (length table)) (table_after start ceiling rate arrivals table)
  unfolding wanted_of table_after
  ends =
      unless_elim End (wanted_ok start ceiling rate arrivals (length table))
      (λ e. WantedEnds.refused (λ request. not_both (request_ok start ceiling rate arrivals (length table) request) e)) (λ e.
      let request = ok_request start ceiling rate arrivals (length table) e in
      unless_elim End (possible_of start ceiling rate arrivals) (λ f. WantedEnds.none request (λ other o. not_both (obeyed_possible start ceiling rate arrivals other o) f)) (λ f.
      WantedEnds.found request (record { obeys = table_obeys start ceiling rate arrivals f; least = table_least start ceiling rate arrivals })))

-- an answer and a table that the definitions give are one of the cases, so a contract may promise all three
pub meets_contract : (start ceiling rate : ℕ) (arrivals table : List ℕ) {a : WantedAnswer} {left : List ℕ}
    → a ≡ wanted_of start ceiling rate arrivals (length table) → left ≡ table_after start ceiling rate arrivals table
    → (a ≡ wanted_of start ceiling rate arrivals (length table)) × ((left ≡ table_after start ceiling rate arrivals table)
    × WantedEnds start ceiling rate arrivals table a left)
meets_contract start ceiling rate arrivals table e f = (e, (f, rw (e, f) (ends start ceiling rate arrivals table)))

-- so each case has its exact condition
module _ {start ceiling rate : ℕ} {arrivals table : List ℕ} where
  refused_not : {a : WantedAnswer} {left : List ℕ} → WantedEnds start ceiling rate arrivals table a left → a.number ≡ 23
      → WantedRequest start ceiling rate arrivals (length table) → ⊥
  refused_not (WantedEnds.refused h) e request = h request
  refused_not (WantedEnds.none q h) e request = omega arith
  refused_not (WantedEnds.found q h) e request = omega arith

  not_refused : {a : WantedAnswer} {left : List ℕ} → WantedEnds start ceiling rate arrivals table a left
      → (WantedRequest start ceiling rate arrivals (length table) → ⊥) → (a ≡ search_answer 23 false false) × (left ≡ table)
  not_refused (WantedEnds.refused h) n = (refl, refl)
  not_refused (WantedEnds.none q h) n = absurd (n q)
  not_refused (WantedEnds.found q h) n = absurd (n q)

  none_not : {a : WantedAnswer} {left : List ℕ} → WantedEnds start ceiling rate arrivals table a left → a ≡ search_answer 0 true false
      → (other : List ℕ) → TableObeys start ceiling rate arrivals other → ⊥
  none_not (WantedEnds.refused h) e other o = let z = ap (λ (x : WantedAnswer). x.number) e in omega arith
  none_not (WantedEnds.none q h) e other o = h other o
  none_not (WantedEnds.found q h) e other o = not_both {t = true} refl (ap (λ (x : WantedAnswer). x.found) e)

  not_none : {a : WantedAnswer} {left : List ℕ} → WantedEnds start ceiling rate arrivals table a left → WantedRequest start ceiling rate arrivals (length table)
      → ((other : List ℕ) → TableObeys start ceiling rate arrivals other → ⊥) → (a ≡ search_answer 0 true false) × (left ≡ table)
  not_none (WantedEnds.refused h) q n = absurd (h q)
  not_none (WantedEnds.none p h) q n = (refl, refl)
  not_none (WantedEnds.found p h) q n = absurd (n _ h.obeys)

  found_is : {a : WantedAnswer} {left : List ℕ} → WantedEnds start ceiling rate arrivals table a left → a.found ≡ true → Least start ceiling rate arrivals left
  found_is (WantedEnds.refused h) e = absurd (not_both e refl)
  found_is (WantedEnds.none q h) e = absurd (not_both e refl)
  found_is (WantedEnds.found q h) e = h

  found_in : {a : WantedAnswer} {left : List ℕ} → WantedEnds start ceiling rate arrivals table a left → a.found ≡ true
      → WantedRequest start ceiling rate arrivals (length table)
  found_in (WantedEnds.refused h) e = absurd (not_both e refl)
  found_in (WantedEnds.none q h) e = absurd (not_both e refl)
  found_in (WantedEnds.found q h) e = q

module _ (start ceiling rate : ℕ) (arrivals table : List ℕ) where
  abbrev answer : WantedAnswer
  answer = wanted_of start ceiling rate arrivals (length table)

  abbrev left : List ℕ
  left = table_after start ceiling rate arrivals table

  -- 3: the table found obeys, and its running sum is the least of all that do after every step
  pub found_least : answer.found ≡ true → Least start ceiling rate arrivals left
  found_least = found_is (ends start ceiling rate arrivals table)

  -- all arguments are within 23's limits
  pub found_request : answer.found ≡ true → WantedRequest start ceiling rate arrivals (length table)
  found_request = found_in (ends start ceiling rate arrivals table)

  -- 4: the answer is none exactly if, within the limits, no table obeys; the lent table is unchanged
  pub none_only : answer ≡ search_answer 0 true false → (other : List ℕ) → TableObeys start ceiling rate arrivals other → ⊥
  none_only = none_not (ends start ceiling rate arrivals table)

  pub none_if : WantedRequest start ceiling rate arrivals (length table) → ((other : List ℕ) → TableObeys start ceiling rate arrivals other → ⊥)
      → (answer ≡ search_answer 0 true false) × (left ≡ table)
  none_if = not_none (ends start ceiling rate arrivals table)

  -- 5: 23 applies exactly if a limit is broken; the lent table is unchanged
  pub refused_only : answer.number ≡ 23 → WantedRequest start ceiling rate arrivals (length table) → ⊥
  refused_only = refused_not (ends start ceiling rate arrivals table)

  pub refused_if : (WantedRequest start ceiling rate arrivals (length table) → ⊥) → (answer ≡ search_answer 23 false false) × (left ≡ table)
  refused_if = not_refused (ends start ceiling rate arrivals table)
