-- What judging one row requires, and the results of its loop. Assumes nothing.
use Rattle.std.specs.Prelude.{◌≡◌, refl, List, ℕ, ◌+◌, ◌*◌, ◌≤◌, ◌<◌, length}
use Rattle.std.proofs.Common.{sym, ap, ◌∙◌, arith}
use Rattle.model.specs.Flow.{entering_of}
use Rattle.model.specs.Refusals.{fault, FaultAnswer}
use Rattle.model.specs.declared.Road.{Road}
use Rattle.model.specs.declared.State.{State}
use Rattle.model.specs.Road.{most_cells}
use Rattle.model.specs.Numbers.{at}
use Rattle.numbers.specs.FirstLaws.{Faultless, faultless_more}
use Rattle.model.specs.Flow.{room_at, demand_at}
use Rattle.model.specs.Stepping.{releases_of}
use Rattle.model.specs.Judging.{outflow_fault, outflow_fault_at, outflows_fault_of, verdict_of}
use Rattle.theory.specs.StepLaws.{number_of_lem, lowest_stop, lowest_end}
use Rattle.theory.specs.VerdictLaws.{fault_before_last, last_passes, last_above_demand, verdict_releases, verdict_outflows}
use Rattle.outflows.specs.CarriedValues.{CarriedValues}

-- the lengths of a step's row and of a row of outflows, gate first, for a road of n cells
pub record RowLengths (n : ℕ) (row y : List ℕ) : Type 0 where
  pub cells : n ≤ most_cells
  pub numbers : length row ≡ 1 + 2 * n
  pub places : length y ≡ n + 1

-- the loop over the places: the code's numbers at a place before the last, and the number of the refusal that it finds
module _ {r : Road} {s : State} (row y : List ℕ) {share cumulative demand i : ℕ} (k : CarriedValues r s share cumulative demand i) where
  pub outflow_found : {room entering m : ℕ} → i < r.n → room ≡ room_at r s row i → entering ≡ entering_of share cumulative (at y i)
      → m ≡ outflow_fault (at y i) demand entering room → m ≡ outflow_fault_at r s row y i
  outflow_found l er ee e = rw (ee, er, k.shares, k.cumulatives, k.demands) at e ∙ sym (fault_before_last r s row y i l)

  -- at the last place only the demand is tested
  module _ (h : Faultless (outflow_fault_at r s row y) (r.n + 1) i) (end : r.n ≤ i) where
    at_last : i ≡ r.n
    at_last = omega (arith, k.within)

    demand_last : demand ≡ demand_at r s r.n
    demand_last = k.demands ∙ ap (demand_at r s) at_last

    pub last_fault_lem : demand < at y r.n → fault 13 r.n ≡ outflows_fault_of r s row y
    last_fault_lem l =
        let e : r.n ≡ i + 0 = omega (arith, at_last) in
        let f = last_above_demand r s row y (omega (arith, demand_last)) in
        ap (fault 13) e ∙ lowest_stop _ _ 0 h (omega arith) (sym (ap (outflow_fault_at r s row y) at_last ∙ f)) (λ z. omega arith)

    pub last_end : at y r.n ≤ demand → fault 0 0 ≡ outflows_fault_of r s row y
    last_end l =
        let f = last_passes r s row y (omega (arith, demand_last)) in
        lowest_end _ _ 0 (faultless_more h (omega (arith, at_last)) refl (ap (outflow_fault_at r s row y) at_last ∙ f)) (omega (arith, at_last))

-- the code has tested the releases: the fault that it found, and its number
pub record ReleaseFinding (r : Road) (s : State) (row : List ℕ) (q : FaultAnswer) (m : ℕ) : Type 0 where
  pub found : q ≡ releases_of r s row
  pub number : m ≡ q.number

-- the verdict on y
module _ {r : Road} {s : State} {row : List ℕ} {q : FaultAnswer} {m : ℕ} (y : List ℕ) (k : ReleaseFinding r s row q m) where
  number_found : m ≡ (releases_of r s row).number
  number_found = k.number ∙ number_of_lem k.found

  pub verdict_fault : (m ≡ 0 → ⊥) → q ≡ verdict_of r s row y
  verdict_fault n = k.found ∙ sym (verdict_releases r s row y (λ z. n (number_found ∙ z)))

  pub verdict_end : {p : FaultAnswer} → m ≡ 0 → p ≡ outflows_fault_of r s row y → p ≡ verdict_of r s row y
  verdict_end z h = h ∙ sym (verdict_outflows r s row y (sym number_found ∙ z))
