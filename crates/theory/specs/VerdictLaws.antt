-- Laws of judging one row: there is no fault exactly if the row obeys the rules. Assumes nothing.
use Rattle.std.specs.Prelude.{◌≡◌, refl, Bool, true, false, cond, List, ℕ, ◌+◌, ◌≤◌, ◌<◌, leb, ltb, eqb}
use Rattle.std.proofs.Common.{sym, ◌∙◌, ⊎_elim, eq-or-lt_of_le, arith, eqb-true, eq-eqb, ne_eqb, lt-ltb, le-ltb}
use Rattle.std.proofs.Math.Path.{ap}
use Rattle.std.proofs.lemmas.Bool.{eqb-false, lt-leb}
use Rattle.model.specs.declared.Road.{Road}
use Rattle.model.specs.declared.State.{State}
use Rattle.model.specs.Numbers.{at, unless, one_of}
use Rattle.numbers.specs.Tests.{one_zero, one_pass, two_zero, two_pass}
use Rattle.model.specs.Refusals.{began, fault}
use Rattle.model.specs.Flow.{demand_at, room_at, entering_at}
use Rattle.model.specs.Schedules.{Obeys}
use Rattle.model.specs.Stepping.{releases_of}
use Rattle.model.specs.Judging.{outflow_fault, last_fault, outflow_fault_at, outflows_fault_of, verdict_of}
use Rattle.theory.specs.StepLaws.{number_of_lem, lowest_none, lowest_zero, lowest_one, releases_fit, releases_class, fit_releases}

module _ (r : Road) (s : State) (row y : List ℕ) where
  -- the verdict is the fault of the releases, or else that of the outflows
  pub verdict_releases : ((releases_of r s row).number ≡ 0 → ⊥) → verdict_of r s row y ≡ releases_of r s row
  unfolding verdict_of
  verdict_releases h = ap (λ (b : Bool). unless b (releases_of r s row) (outflows_fault_of r s row y)) (ne_eqb (releases_of r s row).number 0 h)

  pub verdict_outflows : (releases_of r s row).number ≡ 0 → verdict_of r s row y ≡ outflows_fault_of r s row y
  unfolding verdict_of
  verdict_outflows h = ap (λ (b : Bool). unless b (releases_of r s row) (outflows_fault_of r s row y)) (eq-eqb (releases_of r s row).number 0 h)

  parts : (verdict_of r s row y).number ≡ 0 → ((releases_of r s row).number ≡ 0) × ((outflows_fault_of r s row y).number ≡ 0)
  parts h = go (eqb (releases_of r s row).number 0) refl
    where
      go : (b : Bool) → eqb (releases_of r s row).number 0 ≡ b → ((releases_of r s row).number ≡ 0) × ((outflows_fault_of r s row y).number ≡ 0)
      go true e =
          let z : (releases_of r s row).number ≡ 0 = eqb-true (releases_of r s row).number 0 e in
          (z, sym (number_of_lem (verdict_outflows z)) ∙ h)
      go false e =
          let n : (releases_of r s row).number ≡ 0 → ⊥ = eqb-false (releases_of r s row).number 0 e in
          absurd (n (sym (number_of_lem (verdict_releases n)) ∙ h))

  -- the fault of a place before the last, and of the last
  pub fault_before_last : (p : ℕ) → p < r.n
      → outflow_fault_at r s row y p ≡ outflow_fault (at y p) (demand_at r s p) (entering_at r s y p) (room_at r s row p)
  unfolding outflow_fault_at
  fault_before_last p l = rw (lt-ltb p r.n l)

  fault_last : outflow_fault_at r s row y r.n ≡ last_fault (at y r.n) (demand_at r s r.n)
  unfolding outflow_fault_at
  fault_last = rw (le-ltb r.n r.n (omega arith))

  -- without a fault the row obeys the rules
  pub verdict_obeys : (verdict_of r s row y).number ≡ 0 → Obeys r s row y
  verdict_obeys h = record {
    released = releases_fit r s row (parts h).0;
    demand = λ p l. ⊎_elim (λ (e : p ≡ r.n). rw e last) (λ (m : p < r.n). (place p m).0) (eq-or-lt_of_le l);
    enters = λ p l. (place p l).1;
  }
    where
      none : (p : ℕ) → p < r.n + 1 → outflow_fault_at r s row y p ≡ 0
      none = lowest_zero (outflow_fault_at r s row y) (r.n + 1) 0 (parts h).1

      place : (p : ℕ) → p < r.n → (at y p ≤ demand_at r s p) × (entering_at r s y p ≤ room_at r s row p)
      place p l =
          two_zero (at y p) (demand_at r s p) (entering_at r s y p) (room_at r s row p) 13 14 (λ z. omega arith) (λ z. omega arith)
          (sym (fault_before_last p l) ∙ none p (omega arith))

      last : at y r.n ≤ demand_at r s r.n
      last = one_zero (at y r.n) (demand_at r s r.n) 13 (λ z. omega arith) (sym fault_last ∙ none r.n (omega arith))

  -- the last place can only have fault 13
  pub last_passes : at y r.n ≤ demand_at r s r.n → outflow_fault_at r s row y r.n ≡ 0
  last_passes h = fault_last ∙ one_pass (at y r.n) (demand_at r s r.n) 13 h

  pub last_above_demand : demand_at r s r.n < at y r.n → outflow_fault_at r s row y r.n ≡ 13
  last_above_demand h = fault_last ∙ rw (lt-leb (at y r.n) (demand_at r s r.n) h)

  -- a row that obeys the rules has no fault
  pub obeys_verdict : Obeys r s row y → verdict_of r s row y ≡ fault 0 0
  obeys_verdict ok =
      verdict_outflows (number_of_lem (fit_releases r s row ok.released))
      ∙ lowest_none (outflow_fault_at r s row y) (r.n + 1) 0 (λ p l. ⊎_elim
      (λ (e : p ≡ r.n). rw e (last_passes (ok.demand r.n (omega arith))))
      (λ (m : p < r.n).
      fault_before_last p m
      ∙ two_pass (at y p) (demand_at r s p) (entering_at r s y p) (room_at r s row p) 13 14 (ok.demand p (omega arith)) (ok.enters p m))
      (eq-or-lt_of_le (below p l)))
    where
      below : (p : ℕ) → p < r.n + 1 → p ≤ r.n
      below p l = omega arith

-- the faults of a row come with a state
pub verdict_class : (r : Road) (s : State) (row y : List ℕ) → began (verdict_of r s row y).number ≡ true
unfolding verdict_of outflow_fault_at began one_of
verdict_class r s row y = go (eqb (releases_of r s row).number 0)
  where
    two : (t u : Bool) → began (unless t 13 (unless u 14 0)) ≡ true
    two true true = refl
    two true false = refl
    two false u = refl

    one : (t : Bool) → began (unless t 13 0) ≡ true
    one true = refl
    one false = refl

    place : (b : Bool) (p : ℕ)
        → began (cond b (outflow_fault (at y p) (demand_at r s p) (entering_at r s y p) (room_at r s row p)) (last_fault (at y p) (demand_at r s p))) ≡ true
    place true p = two (leb (at y p) (demand_at r s p)) (leb (entering_at r s y p) (room_at r s row p))
    place false p = one (leb (at y p) (demand_at r s p))

    go : (b : Bool) → began (unless b (releases_of r s row) (outflows_fault_of r s row y)).number ≡ true
    go true = lowest_one (outflow_fault_at r s row y) (r.n + 1) 0 (λ (m : ℕ). began m ≡ true) refl
        (λ p. place (ltb p r.n) p)
    go false = releases_class r s row
