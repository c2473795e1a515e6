-- Shares 1,000 before the last, so that all that leaves a cell enters the next one: one step of a study and of the finer study. Assumes nothing.
use Rattle.std.specs.Prelude.{◌≡◌, List, ℕ, suc, ◌+◌, ◌*◌, ◌≤◌, ◌<◌}
use Rattle.std.proofs.Common.{sym, ap, ◌∙◌, ⊎_elim, mul-le-mul_left, arith}
use Rattle.model.specs.Flow.{whole, onward_of}
use Rattle.flow.specs.FlowLaws.{onward_whole}
use Rattle.model.specs.declared.Road.{Road}
use Rattle.model.specs.declared.State.{State}
use Rattle.model.specs.Numbers.{at}
use Rattle.numbers.specs.Tests.{order}
use Rattle.limits.specs.LimitsLaws.{RoadOk}
use Rattle.model.specs.Flow.{demand_at, room_at, share_at, cumulative_at, entering_at}
use Rattle.theory.specs.RulesLaws.{onward_at, share_last}
use Rattle.model.specs.Move.{next_of}
use Rattle.model.specs.Schedules.{Obeys}
use Rattle.theory.specs.MoveLaws.{next_cumulative, next_onward}
use Rattle.theory.specs.Roads.{Alike, share_alike}
use Rattle.theory.specs.Finer.{times_of}
use Rattle.theory.specs.FinerLaws.{FinerRoad, finer_alike, finer_onward}
use Rattle.theory.specs.Coupling.{Coupling, sized_finer}
use Rattle.theory.specs.StepRules.{DecidedOutflows, demand_most, demand_least, room_most, room_least}

-- all that leaves a place before the last enters the next cell
abbrev pub SharesWhole : Road → Type 0
SharesWhole r = (p : ℕ) → p < r.n → share_at r p ≡ whole

pub shares_whole_alike : (a b : Road) → Alike a b → SharesWhole a → SharesWhole b
shares_whole_alike a b h on p l = share_alike a b h p (omega (arith, h.n)) ∙ on p (omega (arith, h.n))

-- its onward total is its cumulative outflow
pub onward_all : (r : Road) → SharesWhole r → (u : State) (p : ℕ) → p < r.n → onward_at r u p ≡ cumulative_at u p
onward_all r on u p l = ap (λ (b : ℕ). onward_of b (cumulative_at u p)) (on p l) ∙ onward_whole (cumulative_at u p)

module _ (K U : ℕ) (q q' : Road) (s t : State) (row y z : List ℕ) (k : 0 < K) (road : RoadOk q) (f : FinerRoad K q q') (on : SharesWhole q)
    (own : Obeys q s row y) (fine : Obeys q' t (times_of K row) z) (c : Coupling K q s t) where
  abbrev S' : State
  S' = next_of q s row y

  abbrev T' : State
  T' = next_of q' t (times_of K row) z

  -- F after the step
  own_next : (p : ℕ) → p ≤ q.n → cumulative_at S' p ≡ cumulative_at s p + at y p
  own_next p l = next_cumulative q s row y c.sized_s p l

  fine_next : (p : ℕ) → p ≤ q.n → cumulative_at T' p ≡ cumulative_at t p + at z p
  fine_next p l = next_cumulative q' t (times_of K row) z (sized_finer K q q' s t row y z road f own fine c) p (omega (arith, f.n))

  -- all of it enters the next cell
  own_in : (p : ℕ) → p < q.n → cumulative_at S' p ≡ onward_at q s p + entering_at q s y p
  own_in p l = omega (arith, onward_all q on S' p l, next_onward q s row y c.sized_s p (omega arith))

  fine_in : (p : ℕ) → p < q.n → cumulative_at T' p ≡ onward_at q t p + entering_at q' t z p
  fine_in p l =
      omega (
        arith,
        onward_all q on T' p l,
        next_onward q' t (times_of K row) z (sized_finer K q q' s t row y z road f own fine c) p (omega (arith, f.n)),
        finer_onward f t p (omega arith),
        finer_onward f T' p (omega arith),
      )

  module _ (most : (p : ℕ) → p ≤ q.n → cumulative_at t p ≤ K * cumulative_at s p + U) (decided : DecidedOutflows q s row y) where
    onward_most : (p : ℕ) → p < q.n → onward_at q t p * 1 ≤ K * onward_at q s p * 1 + U
    onward_most p l =
        omega (arith, most p (omega arith), onward_all q on t p l, ap (λ (x : ℕ). K * x) (onward_all q on s p l))

    by_demand : (p : ℕ) → p ≤ q.n → at y p ≡ demand_at q s p → cumulative_at T' p ≤ K * cumulative_at S' p + (U + K)
    by_demand p l e =
        omega (
          arith,
          fine_next p l,
          fine.demand p (omega (arith, f.n)),
          ap (λ (x : ℕ). K * x) (own_next p l),
          ap (λ (x : ℕ). K * x) e,
          demand_most K 1 U q q' s t k (omega arith) road f c p l (omega (arith, most p l)) (λ i j. onward_most i (omega arith)),
        )

    by_room : (p : ℕ) → p < q.n → entering_at q s y p ≡ room_at q s row p → cumulative_at T' p ≤ K * cumulative_at S' p + (U + K)
    by_room p l e =
        omega (
          arith,
          fine_in p l,
          fine.enters p (omega (arith, f.n)),
          ap (λ (x : ℕ). K * x) (own_in p l),
          ap (λ (x : ℕ). K * x) e,
          room_most K 1 U q q' s t k (omega arith) road f c row own.released fine.released p l (onward_most p l) (omega (arith, most (suc p) l)),
        )

    pub whole_most : (p : ℕ) → p ≤ q.n → cumulative_at T' p ≤ K * cumulative_at S' p + (U + K)
    whole_most p l = ⊎_elim
        (λ (n : q.n ≤ p).
        let e : q.n ≡ p = omega arith in
        by_demand p l (decided.exit p l (ap (λ (x : ℕ). share_at q x) (sym e) ∙ share_last q road)))
        (λ (m : p < q.n). ⊎_elim (by_demand p l) (by_room p m) (decided.place p m))
        (order q.n p)

  module _ (least : (p : ℕ) → p ≤ q.n → K * cumulative_at s p ≤ cumulative_at t p) (decided : DecidedOutflows q' t (times_of K row) z) where
    onward_least : (p : ℕ) → p < q.n → K * onward_at q s p * 1 ≤ onward_at q t p * 1 + 0
    onward_least p l =
        omega (arith, least p (omega arith), onward_all q on t p l, ap (λ (x : ℕ). K * x) (onward_all q on s p l))

    least_by_demand : (p : ℕ) → p ≤ q.n → at z p ≡ demand_at q' t p → K * cumulative_at S' p ≤ cumulative_at T' p
    least_by_demand p l e =
        omega (
          arith,
          fine_next p l,
          e,
          ap (λ (x : ℕ). K * x) (own_next p l),
          mul-le-mul_left K (own.demand p l),
          demand_least K 1 0 q q' s t k (omega arith) road f c p l (omega (arith, least p l)) (λ i j. onward_least i (omega arith)),
        )

    least_by_room : (p : ℕ) → p < q.n → entering_at q' t z p ≡ room_at q' t (times_of K row) p → K * cumulative_at S' p ≤ cumulative_at T' p
    least_by_room p l e =
        omega (
          arith,
          fine_in p l,
          e,
          ap (λ (x : ℕ). K * x) (own_in p l),
          mul-le-mul_left K (own.enters p l),
          room_least K 1 0 q q' s t k (omega arith) road f c row own.released fine.released p l (onward_least p l) (omega (arith, least (suc p) l)),
        )

    pub whole_least : (p : ℕ) → p ≤ q.n → K * cumulative_at S' p ≤ cumulative_at T' p
    whole_least p l = ⊎_elim
        (λ (n : q.n ≤ p).
        let e : q.n ≡ p = omega arith in
        least_by_demand p l
        (decided.exit p (omega (arith, f.n)) (share_alike q q' (finer_alike f) p l ∙ ap (λ (x : ℕ). share_at q x) (sym e) ∙ share_last q road)))
        (λ (m : p < q.n). ⊎_elim (least_by_demand p l) (least_by_room p m) (decided.place p (omega (arith, f.n))))
        (order q.n p)
