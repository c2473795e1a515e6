-- Any shares: one step of a study and of the finer study, with each error divided by the part of the traffic that reaches the end. Assumes nothing.
use Rattle.std.specs.Prelude.{◌≡◌, ◌⊎◌, List, ℕ, suc, ◌+◌, ◌*◌, ◌≤◌, ◌<◌}
use Rattle.std.proofs.Common.{sym, ap, ◌∙◌, subst, inl, inr, ⊎_elim, mul-le-mul_left, mul-le-mul_right, eq-zero-or-pos, arith}
use Rattle.model.specs.Flow.{whole, onward_of}
use Rattle.flow.specs.FlowLaws.{onward_none}
use Rattle.model.specs.declared.Road.{Road}
use Rattle.model.specs.declared.State.{State}
use Rattle.model.specs.Numbers.{at}
use Rattle.limits.specs.LimitsLaws.{RoadOk}
use Rattle.model.specs.Flow.{demand_at, room_at, share_at, cumulative_at, entering_at}
use Rattle.theory.specs.RulesLaws.{onward_at, share_last}
use Rattle.model.specs.Move.{next_of}
use Rattle.model.specs.Schedules.{Obeys}
use Rattle.theory.specs.MoveLaws.{next_cumulative, next_onward}
use Rattle.theory.specs.Roads.{Alike, share_alike}
use Rattle.theory.specs.Finer.{times_of, reach_of, thousands_of}
use Rattle.theory.specs.FinerRules.{place_most, place_least}
use Rattle.theory.specs.FinerLaws.{FinerRoad, finer_alike, finer_onward, reach_on, reach_pos, reach_le, reach_alike}
use Rattle.theory.specs.Coupling.{Coupling, sized_finer}
use Rattle.theory.specs.StepRules.{DecidedOutflows, demand_most, demand_least, room_most, room_least}
use Rattle.theory.specs.AnyShares.{Most, Least}

-- only the cells and shares of the road matter
module _ (K : ℕ) (a b : Road) (h : Alike a b) (s t : State) where
  pub most_alike : (U : ℕ) → Most K U a s t → Most K U b s t
  most_alike U m = record {
    outflow = λ p l.
        let l' : p ≤ a.n = omega (arith, h.n) in
        rw ((reach_alike a b h p l').0, (reach_alike a b h p l').1) (m.outflow p l');
    onward = λ p l.
        let l' : p < a.n = omega (arith, h.n) in
        rw ((reach_alike a b h (suc p) l').0, (reach_alike a b h (suc p) l').1, share_alike a b h p (omega arith)) (m.onward p l');
  }

  pub least_alike : (L : ℕ) → Least K L a s t → Least K L b s t
  least_alike L m = record {
    outflow = λ p l.
        let l' : p ≤ a.n = omega (arith, h.n) in
        rw ((reach_alike a b h p l').0, (reach_alike a b h p l').1) (m.outflow p l');
    onward = λ p l.
        let l' : p < a.n = omega (arith, h.n) in
        rw ((reach_alike a b h (suc p) l').0, (reach_alike a b h (suc p) l').1, share_alike a b h p (omega arith)) (m.onward p l');
  }

-- a strict bound that includes the step's own rounding, in thousands
widen : (x y U T P W : ℕ) → W ≤ T → x < y + U * T + P * W → x ≤ y + (U + P) * T
widen x y U T P W l h = omega (arith, mul-le-mul_left P l)

widen_one : (x y U T W : ℕ) → W ≤ T → x < y + U * T + W → x ≤ y + (U + 1) * T
widen_one x y U T W l h = omega arith

-- the laws of one place in a step; equations give the product P of the shares and their thousands D
module _ (K b W T P D Z G G' M M' N N' : ℕ) (k : 0 < K) (some : W ≤ T) (v : P ≡ b * W) (d : D ≡ whole * T) where
  most_at : G' * P ≤ K * G * P + Z * D → M' * W ≤ K * M * W + Z * T → N' ≤ G' → onward_of b N' ≤ M' → (N ≡ G) ⊎ (onward_of b N ≡ M)
      → (N' * P ≤ K * N * P + (Z + K) * D) × (onward_of b N' * W ≤ K * onward_of b N * W + (Z + K) * T)
  most_at g m l o e =
      let g' : G' * (b * W) ≤ K * G * (b * W) + Z * (whole * T) = rw (v, d) at g in
      rw (v, d) (place_most K b W T Z G G' M M' N N' k some g' m l o e)

  least_at_lem : K * G * P ≤ G' * P + Z * D → K * M * W ≤ M' * W + Z * T → N ≤ G → onward_of b N ≤ M → (N' ≡ G') ⊎ (onward_of b N' ≡ M')
      → (K * N * P ≤ N' * P + (Z + K) * D) × (K * onward_of b N * W ≤ onward_of b N' * W + (Z + K) * T)
  least_at_lem g m l o e =
      let g' : K * G * (b * W) ≤ G' * (b * W) + Z * (whole * T) = rw (v, d) at g in
      rw (v, d) (place_least K b W T Z G G' M M' N N' k some g' m l o e)

module _ (K : ℕ) (q q' : Road) (s t : State) (row y z : List ℕ) (k : 0 < K) (road : RoadOk q) (f : FinerRoad K q q')
    (own : Obeys q s row y) (fine : Obeys q' t (times_of K row) z) (c : Coupling K q s t) where
  abbrev S' : State
  S' = next_of q s row y

  abbrev T' : State
  T' = next_of q' t (times_of K row) z

  abbrev R : ℕ → ℕ
  R = reach_of q

  abbrev D : ℕ → ℕ
  D = thousands_of q

  -- F and onward total after the step
  own_next : (p : ℕ) → p ≤ q.n → cumulative_at S' p ≡ cumulative_at s p + at y p
  own_next p l = next_cumulative q s row y c.sized_s p l

  fine_next : (p : ℕ) → p ≤ q.n → cumulative_at T' p ≡ cumulative_at t p + at z p
  fine_next p l = next_cumulative q' t (times_of K row) z (sized_finer K q q' s t row y z road f own fine c) p (omega (arith, f.n))

  own_on : (p : ℕ) → p ≤ q.n → onward_at q S' p ≡ onward_at q s p + entering_at q s y p
  own_on p l = next_onward q s row y c.sized_s p l

  fine_on : (p : ℕ) → p ≤ q.n → onward_at q T' p ≡ onward_at q t p + entering_at q' t z p
  fine_on p l =
      omega (
        arith,
        next_onward q' t (times_of K row) z (sized_finer K q q' s t row y z road f own fine c) p (omega (arith, f.n)),
        finer_onward f t p l,
        finer_onward f T' p l,
      )

  -- nothing goes on from a place with share 0
  onward_stop : (u : State) (p : ℕ) → share_at q p ≡ 0 → onward_at q u p ≡ 0
  onward_stop u p e = ap (λ (b : ℕ). onward_of b (cumulative_at u p)) e ∙ onward_none (cumulative_at u p)

  -- a place is before the last, or nothing goes on from it
  place_of : (p : ℕ) → p ≤ q.n → (share_at q p ≡ 0) ⊎ ((share_at q p ≡ 0 → ⊥) × (p < q.n))
  place_of p l = ⊎_elim
      (λ (e : share_at q p ≡ 0). inl e)
      (λ (some : 0 < share_at q p).
      let none : share_at q p ≡ 0 → ⊥ = λ e. omega arith in
      let last : q.n ≡ p → ⊥ = λ e. none (ap (λ (x : ℕ). share_at q x) (sym e) ∙ share_last q road) in
      inr (none, omega arith))
      (eq-zero-or-pos (share_at q p))

  module _ (U : ℕ) (m : Most K U q s t) (decided : DecidedOutflows q s row y) where
    demands : (p : ℕ) → p ≤ q.n
        → (cumulative_at t p + demand_at q' t p) * R p ≤ K * (cumulative_at s p + demand_at q s p) * R p + (U + K) * D p
    demands p l =
        widen ((cumulative_at t p + demand_at q' t p) * R p) (K * (cumulative_at s p + demand_at q s p) * R p) U (D p) K (R p) (reach_le q road p l)
        (demand_most K (R p) (U * D p) q q' s t k (reach_pos q p) road f c p l (m.outflow p l)
        (λ i e. subst (λ (x : ℕ). onward_at q t i * R x ≤ K * onward_at q s i * R x + U * D x) e (m.onward i (omega arith))))

    rooms : (p : ℕ) → p < q.n
        → (onward_at q t p + room_at q' t (times_of K row) p) * R (suc p) ≤ K * (onward_at q s p + room_at q s row p) * R (suc p) + (U + K) * D (suc p)
    rooms p l =
        widen ((onward_at q t p + room_at q' t (times_of K row) p) * R (suc p)) (K * (onward_at q s p + room_at q s row p) * R (suc p)) U (D (suc p)) K (R (suc p))
        (reach_le q road (suc p) l)
        (room_most K (R (suc p)) (U * D (suc p)) q q' s t k (reach_pos q (suc p)) road f c row own.released fine.released p l
        (m.onward p l) (m.outflow (suc p) l))

    both : (p : ℕ) → p < q.n → (share_at q p ≡ 0 → ⊥)
        → (cumulative_at T' p * R p ≤ K * cumulative_at S' p * R p + (U + K + K) * D p)
        × (onward_at q T' p * R (suc p) ≤ K * onward_at q S' p * R (suc p) + (U + K + K) * D (suc p))
    both p l some =
        let at_place : p ≤ q.n = omega arith in
        most_at K (share_at q p) (R (suc p)) (D (suc p)) (R p) (D p) (U + K) (cumulative_at s p + demand_at q s p) (cumulative_at t p + demand_at q' t p)
        (onward_at q s p + room_at q s row p) (onward_at q t p + room_at q' t (times_of K row) p) (cumulative_at S' p) (cumulative_at T' p)
        k (reach_le q road (suc p) l) (reach_on q p l some).0 (reach_on q p l some).1 (demands p at_place) (rooms p l)
        (omega (arith, fine_next p at_place, fine.demand p (omega (arith, f.n))))
        (omega (arith, fine_on p at_place, fine.enters p (omega (arith, f.n))))
        (⊎_elim
        (λ (e : at y p ≡ demand_at q s p). inl (omega (arith, own_next p at_place, e)))
        (λ (e : entering_at q s y p ≡ room_at q s row p). inr (omega (arith, own_on p at_place, e)))
        (decided.place p l))

    -- in a step U grows by at most 2 K
    pub most_step : Most K (U + K + K) q S' T'
    most_step = record {
      outflow = λ p l. ⊎_elim
          (λ (e : share_at q p ≡ 0).
          let went : cumulative_at T' p ≤ cumulative_at t p + demand_at q' t p = omega (arith, fine_next p l, fine.demand p (omega (arith, f.n))) in
          let all : cumulative_at S' p ≡ cumulative_at s p + demand_at q s p = omega (arith, own_next p l, decided.exit p l e) in
          omega (arith, demands p l, mul-le-mul_right (R p) went, ap (λ (x : ℕ). K * x * R p) all))
          (λ (o : (share_at q p ≡ 0 → ⊥) × (p < q.n)). (both p o.1 o.0).0)
          (place_of p l);
      onward = λ p l. ⊎_elim
          (λ (e : share_at q p ≡ 0). omega (arith, ap (λ (x : ℕ). x * R (suc p)) (onward_stop T' p e)))
          (λ (o : (share_at q p ≡ 0 → ⊥) × (p < q.n)). (both p l o.0).1)
          (place_of p (omega arith));
    }

  module _ (L : ℕ) (m : Least K L q s t) (decided : DecidedOutflows q' t (times_of K row) z) where
    least_demands : (p : ℕ) → p ≤ q.n
        → K * (cumulative_at s p + demand_at q s p) * R p ≤ (cumulative_at t p + demand_at q' t p) * R p + (L + 1) * D p
    least_demands p l =
        widen_one (K * (cumulative_at s p + demand_at q s p) * R p) ((cumulative_at t p + demand_at q' t p) * R p) L (D p) (R p) (reach_le q road p l)
        (demand_least K (R p) (L * D p) q q' s t k (reach_pos q p) road f c p l (m.outflow p l)
        (λ i e. subst (λ (x : ℕ). K * onward_at q s i * R x ≤ onward_at q t i * R x + L * D x) e (m.onward i (omega arith))))

    least_rooms : (p : ℕ) → p < q.n
        → K * (onward_at q s p + room_at q s row p) * R (suc p) ≤ (onward_at q t p + room_at q' t (times_of K row) p) * R (suc p) + (L + 1) * D (suc p)
    least_rooms p l =
        widen_one (K * (onward_at q s p + room_at q s row p) * R (suc p)) ((onward_at q t p + room_at q' t (times_of K row) p) * R (suc p)) L (D (suc p)) (R (suc p))
        (reach_le q road (suc p) l)
        (room_least K (R (suc p)) (L * D (suc p)) q q' s t k (reach_pos q (suc p)) road f c row own.released fine.released p l
        (m.onward p l) (m.outflow (suc p) l))

    least_both : (p : ℕ) → p < q.n → (share_at q p ≡ 0 → ⊥)
        → (K * cumulative_at S' p * R p ≤ cumulative_at T' p * R p + (L + 1 + K) * D p)
        × (K * onward_at q S' p * R (suc p) ≤ onward_at q T' p * R (suc p) + (L + 1 + K) * D (suc p))
    least_both p l some =
        let at_place : p ≤ q.n = omega arith in
        least_at_lem K (share_at q p) (R (suc p)) (D (suc p)) (R p) (D p) (L + 1) (cumulative_at s p + demand_at q s p) (cumulative_at t p + demand_at q' t p)
        (onward_at q s p + room_at q s row p) (onward_at q t p + room_at q' t (times_of K row) p) (cumulative_at S' p) (cumulative_at T' p)
        k (reach_le q road (suc p) l) (reach_on q p l some).0 (reach_on q p l some).1 (least_demands p at_place) (least_rooms p l)
        (omega (arith, own_next p at_place, own.demand p at_place))
        (omega (arith, own_on p at_place, own.enters p l))
        (⊎_elim
        (λ (e : at z p ≡ demand_at q' t p). inl (omega (arith, fine_next p at_place, e)))
        (λ (e : entering_at q' t z p ≡ room_at q' t (times_of K row) p). inr (omega (arith, fine_on p at_place, e)))
        (decided.place p (omega (arith, f.n))))

    -- in a step L grows by at most K + 1
    pub least_step : Least K (L + 1 + K) q S' T'
    least_step = record {
      outflow = λ p l. ⊎_elim
          (λ (e : share_at q p ≡ 0).
          let went : cumulative_at S' p ≤ cumulative_at s p + demand_at q s p = omega (arith, own_next p l, own.demand p l) in
          let all : cumulative_at T' p ≡ cumulative_at t p + demand_at q' t p =
          omega (arith, fine_next p l, decided.exit p (omega (arith, f.n)) (share_alike q q' (finer_alike f) p l ∙ e)) in
          omega (arith, least_demands p l, mul-le-mul_right (R p) (mul-le-mul_left K went), ap (λ (x : ℕ). x * R p) all))
          (λ (o : (share_at q p ≡ 0 → ⊥) × (p < q.n)). (least_both p o.1 o.0).0)
          (place_of p l);
      onward = λ p l. ⊎_elim
          (λ (e : share_at q p ≡ 0). omega (arith, ap (λ (x : ℕ). K * x * R (suc p)) (onward_stop S' p e)))
          (λ (o : (share_at q p ≡ 0 → ⊥) × (p < q.n)). (least_both p l o.0).1)
          (place_of p (omega arith));
    }
