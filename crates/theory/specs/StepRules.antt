-- Demand and room of a place, in a study and in the finer study: if F and onward totals differ by at most X, what they allow differs by little
-- more. Assumes nothing.
use Rattle.std.specs.Prelude.{◌≡◌, refl, ◌⊎◌, List}
use Rattle.std.proofs.Common.{sym, ◌∙◌, inl, inr, ⊎_elim, le_refl, arith}
use Rattle.std.proofs.Math.Path.{ap}
use Prim.Native.Nat.{ℕ, zero, suc, ◌+◌, ◌-◌, ◌*◌, ◌≤◌, ◌<◌}
use Rattle.std.proofs.Math.Nat.{mul-pos}
use Rattle.model.specs.Flow.{whole, thousandths_of, demand_of, gate_demand_of, supply_of, entering_of, onward_of}
use Rattle.flow.specs.FlowLaws.{room_release, onward_entering, onward_step, entering_none}
use Rattle.model.specs.declared.Road.{Road}
use Rattle.model.specs.declared.State.{State}
use Rattle.model.specs.Numbers.{at}
use Rattle.numbers.specs.Tests.{order}
use Rattle.limits.specs.LimitsLaws.{RoadOk}
use Rattle.model.specs.Flow.{release_at, capacity_at, demand_at, supply_at, room_at, share_at, cumulative_at, entering_at}
use Rattle.theory.specs.RulesLaws.{onward_at}
use Rattle.model.specs.Schedules.{ReleasesFit, Greatest}
use Rattle.theory.specs.Finer.{times_of}
use Rattle.theory.specs.FinerRules.{thousandths_most, thousandths_least, capped_most, capped_least}
use Rattle.theory.specs.FinerLaws.{FinerRoad, finer_speed, finer_wave, finer_jam, times_at}
use Rattle.theory.specs.Coupling.{Coupling}

-- as in the papers' rules: at each place the outflow is the demand, or exactly the room enters; where nothing goes on, it is the demand
pub record DecidedOutflows (r : Road) (s : State) (row y : List ℕ) : Type 0 where
  pub exit : (p : ℕ) → p ≤ r.n → share_at r p ≡ 0 → at y p ≡ demand_at r s p
  pub place : (p : ℕ) → p < r.n → (at y p ≡ demand_at r s p) ⊎ (entering_at r s y p ≡ room_at r s row p)

-- one more part of outflow lets at most one more part in
entering_more : (b F y : ℕ) → b ≤ whole → entering_of b F (suc y) ≤ entering_of b F y + 1
entering_more b F y h =
    let e : F + suc y ≡ F + y + 1 = omega arith in
    let same : onward_of b (F + suc y) ≡ onward_of b (F + y + 1) = ap (λ (x : ℕ). onward_of b x) e in
    omega (arith, onward_entering b F (suc y), onward_entering b F y, onward_step b (F + y) 1 h)

-- the engine's outflows have this property
pub greatest_decided : (r : Road) (s : State) (row y : List ℕ) → ((p : ℕ) → p ≤ r.n → share_at r p ≤ whole) → Greatest r s row y → DecidedOutflows r s row y
greatest_decided r s row y shares g = record {
  exit = λ p l e. ⊎_elim
      (λ (n : r.n ≤ p).
      let same : r.n ≡ p = omega arith in
      ap (λ (x : ℕ). at y x) (sym same) ∙ g.last ∙ ap (λ (x : ℕ). demand_at r s x) same)
      (λ (m : p < r.n).
      let none : entering_of (share_at r p) (cumulative_at s p) (demand_at r s p) ≡ 0 = rw e (entering_none (cumulative_at s p) (demand_at r s p)) in
      omega (arith, g.demand p l, g.most p m (demand_at r s p) (le_refl (demand_at r s p)) (omega (arith, none))))
      (order r.n p);
  place = λ p l. ⊎_elim
      (λ (m : demand_at r s p ≤ at y p). inl (omega (arith, g.demand p (omega arith))))
      (λ (m : at y p < demand_at r s p).
      let more : entering_of (share_at r p) (cumulative_at s p) (suc (at y p)) ≤ room_at r s row p → ⊥ =
      λ fits. omega (arith, g.most p l (suc (at y p)) m fits) in
      inr (omega (arith, g.fits p l, entering_more (share_at r p) (cumulative_at s p) (at y p) (shares p (omega arith)))))
      (order (demand_at r s p) (at y p));
}

module _ (K W X : ℕ) (q q' : Road) (s t : State) (k : 0 < K) (w : 0 < W) (road : RoadOk q) (f : FinerRoad K q q') (c : Coupling K q s t) where
  -- the space in a cell, in both studies
  space : (i : ℕ) → i < q.n
      → K * at q.jam i - at t.held i + onward_at q t i + K * cumulative_at s (suc i)
      ≡ K * (at q.jam i - at s.held i) + K * onward_at q s i + cumulative_at t (suc i)
  space i l =
      let e : at q.jam i - at s.held i + at s.held i ≡ at q.jam i = omega (arith, c.held_s i l) in
      omega (arith, ap (λ (x : ℕ). K * x) e, c.cells i l, c.held_t i l)

  -- the finer study's is not larger by more
  pub demand_most : (p : ℕ) → p ≤ q.n → cumulative_at t p * W ≤ K * cumulative_at s p * W + X
      → ((i : ℕ) → suc i ≡ p → onward_at q t i * W ≤ K * onward_at q s i * W + X)
      → (cumulative_at t p + demand_at q' t p) * W < K * (cumulative_at s p + demand_at q s p) * W + X + K * W
  unfolding demand_at gate_demand_of demand_of
  demand_most zero l h o =
      capped_most K W X (cumulative_at s 0) (cumulative_at t 0) q.gate_capacity q'.gate_capacity s.gate_queue t.gate_queue
      w (omega (arith, f.gate)) h (omega (arith, ap (λ (x : ℕ). x * W) c.gate, mul-pos k w))
  demand_most (suc i) l h o =
      rw (finer_speed f i)
      (capped_most K W X (cumulative_at s (suc i)) (cumulative_at t (suc i)) (capacity_at q i) (capacity_at q' i)
      (thousandths_of (at q.speed i) (at s.held i)) (thousandths_of (at q.speed i) (at t.held i)) w (f.most i l) h
      (thousandths_most K W (at q.speed i) (at s.held i) (at t.held i) (cumulative_at s (suc i)) (cumulative_at t (suc i))
      (onward_at q s i) (onward_at q t i) (road.speed i l) k w (c.cells i l) X h (o i refl)))

  supply_most : (i : ℕ) → i < q.n → onward_at q t i * W ≤ K * onward_at q s i * W + X
      → cumulative_at t (suc i) * W ≤ K * cumulative_at s (suc i) * W + X
      → (onward_at q t i + supply_at q' t i) * W < K * (onward_at q s i + supply_at q s i) * W + X + K * W
  unfolding supply_of
  supply_most i l o h =
      rw (finer_wave f i, finer_jam f i)
      (capped_most K W X (onward_at q s i) (onward_at q t i) (capacity_at q i) (capacity_at q' i)
      (thousandths_of (at q.wave i) (at q.jam i - at s.held i)) (thousandths_of (at q.wave i) (K * at q.jam i - at t.held i))
      w (f.most i l) o
      (thousandths_most K W (at q.wave i) (at q.jam i - at s.held i) (K * at q.jam i - at t.held i) (onward_at q s i) (onward_at q t i)
      (cumulative_at s (suc i)) (cumulative_at t (suc i)) (road.wave i l) k w (space i l) X o h))

  -- the finer study's is not smaller by more
  pub demand_least : (p : ℕ) → p ≤ q.n → K * cumulative_at s p * W ≤ cumulative_at t p * W + X
      → ((i : ℕ) → suc i ≡ p → K * onward_at q s i * W ≤ onward_at q t i * W + X)
      → K * (cumulative_at s p + demand_at q s p) * W < (cumulative_at t p + demand_at q' t p) * W + X + W
  unfolding demand_at gate_demand_of demand_of
  demand_least zero l h o =
      capped_least K W X (cumulative_at s 0) (cumulative_at t 0) q.gate_capacity q'.gate_capacity s.gate_queue t.gate_queue
      w (omega (arith, f.gate)) h (omega (arith, ap (λ (x : ℕ). x * W) c.gate))
  demand_least (suc i) l h o =
      rw (finer_speed f i)
      (capped_least K W X (cumulative_at s (suc i)) (cumulative_at t (suc i)) (capacity_at q i) (capacity_at q' i)
      (thousandths_of (at q.speed i) (at s.held i)) (thousandths_of (at q.speed i) (at t.held i)) w (f.least i l) h
      (thousandths_least K W (at q.speed i) (at s.held i) (at t.held i) (cumulative_at s (suc i)) (cumulative_at t (suc i))
      (onward_at q s i) (onward_at q t i) (road.speed i l) k w (c.cells i l) X h (o i refl)))

  supply_least : (i : ℕ) → i < q.n → K * onward_at q s i * W ≤ onward_at q t i * W + X
      → K * cumulative_at s (suc i) * W ≤ cumulative_at t (suc i) * W + X
      → K * (onward_at q s i + supply_at q s i) * W < (onward_at q t i + supply_at q' t i) * W + X + W
  unfolding supply_of
  supply_least i l o h =
      rw (finer_wave f i, finer_jam f i)
      (capped_least K W X (onward_at q s i) (onward_at q t i) (capacity_at q i) (capacity_at q' i)
      (thousandths_of (at q.wave i) (at q.jam i - at s.held i)) (thousandths_of (at q.wave i) (K * at q.jam i - at t.held i))
      w (f.least i l) o
      (thousandths_least K W (at q.wave i) (at q.jam i - at s.held i) (K * at q.jam i - at t.held i) (onward_at q s i) (onward_at q t i)
      (cumulative_at s (suc i)) (cumulative_at t (suc i)) (road.wave i l) k w (space i l) X o h))

  -- the room: supply less the release, which fits in both studies and is K times as large in the finer one
  module _ (row : List ℕ) (own : ReleasesFit q s row) (fine : ReleasesFit q' t (times_of K row)) (i : ℕ) (l : i < q.n) where
    abbrev room : ℕ
    room = room_at q s row i

    abbrev room' : ℕ
    room' = room_at q' t (times_of K row) i

    releases : (room + release_at row i ≡ supply_at q s i) × (room' + K * release_at row i ≡ supply_at q' t i)
    releases = (
      room_release (supply_at q s i) (release_at row i) (own.supply i l),
      omega (
        arith,
        room_release (supply_at q' t i) (release_at (times_of K row) i) (fine.supply i (omega (arith, f.n))),
        times_at K row (2 * i + 2),
      ),
    )

    pub room_most : onward_at q t i * W ≤ K * onward_at q s i * W + X → cumulative_at t (suc i) * W ≤ K * cumulative_at s (suc i) * W + X
        → (onward_at q t i + room') * W < K * (onward_at q s i + room) * W + X + K * W
    room_most o h =
        omega (
          arith,
          supply_most i l o h,
          ap (λ (x : ℕ). K * x * W) releases.0,
          ap (λ (x : ℕ). x * W) releases.1,
        )

    pub room_least : K * onward_at q s i * W ≤ onward_at q t i * W + X → K * cumulative_at s (suc i) * W ≤ cumulative_at t (suc i) * W + X
        → K * (onward_at q s i + room) * W < (onward_at q t i + room') * W + X + W
    room_least o h =
        omega (
          arith,
          supply_least i l o h,
          ap (λ (x : ℕ). K * x * W) releases.0,
          ap (λ (x : ℕ). x * W) releases.1,
        )
