-- Whole runs of a study and of the finer study, after every step that both reach. Assumes nothing.
use Rattle.std.specs.Prelude.{◌≡◌, List}
use Rattle.std.proofs.Math.Path.{ap, subst}
use Prim.Native.Nat.{ℕ, zero, suc, ◌+◌, ◌*◌, ◌≤◌}
use Rattle.std.proofs.Common.{le_refl}
use native.Mathlib.Omega.{arith}
use Rattle.model.specs.Flow.{whole}
use Rattle.model.specs.declared.Road.{Road}
use Rattle.model.specs.declared.State.{State}
use Rattle.model.specs.Schedules.{Study, road_at, schedule_after, engine_after, outflows_at, ObeysUpTo}
use Rattle.model.specs.Flow.{share_at, cumulative_at}
use Rattle.model.specs.Move.{next_of}
use Rattle.theory.specs.RulesLaws.{share_le, outflows_greatest}
use Rattle.theory.specs.Roads.{Alike, step_alike, alike_back, share_alike}
use Rattle.theory.specs.RunsLaws.{ReleasesFitUpTo}
use Rattle.theory.proofs.RunsLaws.{engine_schedule}
use Rattle.theory.specs.Finer.{times_of, scaled_state, scaled, reach_of}
use Rattle.theory.specs.FinerLaws.{finer_alike}
use Rattle.theory.specs.Coupling.{Coupling, coupled_on, coupled_back, coupled_start, coupled_step, scaled_nothing, onward_nothing}
use Rattle.theory.specs.StepRules.{DecidedOutflows, greatest_decided}
use Rattle.theory.specs.WholeShares.{SharesWhole, shares_whole_alike, whole_most, whole_least}
use Rattle.theory.specs.AnyShares.{Most, Least}
use Rattle.theory.proofs.AnyShares.{most_alike, least_alike, most_step, least_step}
use Rattle.theory.specs.NearRuns.{Deciding, FinerRequires}

module _ {K : ℕ} {a : Study} (h : FinerRequires K a) where
  abbrev r : Road
  r = a.road

  -- before step 0 nothing has left
  pub nothing : (p : ℕ) → p ≤ a.road.n → cumulative_at a.start p ≡ 0
  unfolding cumulative_at
  nothing zero l = omega (arith, h.ok.start.gate_cumulative, h.zero)
  nothing (suc i) l = omega (arith, h.ok.start.cumulative i l, h.zero)

  step_on_lem : (j : ℕ) → Alike a.road (road_at a j)
  step_on_lem j = step_alike (h.ok.roads j)

  step_off : (j : ℕ) → Alike (road_at a j) a.road
  step_off j = alike_back a.road (road_at a j) (step_on_lem j)

  -- in the engine's runs demand or room decides, in the study and in the finer study
  pub engine_decides : (k : ℕ) → ReleasesFitUpTo a k → Deciding a (outflows_at a) k
  engine_decides k fits j l =
      subst (λ (u : State). DecidedOutflows (road_at a j) u (a.rows j) (outflows_at a j)) (engine_schedule a j)
      (greatest_decided (road_at a j) (engine_after a j) (a.rows j) (outflows_at a j) (share_le (road_at a j) (h.ok.roads j).ok)
      (outflows_greatest (road_at a j) (engine_after a j) (a.rows j) (fits j l)))

  pub finer_decides : (k : ℕ) → ReleasesFitUpTo (scaled K a) k → Deciding (scaled K a) (outflows_at (scaled K a)) k
  finer_decides k fits j l =
      let q = road_at a j in
      let q' = road_at (scaled K a) j in
      let shares : (p : ℕ) → p ≤ (road_at (scaled K a) j).n → share_at (road_at (scaled K a) j) p ≤ whole =
      λ p m.
      let within : p ≤ (road_at a j).n = omega (arith, (h.roads j).n) in
      omega (arith, share_alike q q' (finer_alike (h.roads j)) p within, share_le q (h.ok.roads j).ok p within) in
      subst (λ (u : State). DecidedOutflows (road_at (scaled K a) j) u ((scaled K a).rows j) (outflows_at (scaled K a) j)) (engine_schedule (scaled K a) j)
      (greatest_decided q' (engine_after (scaled K a) j) ((scaled K a).rows j) (outflows_at (scaled K a) j) shares
      (outflows_greatest q' (engine_after (scaled K a) j) ((scaled K a).rows j) (fits j l)))

  -- any rows that obey the rules: ys in the study, zs in the finer study
  module _ (ys zs : ℕ → List ℕ) where
    abbrev S : ℕ → State
    S = schedule_after a ys

    abbrev T : ℕ → State
    T = schedule_after (scaled K a) zs

    pub coupled : (k : ℕ) → ObeysUpTo a ys k → ObeysUpTo (scaled K a) zs k → Coupling K a.road (schedule_after a ys k) (schedule_after (scaled K a) zs k)
    unfolding schedule_after
    coupled zero own fine = coupled_start K r a.start h.ok.road nothing h.ok.sized h.ok.start.held
    coupled (suc k) own fine =
        let before = coupled k (λ j l. own j (omega arith)) (λ j l. fine j (omega arith)) in
        coupled_back K (h.ok.roads k) (next_of (road_at a k) (S k) (a.rows k) (ys k)) (next_of (road_at (scaled K a) k) (T k) (times_of K (a.rows k)) (zs k))
        (coupled_step K (road_at a k) (road_at (scaled K a) k) (S k) (T k) (a.rows k) (ys k) (zs k) (h.ok.roads k).ok (h.roads k)
        (own k (le_refl (suc k))) (fine k (le_refl (suc k))) (coupled_on K (h.ok.roads k) (S k) (T k) before))

    -- shares 1,000 before the last: the finer F is at most k × K above K times F, and never below
    pub whole_most_after : SharesWhole a.road → (k : ℕ) → ObeysUpTo a ys k → ObeysUpTo (scaled K a) zs k → Deciding a ys k
        → (p : ℕ) → p ≤ a.road.n → cumulative_at (schedule_after (scaled K a) zs k) p ≤ K * cumulative_at (schedule_after a ys k) p + k * K
    unfolding schedule_after
    whole_most_after on zero own fine decide p l = omega (arith, scaled_nothing K r a.start h.ok.road nothing p l)
    whole_most_after on (suc k) own fine decide p l =
        let own' : ObeysUpTo a ys k = λ j m. own j (omega arith) in
        let fine' : ObeysUpTo (scaled K a) zs k = λ j m. fine j (omega arith) in
        let before = whole_most_after on k own' fine' (λ j m. decide j (omega arith)) in
        let same = (h.ok.roads k).n in
        let e : k * K + K ≡ suc k * K = omega arith in
        subst (λ (u : ℕ). cumulative_at (schedule_after (scaled K a) zs (suc k)) p ≤ K * cumulative_at (schedule_after a ys (suc k)) p + u) e
        (whole_most K (k * K) (road_at a k) (road_at (scaled K a) k) (S k) (T k) (a.rows k) (ys k) (zs k) h.some (h.ok.roads k).ok (h.roads k)
        (shares_whole_alike a.road (road_at a k) (step_on_lem k) on) (own k (le_refl (suc k))) (fine k (le_refl (suc k)))
        (coupled_on K (h.ok.roads k) (S k) (T k) (coupled k own' fine'))
        (λ i m. before i (omega (arith, same))) (decide k (le_refl (suc k))) p (omega (arith, same)))

    pub whole_least_after : SharesWhole a.road → (k : ℕ) → ObeysUpTo a ys k → ObeysUpTo (scaled K a) zs k → Deciding (scaled K a) zs k
        → (p : ℕ) → p ≤ a.road.n → K * cumulative_at (schedule_after a ys k) p ≤ cumulative_at (schedule_after (scaled K a) zs k) p
    unfolding schedule_after
    whole_least_after on zero own fine decide p l = omega (arith, ap (λ (x : ℕ). K * x) (nothing p l))
    whole_least_after on (suc k) own fine decide p l =
        let own' : ObeysUpTo a ys k = λ j m. own j (omega arith) in
        let fine' : ObeysUpTo (scaled K a) zs k = λ j m. fine j (omega arith) in
        let before = whole_least_after on k own' fine' (λ j m. decide j (omega arith)) in
        let same = (h.ok.roads k).n in
        whole_least K (k * K) (road_at a k) (road_at (scaled K a) k) (S k) (T k) (a.rows k) (ys k) (zs k) h.some (h.ok.roads k).ok (h.roads k)
        (shares_whole_alike a.road (road_at a k) (step_on_lem k) on) (own k (le_refl (suc k))) (fine k (le_refl (suc k)))
        (coupled_on K (h.ok.roads k) (S k) (T k) (coupled k own' fine'))
        (λ i m. before i (omega (arith, same))) (decide k (le_refl (suc k))) p (omega (arith, same))

    -- any shares
    pub most_after : (k : ℕ) → ObeysUpTo a ys k → ObeysUpTo (scaled K a) zs k → Deciding a ys k
        → Most K (2 * k * K) a.road (schedule_after a ys k) (schedule_after (scaled K a) zs k)
    unfolding schedule_after
    most_after zero own fine decide = record {
      outflow = λ p l. omega (arith, ap (λ (x : ℕ). x * reach_of r p) (scaled_nothing K r a.start h.ok.road nothing p l));
      onward = λ p l.
          omega (
            arith,
            ap (λ (x : ℕ). x * reach_of r (suc p))
                (onward_nothing r h.ok.road (scaled_state K a.start) p (omega arith)
                (scaled_nothing K r a.start h.ok.road nothing p (omega arith))),
          );
    }
    most_after (suc k) own fine decide =
        let own' : ObeysUpTo a ys k = λ j m. own j (omega arith) in
        let fine' : ObeysUpTo (scaled K a) zs k = λ j m. fine j (omega arith) in
        let before = most_after k own' fine' (λ j m. decide j (omega arith)) in
        let e : 2 * k * K + K + K ≡ 2 * suc k * K = omega arith in
        subst (λ (u : ℕ). Most K u a.road (schedule_after a ys (suc k)) (schedule_after (scaled K a) zs (suc k))) e
        (most_alike K (road_at a k) a.road (step_off k) (next_of (road_at a k) (S k) (a.rows k) (ys k))
        (next_of (road_at (scaled K a) k) (T k) (times_of K (a.rows k)) (zs k)) (2 * k * K + K + K)
        (most_step K (road_at a k) (road_at (scaled K a) k) (S k) (T k) (a.rows k) (ys k) (zs k) h.some (h.ok.roads k).ok (h.roads k)
        (own k (le_refl (suc k))) (fine k (le_refl (suc k))) (coupled_on K (h.ok.roads k) (S k) (T k) (coupled k own' fine')) (2 * k * K)
        (most_alike K a.road (road_at a k) (step_on_lem k) (S k) (T k) (2 * k * K) before) (decide k (le_refl (suc k)))))

    pub least_after : (k : ℕ) → ObeysUpTo a ys k → ObeysUpTo (scaled K a) zs k → Deciding (scaled K a) zs k
        → Least K (k * (K + 1)) a.road (schedule_after a ys k) (schedule_after (scaled K a) zs k)
    unfolding schedule_after
    least_after zero own fine decide = record {
      outflow = λ p l. omega (arith, ap (λ (x : ℕ). K * x * reach_of r p) (nothing p l));
      onward = λ p l.
          omega (
            arith,
            ap (λ (x : ℕ). K * x * reach_of r (suc p)) (onward_nothing r h.ok.road a.start p (omega arith) (nothing p (omega arith))),
          );
    }
    least_after (suc k) own fine decide =
        let own' : ObeysUpTo a ys k = λ j m. own j (omega arith) in
        let fine' : ObeysUpTo (scaled K a) zs k = λ j m. fine j (omega arith) in
        let before = least_after k own' fine' (λ j m. decide j (omega arith)) in
        let e : k * (K + 1) + 1 + K ≡ suc k * (K + 1) = omega arith in
        subst (λ (u : ℕ). Least K u a.road (schedule_after a ys (suc k)) (schedule_after (scaled K a) zs (suc k))) e
        (least_alike K (road_at a k) a.road (step_off k) (next_of (road_at a k) (S k) (a.rows k) (ys k))
        (next_of (road_at (scaled K a) k) (T k) (times_of K (a.rows k)) (zs k)) (k * (K + 1) + 1 + K)
        (least_step K (road_at a k) (road_at (scaled K a) k) (S k) (T k) (a.rows k) (ys k) (zs k) h.some (h.ok.roads k).ok (h.roads k)
        (own k (le_refl (suc k))) (fine k (le_refl (suc k))) (coupled_on K (h.ok.roads k) (S k) (T k) (coupled k own' fine')) (k * (K + 1))
        (least_alike K a.road (road_at a k) (step_on_lem k) (S k) (T k) (k * (K + 1)) before) (decide k (le_refl (suc k)))))
