-- What rounding costs: how far a study's numbers are from those of the same study counted K times finer, and from the papers' real numbers.
-- The bounds hold after every step that both reach, for every K. Assumes nothing.
use Rattle.std.specs.Prelude.{◌≡◌, refl, List, ℕ, suc, ◌*◌, ◌≤◌, ◌<◌, length}
use Rattle.std.proofs.Common.{ap, ⊎_elim, arith}
use Rattle.std.proofs.Math.Path.{subst⁻¹}
use Rattle.model.specs.declared.State.{State}
use Rattle.model.specs.Schedules.{Study, schedule_after, engine_after, outflows_at, ObeysUpTo, proposed_at, scheduled_at}
use Rattle.theory.specs.RunsLaws.{ReleasesFitUpTo}
use Rattle.theory.proofs.RunsLaws.{engine_schedule, engine_obeys}
use Rattle.model.specs.Reading.{reading_of, study_of}
use Rattle.reading.specs.Numbers.{read_numbers}
use Rattle.model.specs.Demand.{Openable, Reaches}
use Rattle.theory.specs.Readable.{readable}
use Rattle.theory.specs.Finer.{scaled, reach_of}
use Rattle.theory.specs.FinerLaws.{most_finer, roads_open, roads_closed}
use Rattle.theory.specs.WholeShares.{SharesWhole}
use Rattle.theory.specs.AnyShares.{Most}
use Rattle.theory.specs.NearRuns.{Deciding, FinerRequires}
use Rattle.theory.proofs.NearRuns.{engine_decides, finer_decides, coupled, whole_most_after, whole_least_after, most_after, least_after}
use Rattle.theory.specs.Present.{AboveAtMost}
use Rattle.theory.proofs.Present.{above_at_most, not_below_lem, ramp_time_finer}
use Rattle.theory.specs.Rounding.{Near, NearWhole, Within}

module _ {K : ℕ} {a : Study} (h : FinerRequires K a) (k : ℕ) where
  -- a schedule ys of the study and a schedule zs of the finer study; in both, demand or room decides
  module _ (ys zs : ℕ → List ℕ) (own : ObeysUpTo a ys k) (fine : ObeysUpTo (scaled K a) zs k) (decide : Deciding a ys k)
      (finer : Deciding (scaled K a) zs k) where
    pub schedules_near : Near K k a.road (schedule_after a ys k) (schedule_after (scaled K a) zs k)
    schedules_near =
        let c = coupled h ys zs k own fine in
        let m = most_after h ys zs k own fine decide in
        let l = least_after h ys zs k own fine finer in
        record {
          most = m.outflow;
          least = l.outflow;
          queue_most = omega (arith, ap (λ (x : ℕ). x * reach_of a.road 0) c.gate, l.outflow 0 (omega arith));
          queue_least = omega (arith, ap (λ (x : ℕ). x * reach_of a.road 0) c.gate, m.outflow 0 (omega arith));
          held_most = λ i n.
              omega (arith, ap (λ (x : ℕ). x * reach_of a.road (suc i)) (c.cells i n), m.onward i n, l.outflow (suc i) n);
          held_least = λ i n.
              omega (arith, ap (λ (x : ℕ). x * reach_of a.road (suc i)) (c.cells i n), l.onward i n, m.outflow (suc i) n);
          ramp_queue = c.queues;
          ramp_time = ramp_time_finer h ys zs k own fine;
        }

    schedules_near_whole : SharesWhole a.road → NearWhole K k a.road (schedule_after a ys k) (schedule_after (scaled K a) zs k)
    schedules_near_whole on =
        let x = not_below_lem h ys zs on k own fine finer in
        let y = above_at_most h ys zs on k own fine decide in
        let e = ramp_time_finer h ys zs k own fine in
        record {
          least = whole_least_after h ys zs on k own fine finer;
          most = whole_most_after h ys zs on k own fine decide;
          not_below = x;
          above = y;
          road_most = omega (arith, x.total, y.gate_time, e);
          road_least = omega (arith, y.total, x.gate_time, e);
        }

  module _ (fits : ReleasesFitUpTo a k) where
    -- against every schedule zs of the finer study that obeys the rules and in which demand or room decides. The papers' model gives such a
    -- schedule if its numbers are whole in finer parts (`Exact`)
    pub papers_near : (zs : ℕ → List ℕ) → ObeysUpTo (scaled K a) zs k → Deciding (scaled K a) zs k
        → Near K k a.road (engine_after a k) (schedule_after (scaled K a) zs k)
    papers_near zs fine finer =
        subst⁻¹ (λ (u : State). Near K k a.road u (schedule_after (scaled K a) zs k)) (engine_schedule a k)
        (schedules_near (outflows_at a) zs (engine_obeys a k fits) fine (engine_decides h k fits) finer)

    pub papers_near_whole : SharesWhole a.road → (zs : ℕ → List ℕ) → ObeysUpTo (scaled K a) zs k → Deciding (scaled K a) zs k
        → NearWhole K k a.road (engine_after a k) (schedule_after (scaled K a) zs k)
    papers_near_whole on zs fine finer =
        subst⁻¹ (λ (u : State). NearWhole K k a.road u (schedule_after (scaled K a) zs k)) (engine_schedule a k)
        (schedules_near_whole (outflows_at a) zs (engine_obeys a k fits) fine (engine_decides h k fits) finer on)

    -- against the run of the finer study
    pub rounding : ReleasesFitUpTo (scaled K a) k → Near K k a.road (engine_after a k) (engine_after (scaled K a) k)
    rounding fine =
        subst⁻¹ (λ (u : State). Near K k a.road (engine_after a k) u) (engine_schedule (scaled K a) k)
        (papers_near (outflows_at (scaled K a)) (engine_obeys (scaled K a) k fine) (finer_decides h k fine))

    pub rounding_whole : SharesWhole a.road → ReleasesFitUpTo (scaled K a) k → NearWhole K k a.road (engine_after a k) (engine_after (scaled K a) k)
    rounding_whole on fine =
        subst⁻¹ (λ (u : State). NearWhole K k a.road (engine_after a k) u) (engine_schedule (scaled K a) k)
        (papers_near_whole on (outflows_at (scaled K a)) (engine_obeys (scaled K a) k fine) (finer_decides h k fine))

    -- demand 3 within the bound: no schedule of the finer study is further ahead
    pub finer_schedules : (zs : List ℕ) → Reaches (scaled K a) zs k → Most K (2 * k * K) a.road (engine_after a k) (scheduled_at (scaled K a) zs k)
    finer_schedules zs reaches =
        subst⁻¹ (λ (u : State). Most K (2 * k * K) a.road u (scheduled_at (scaled K a) zs k)) (engine_schedule a k)
        (most_after h (outflows_at a) (proposed_at (scaled K a) zs) k (engine_obeys a k fits) reaches.obeys (engine_decides h k fits))

    pub finer_schedules_whole : SharesWhole a.road → (zs : List ℕ) → Reaches (scaled K a) zs k
        → AboveAtMost K k a.road (engine_after a k) (scheduled_at (scaled K a) zs k)
    finer_schedules_whole on zs reaches =
        subst⁻¹ (λ (u : State). AboveAtMost K k a.road u (scheduled_at (scaled K a) zs k)) (engine_schedule a k)
        (above_at_most h (outflows_at a) (proposed_at (scaled K a) zs) on k (engine_obeys a k fits) reaches.obeys (engine_decides h k fits))

pub finer_ready : (bytes lanes : List ℕ) → Openable bytes lanes → (K : ℕ) → 0 < K → Within lanes K → FinerRequires K (study_of bytes lanes)
finer_ready bytes lanes openable K some within =
    let x = (readable bytes lanes (reading_of bytes) refl openable.reads openable.opens).ok in
    let c = (read_numbers bytes (reading_of bytes) refl openable.reads).capacity.entries in
    record {
      some = some;
      ok = x;
      zero = (read_numbers bytes (reading_of bytes) refl openable.reads).done;
      roads = ⊎_elim
          (λ (e : length lanes ≡ 0). roads_open K (study_of bytes lanes) some e)
          (λ (m : K ≤ most_finer). roads_closed K (study_of bytes lanes) some m (omega (arith, x.road.cells, c)) x)
          within;
    }
