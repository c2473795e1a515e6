-- Each filled release is the law's, in the run's own states, place by place. Assumes nothing.
use Rattle.std.specs.Prelude.{◌≡◌, length}
use Rattle.std.proofs.Math.Path.{refl, sym, ap}
use Rattle.std.proofs.Common.{◌∙◌, le_refl, arith}
use mathlib.Core.List.{List}
use Prim.Native.Nat.{ℕ, zero, suc, ◌+◌, ◌*◌, ◌≤◌, ◌<◌}
use Rattle.model.specs.Numbers.{at}
use Rattle.numbers.specs.RowsLaws.{length_fill}
use Rattle.model.specs.Road.{most_cells}
use Rattle.numbers.specs.Zeros.{length_zeros, zeros_at}
use Rattle.model.specs.Schedules.{Study, road_at, engine_after, outflows_at}
use Rattle.model.specs.declared.Law.{Law}
use Rattle.model.specs.Meter.{wish_of, whole_below, law_at}
use Rattle.model.specs.Flow.{release_at, entering_at}
use Rattle.theory.specs.Roads.{step_row}
use Rattle.theory.specs.RunsLaws.{StudyOk, SharedSteps}
use Rattle.theory.proofs.RunsLaws.{shared_less, engine_shared, outflows_shared}
use Rattle.model.specs.Filling.{MeterState, cap_at, metered_of}
use Rattle.ramps.specs.RampsLaws.{granted_release, filled_release, filled_most, last_release_lem, last_entry_lem}
use Rattle.model.specs.Filling.{metered_after, metered_from, granted_in, filled_study}
use Rattle.filling.specs.FillingLaws.{filled_rows, filled_road, filled_run}

-- the last release at the cell at i before step t, and what entered the cell from upstream in the last step; before the first step both are 0
unfoldable pub last_release : Study → ℕ → ℕ → ℕ
last_release a zero i = 0
last_release a (suc t) i = release_at (a.rows t) i

unfoldable pub last_entry : Study → ℕ → ℕ → ℕ
last_entry a zero i = 0
last_entry a (suc t) i = entering_at (road_at a t) (engine_after a t) (outflows_at a t) i

-- the release of the cell at i in step t of the engine's run: the greatest whole number not above the wish of its law, at most the cap;
-- 0 without a ramp
pub record ByLaw (laws : List Law) (a : Study) (t i : ℕ) : Type 0 where
  pub ramp : (at a.road.ramp i ≡ 0 → ⊥) → release_at (a.rows t) i
      ≡ whole_below (wish_of (law_at laws i) (last_release a t i) (last_entry a t i) (at (engine_after a t).held i)) (cap_at (road_at a t) (engine_after a t) (a.rows t) i)
  pub no_ramp : at a.road.ramp i ≡ 0 → release_at (a.rows t) i ≡ 0

module _ (laws : List Law) (a : Study) (ok : StudyOk a) where
  abbrev b : Study
  b = filled_study laws a

  abbrev m : ℕ → MeterState
  m = metered_after laws a

  -- the arrays that are carried have an entry for each cell
  releases_sized : (t : ℕ) → length (m t).releases ≡ most_cells
  unfolding metered_from metered_of
  releases_sized zero = length_zeros
  releases_sized (suc t) = length_fill _ _ _ ∙ releases_sized t

  entries_sized : (t : ℕ) → length (m t).entries ≡ most_cells
  unfolding metered_from metered_of
  entries_sized zero = length_zeros
  entries_sized (suc t) = length_fill _ _ _ ∙ entries_sized t

  module _ (i : ℕ) (l : i < a.road.n) where
    in_step : (t : ℕ) → i < (road_at a t).n
    in_step t = omega (arith, (ok.roads t).n)

    in_array : (t : ℕ) → (road_at a t).n ≤ most_cells
    in_array t = omega (arith, (ok.roads t).n, ok.road.cells)

    numbers : (t : ℕ) → t < a.steps → length (a.rows t) ≡ 1 + 2 * (road_at a t).n
    numbers t h = (step_row (ok.roads t) (a.rows t) (ok.row t h)).numbers

    -- they hold the last releases and entries of the filled run
    last_is : (t : ℕ) → t ≤ a.steps → at (m t).releases i ≡ last_release b t i
    unfolding metered_from last_release
    last_is zero h = zeros_at i
    last_is (suc t) h =
        last_release_lem laws (road_at a t) (m t) (a.rows t) (omega (arith, in_array t, releases_sized t)) i (in_step t)
        ∙ sym (filled_release laws (road_at a t) (m t) (a.rows t) (numbers t h) i (in_step t))

    entry_is : (t : ℕ) → at (m t).entries i ≡ last_entry b t i
    unfolding metered_from last_entry
    entry_is zero = zeros_at i
    entry_is (suc t) =
        last_entry_lem laws (road_at a t) (m t) (a.rows t) (omega (arith, in_array t, entries_sized t)) i (in_step t)
        ∙ rw (filled_run laws a t, filled_road laws a t)

    pub filled_by_law : (t : ℕ) → t < a.steps → ByLaw laws (filled_study laws a) t i
    filled_by_law t h = record {
      ramp = λ d.
          released
          ∙ (granted_release laws (road_at a t) (m t) (a.rows t) i).ramped (λ z. d (rw (ok.roads t).ramp at z))
          ∙ rw (last_is t (omega arith), entry_is t, filled_run laws a t, filled_road laws a t, filled_most laws (road_at a t) (m t) (a.rows t) i);
      no_ramp = λ z. released ∙ (granted_release laws (road_at a t) (m t) (a.rows t) i).no_ramp (rw (ok.roads t).ramp z);
    }
      where
        released : release_at (filled_rows laws a t) i ≡ granted_in laws a t i
        released = filled_release laws (road_at a t) (m t) (a.rows t) (numbers t h) i (in_step t)

-- the same laws hold for a study with the same steps
module _ {a b : Study} (i : ℕ) where
  same_release_lem : (t : ℕ) → SharedSteps a b t → last_release a t i ≡ last_release b t i
  unfolding last_release
  same_release_lem zero h = refl
  same_release_lem (suc t) h = ap (λ (row : List ℕ). release_at row i) (h.rows t (le_refl (suc t)))

  same_entry : (t : ℕ) → SharedSteps a b t → last_entry a t i ≡ last_entry b t i
  unfolding last_entry
  same_entry zero h = refl
  same_entry (suc t) h = rw (outflows_shared t h, engine_shared t (shared_less h t (omega arith)), h.roads t (le_refl (suc t)))

  pub shared_by_law : {laws : List Law} (t : ℕ) → a.road ≡ b.road → SharedSteps a b (suc t) → ByLaw laws b t i → ByLaw laws a t i
  shared_by_law t road h k =
      let s = shared_less h t (omega arith) in
      record {
        ramp = λ d.
            rw (same_release_lem t s, same_entry t s, engine_shared t s, h.roads t (le_refl (suc t)), h.rows t (le_refl (suc t)))
            (k.ramp (λ z. d (rw road z)));
        no_ramp = λ z. rw (h.rows t (le_refl (suc t))) (k.no_ramp (rw road at z));
      }
