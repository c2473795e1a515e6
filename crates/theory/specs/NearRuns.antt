-- Whole runs of a study and of the finer study, after every step that both reach. Assumes nothing.
use Rattle.std.specs.Prelude.{◌≡◌, List}
use Prim.Native.Nat.{ℕ, ◌<◌}
use Rattle.model.specs.Schedules.{Study, road_at, schedule_after}
use Rattle.theory.specs.RunsLaws.{StudyOk}
use Rattle.theory.specs.Finer.{scaled}
use Rattle.theory.specs.FinerLaws.{FinerRoad}
use Rattle.theory.specs.StepRules.{DecidedOutflows}

-- demand or room decides at each place in the first k steps of a schedule, as in the papers' rules
abbrev pub Deciding : Study → (ℕ → List ℕ) → ℕ → Type 0
Deciding a ys k = (j : ℕ) → j < k → DecidedOutflows (road_at a j) (schedule_after a ys j) (a.rows j) (ys j)

-- what the theorems require from a study and from K
pub record FinerRequires (K : ℕ) (a : Study) : Type 0 where
  pub some : 0 < K
  pub ok : StudyOk a
  -- no step is done at the start
  pub zero : a.start.done ≡ 0
  pub roads : (j : ℕ) → FinerRoad K (road_at a j) (road_at (scaled K a) j)
