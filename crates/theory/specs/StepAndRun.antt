-- `step` and `run` agree. A record that is read and stepped row by row with its lanes has the run's states. It ends as the run does: after all T
-- rows, or with the same 9 or 10 at the same step and cell. Assumes nothing.
use Rattle.std.specs.Prelude.{◌≡◌, List, length}
use Prim.Native.Nat.{ℕ, zero, suc, ◌≤◌, ◌<◌}
use Rattle.model.specs.Numbers.{at}
use Rattle.model.specs.Lanes.{built_in, open_in}
use Rattle.model.specs.declared.State.{State}
use Rattle.model.specs.Refusals.{fault}
use Rattle.model.specs.Schedules.{Study, scheduled_at}
use Rattle.model.specs.Stepping.{Answer, stepping_of}
use Rattle.theory.specs.LanesUnread.{SameTo}
use Rattle.model.specs.Reading.{study_of}
use Rattle.model.specs.Running.{EndAnswer, end_of, running_of, steps_made, list_after}

-- the lanes given to `step` in step k: the table's, up to cell n; with the empty table any lanes built, all of them open
pub record LanesOf (a : Study) (built usable : List ℕ) (k : ℕ) : Type 0 where
  pub table_built : (length a.lanes ≡ 0 → ⊥) → SameTo a.road.n built (built_in a.lanes a.road.n)
  pub table_open : (length a.lanes ≡ 0 → ⊥) → SameTo a.road.n usable (open_in a.lanes a.road.n k)
  pub all_open : length a.lanes ≡ 0 → (i : ℕ) → i < a.road.n → (0 < at built i) × (at usable i ≡ at built i)

-- a study stepped row by row: the answer of `step` in step k, from the state that it returned in the step before
unfoldable pub stepped_after : Study → List ℕ → (ℕ → List ℕ) → ℕ → State
stepped_after a built usable zero = a.start
stepped_after a built usable (suc k) = (stepping_of a.road (stepped_after a built usable k) (a.rows k) built (usable k)).state

abbrev pub stepped_in : Study → List ℕ → (ℕ → List ℕ) → ℕ → Answer
stepped_in a built usable k = stepping_of a.road (stepped_after a built usable k) (a.rows k) built (usable k)

-- it ends at its first refusal, with its step, its place and the state before it, or after all T rows
abbrev pub stepped_end : Study → List ℕ → (ℕ → List ℕ) → EndAnswer
stepped_end a built usable =
    end_of a (λ k. fault (stepped_in a built usable k).number (stepped_in a built usable k).place) (stepped_after a built usable)

-- reading a record and stepping it is running it: the states are those of the rows that running writes, and the end is running's answer
pub record StepsAsRun (bytes lanes list built : List ℕ) (usable : ℕ → List ℕ) : Type 0 where
  pub states : (k : ℕ) → k ≤ steps_made (study_of bytes lanes) (running_of bytes lanes list)
      → stepped_after (study_of bytes lanes) built usable k ≡ scheduled_at (study_of bytes lanes) (list_after bytes lanes list) k
  pub ends : stepped_end (study_of bytes lanes) built usable ≡ running_of bytes lanes list
