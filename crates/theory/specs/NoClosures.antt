-- Without closures nothing changes: with the empty table running and judging use one road, and so they do with a table that opens all
-- built lanes in every row. Assumes nothing.
use Rattle.std.specs.Prelude.{◌≡◌, leb, eqb, length}
use mathlib.Core.List.{List, []}
use Prim.Native.Nat.{ℕ, zero, suc, ◌<◌}
use Rattle.model.specs.Numbers.{at, unless, front_of}
use Rattle.model.specs.Lanes.{built_in, open_in, table_bytes}
use Rattle.model.specs.declared.Road.{Road}
use Rattle.model.specs.declared.State.{State}
use Rattle.model.specs.Schedules.{Study, places, table_size, outflows_of, proposed_at}
use Rattle.model.specs.Move.{next_of}
use Rattle.model.specs.Stepping.{releases_of}
use Rattle.model.specs.Judging.{verdict_of}
use Rattle.model.specs.Reading.{reading_of, study_of}
use Rattle.model.specs.Running.{EndAnswer, no_state, end_of, steps_made}

-- the engine's state and a schedule's after k steps, on one road
unfoldable pub plain_after : Road → State → (ℕ → List ℕ) → ℕ → State
plain_after r s rows zero = s
plain_after r s rows (suc k) = next_of r (plain_after r s rows k) (rows k) (outflows_of r (plain_after r s rows k) (rows k))

unfoldable pub plain_scheduled : Road → State → (ℕ → List ℕ) → (ℕ → List ℕ) → ℕ → State
plain_scheduled r s rows ys zero = s
plain_scheduled r s rows ys (suc k) = next_of r (plain_scheduled r s rows ys k) (rows k) (ys k)

-- the ends of running and judging, and the rows that running writes
abbrev pub plain_run_end : Study → EndAnswer
plain_run_end a = end_of a (λ k. releases_of a.road (plain_after a.road a.start a.rows k) (a.rows k)) (plain_after a.road a.start a.rows)

abbrev pub plain_judge_end : Study → List ℕ → EndAnswer
plain_judge_end a zs =
    end_of a
    (λ k. verdict_of a.road (plain_scheduled a.road a.start a.rows (proposed_at a zs) k) (a.rows k) (proposed_at a zs k))
    (plain_scheduled a.road a.start a.rows (proposed_at a zs))

abbrev pub plain_outflows : Study → ℕ → List ℕ
plain_outflows a k = outflows_of a.road (plain_after a.road a.start a.rows k) (a.rows k)

-- running and judging a record without closures: the refusals of reading, 11 or 12, then step by step
unfoldable pub plain_running : List ℕ → List ℕ → EndAnswer
plain_running bytes list =
    unless (eqb (reading_of bytes).number 0) (no_state (reading_of bytes).number (reading_of bytes).place)
    (unless (leb (table_size (study_of bytes [])) (length list)) (no_state 11 0)
    (plain_run_end (study_of bytes [])))

unfoldable pub plain_judging : List ℕ → List ℕ → EndAnswer
plain_judging bytes zs =
    unless (eqb (reading_of bytes).number 0) (no_state (reading_of bytes).number (reading_of bytes).place)
    (unless (eqb (length zs) (table_size (study_of bytes []))) (no_state 12 0)
    (plain_judge_end (study_of bytes []) zs))

unfoldable pub plain_list : List ℕ → List ℕ → List ℕ
plain_list bytes list =
    let a = study_of bytes [] in
    front_of (plain_outflows a) (places a) list (steps_made a (plain_running bytes list))

-- a table that opens all built lanes in every row
pub record AllOpen (table : List ℕ) (n T : ℕ) : Type 0 where
  pub right : length table ≡ table_bytes n T
  pub some : (i : ℕ) → i < n → 0 < at (built_in table n) i
  pub all : (k : ℕ) → k < T → open_in table n k ≡ built_in table n
