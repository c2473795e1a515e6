-- The ends of running and judging, case by case. Assumes nothing.
use Rattle.std.specs.Prelude.{◌≡◌, Bool, true, List, ℕ, ◌≤◌, ◌<◌, eqb, length}
use Rattle.std.proofs.Common.{ap, ◌∙◌}
use borrow.Author.Tests.{eq-eqb, ne_eqb, le-leb, lt-leb}
use Rattle.model.specs.Numbers.{unless}
use Rattle.model.specs.Schedules.{table_size, engine_after}
use Rattle.model.specs.Reading.{ReadAnswer, refused_of, reading_of, study_of}
use Rattle.model.specs.Demand.{Openable}
use Rattle.model.specs.Running.{run_fault, no_state, lanes_fault, opening_of, run_end, running_of, table_of, list_after}
use Rattle.model.specs.Judging.{judge_end, judging_of}
use Rattle.theory.specs.SchedulesLaws.{run_table}
use Rattle.theory.proofs.SchedulesLaws.{end_made}
use Rattle.theory.specs.Opening.{opening_refused, opening_closed, openable_opening}
use Rattle.theory.proofs.TableLaws.{table_none}

-- both give the same refusal for a record that isn't opened, and nothing is written
module _ (bytes lanes : List ℕ) (h : (opening_of bytes lanes).number ≡ 0 → ⊥) where
  pub runs_unopened : (list : List ℕ) → running_of bytes lanes list ≡ no_state (opening_of bytes lanes).number (opening_of bytes lanes).place
  unfolding running_of
  runs_unopened list = rw (ne_eqb (opening_of bytes lanes).number 0 h)

  pub judges_unopened : (zs : List ℕ) → judging_of bytes lanes zs ≡ no_state (opening_of bytes lanes).number (opening_of bytes lanes).place
  unfolding judging_of
  judges_unopened zs = rw (ne_eqb (opening_of bytes lanes).number 0 h)

  pub writes_unopened : (list : List ℕ) → list_after bytes lanes list ≡ list
  unfolding list_after
  writes_unopened list = rw (runs_unopened list, ne_eqb (opening_of bytes lanes).number 0 h) (table_none (study_of bytes lanes) list)

-- the same for a record that reading refuses
module _ (bytes lanes : List ℕ) (h : (reading_of bytes).number ≡ 0 → ⊥) where
  refused : opening_of bytes lanes ≡ reading_of bytes
  refused = opening_refused bytes lanes h

  pub runs_refused : (list : List ℕ) → running_of bytes lanes list ≡ no_state (reading_of bytes).number (reading_of bytes).place
  runs_refused list = runs_unopened bytes lanes (rw refused h) list ∙ ap (λ (x : ReadAnswer). no_state x.number x.place) refused

  pub writes_refused : (list : List ℕ) → list_after bytes lanes list ≡ list
  writes_refused list = writes_unopened bytes lanes (rw refused h) list

-- and for one whose table of lanes has a fault
module _ (bytes lanes : List ℕ) (h : (reading_of bytes).number ≡ 0) (n : (lanes_fault (study_of bytes lanes)).number ≡ 0 → ⊥) where
  closed : opening_of bytes lanes ≡ refused_of (lanes_fault (study_of bytes lanes)).number (lanes_fault (study_of bytes lanes)).place
  closed = opening_closed bytes lanes h n

  pub runs_closed : (list : List ℕ)
      → running_of bytes lanes list ≡ no_state (lanes_fault (study_of bytes lanes)).number (lanes_fault (study_of bytes lanes)).place
  runs_closed list = runs_unopened bytes lanes (rw closed n) list ∙ ap (λ (x : ReadAnswer). no_state x.number x.place) closed

  pub writes_closed : (list : List ℕ) → list_after bytes lanes list ≡ list
  writes_closed list = writes_unopened bytes lanes (rw closed n) list

module _ (bytes lanes : List ℕ) (t : Openable bytes lanes) where
  opens : eqb (opening_of bytes lanes).number 0 ≡ true
  opens = eq-eqb (opening_of bytes lanes).number 0 (rw (openable_opening bytes lanes t) t.reads)

  -- 11 and 12
  pub runs_short : (list : List ℕ) → length list < table_size (study_of bytes lanes) → running_of bytes lanes list ≡ no_state 11 0
  unfolding running_of
  runs_short list l =
      rw opens
      (ap (λ (b : Bool). unless b (no_state 11 0) (run_end (study_of bytes lanes))) (lt-leb (table_size (study_of bytes lanes)) (length list) l))

  pub writes_short : (list : List ℕ) → length list < table_size (study_of bytes lanes) → list_after bytes lanes list ≡ list
  unfolding list_after
  writes_short list l = rw (runs_short list l) (table_none (study_of bytes lanes) list)

  pub judges_length : (zs : List ℕ) → (length zs ≡ table_size (study_of bytes lanes) → ⊥) → judging_of bytes lanes zs ≡ no_state 12 0
  unfolding judging_of
  judges_length zs l = rw (opens, ne_eqb (length zs) (table_size (study_of bytes lanes)) l)

  -- step by step
  pub runs_long : (list : List ℕ) → table_size (study_of bytes lanes) ≤ length list → running_of bytes lanes list ≡ run_end (study_of bytes lanes)
  unfolding running_of
  runs_long list l = rw (opens, le-leb (table_size (study_of bytes lanes)) (length list) l)

  pub writes_long : (list : List ℕ) → table_size (study_of bytes lanes) ≤ length list
      → list_after bytes lanes list ≡ run_table (study_of bytes lanes) list
  unfolding list_after
  writes_long list l =
      rw (runs_long list l) (ap (table_of (study_of bytes lanes) list) (end_made (study_of bytes lanes) (run_fault (study_of bytes lanes)) (engine_after (study_of bytes lanes))))

  pub judges_ends : (zs : List ℕ) → length zs ≡ table_size (study_of bytes lanes) → judging_of bytes lanes zs ≡ judge_end (study_of bytes lanes) zs
  unfolding judging_of
  judges_ends zs l = rw (opens, eq-eqb (length zs) (table_size (study_of bytes lanes)) l)
