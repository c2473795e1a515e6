-- Without closures nothing changes: with the empty table a record is filled as on one road, and with a table that opens all built lanes as with
-- the empty table. Assumes nothing.
use Rattle.std.specs.Prelude.{◌≡◌, List, [], leb, eqb, length}
use Rattle.std.proofs.Math.Path.{refl}
use Rattle.std.proofs.Common.{sym, ◌∙◌, le_refl, arith}
use Prim.Native.Nat.{ℕ, zero, suc, ◌≤◌, ◌<◌}
use Rattle.model.specs.Numbers.{unless}
use Rattle.model.specs.Schedules.{Study, road_at, table_size}
use Rattle.model.specs.declared.Law.{Law}
use Rattle.model.specs.Stepping.{table_fault}
use Rattle.theory.specs.StepLaws.{number_of_lem}
use Rattle.theory.specs.RunsLaws.{SharedSteps}
use Rattle.model.specs.Reading.{reading_of, study_of}
use Rattle.model.specs.Filling.{MeterState, meter_start, granted_at, metered_of}
use Rattle.model.specs.Put.{put_table}
use Rattle.put.specs.ReleasesLaws.{put_same}
use Rattle.model.specs.Running.{EndAnswer, end_with, no_state}
use Rattle.theory.proofs.TableLaws.{table_shared}
use Rattle.theory.specs.NoClosures.{AllOpen}
use Rattle.theory.proofs.NoClosures.{empty_one, open_passes, open_one}
use Rattle.model.specs.Filling.{metered_after, metered_from, granted_in, filled_study, law_place, filled_bytes, filling_of, record_after, filled_list}
use Rattle.filling.specs.FillingLaws.{filled_road}

-- what the wishes of step k are computed from, and the release of the cell at i in it, on one road
unfoldable pub plain_metered : List Law → Study → ℕ → MeterState
plain_metered laws a zero = meter_start a.start
plain_metered laws a (suc k) = metered_of laws a.road (plain_metered laws a k) (a.rows k)

abbrev pub plain_granted : List Law → Study → ℕ → ℕ → ℕ
plain_granted laws a k i = granted_at laws a.road (plain_metered laws a k) (a.rows k) i

-- filling a record without closures: the refusals of reading, 16, 11, then all T steps
unfoldable pub plain_filling : List Law → List ℕ → List ℕ → EndAnswer
plain_filling laws bytes list =
    unless (eqb (reading_of bytes).number 0) (no_state (reading_of bytes).number (reading_of bytes).place)
    (unless (eqb (law_place laws (study_of bytes [])) 0) (no_state 16 (law_place laws (study_of bytes [])))
    (unless (leb (table_size (study_of bytes [])) (length list)) (no_state 11 0)
    (end_with 0 0 0 (study_of bytes []).road (plain_metered laws (study_of bytes []) (study_of bytes []).steps).state)))

-- a study whose road is the same in each of its steps, as it is with the empty table and with all built lanes open
module _ (laws : List Law) (a : Study) (one : (k : ℕ) → k < a.steps → road_at a k ≡ a.road) where
  pub metered_plain : (k : ℕ) → k ≤ a.steps → metered_after laws a k ≡ plain_metered laws a k
  unfolding metered_from plain_metered
  metered_plain zero l = refl
  metered_plain (suc k) l = rw (metered_plain k (omega arith), one k l) refl

  pub granted_plain : (k i : ℕ) → k < a.steps → granted_in laws a k i ≡ plain_granted laws a k i
  granted_plain k i l = rw (metered_plain k (omega arith), one k l) refl

-- the same releases put in each step give the same record
table_same : (s : List ℕ) (n : ℕ) (f g : ℕ → ℕ → ℕ) (k : ℕ) → ((t i : ℕ) → t < k → f t i ≡ g t i) → put_table s n f k ≡ put_table s n g k
unfolding put_table
table_same s n f g zero h = refl
table_same s n f g (suc k) h =
    rw (table_same s n f g k (λ t i l. h t i (omega arith))) (put_same (put_table s n g k) n k (f k) (g k) n (λ i l. h k i (le_refl (suc k))))

-- with the empty table there is one road
module _ (laws : List Law) (bytes : List ℕ) where
  pub empty_fills : (list : List ℕ) → filling_of laws bytes [] list ≡ plain_filling laws bytes list
  unfolding filling_of plain_filling table_fault
  empty_fills list = rw (metered_plain laws (study_of bytes []) (empty_one bytes) (study_of bytes []).steps (le_refl _)) refl

  pub empty_filled : filled_bytes laws bytes [] ≡ put_table bytes (study_of bytes []).road.n (plain_granted laws (study_of bytes [])) (study_of bytes []).steps
  unfolding filled_bytes
  empty_filled =
      table_same bytes (study_of bytes []).road.n (granted_in laws (study_of bytes [])) (plain_granted laws (study_of bytes [])) (study_of bytes []).steps
      (λ t i l. granted_plain laws (study_of bytes []) (empty_one bytes) t i l)

-- a table that opens all built lanes
module _ (laws : List Law) (bytes table : List ℕ) (reads : (reading_of bytes).number ≡ 0) (h : AllOpen table (reading_of bytes).road.n (reading_of bytes).steps) where
  abbrev a : Study
  a = study_of bytes table

  abbrev b : Study
  b = study_of bytes []

  -- the road of each step is that of the empty table
  same_road : (k : ℕ) → k < (reading_of bytes).steps → road_at (study_of bytes table) k ≡ road_at (study_of bytes []) k
  same_road k l = open_one bytes table reads h k l ∙ sym (empty_one bytes k l)

  -- so is what the wishes are computed from
  same_metered : (k : ℕ) → k ≤ (reading_of bytes).steps → metered_after laws (study_of bytes table) k ≡ metered_after laws (study_of bytes []) k
  unfolding metered_from
  same_metered zero l = refl
  same_metered (suc k) l = rw (same_metered k (omega arith), same_road k l) refl

  same_filled : SharedSteps (filled_study laws (study_of bytes table)) (filled_study laws (study_of bytes [])) (reading_of bytes).steps
  same_filled = record {
    start = refl;
    roads = λ k l. filled_road laws a k ∙ same_road k l ∙ sym (filled_road laws b k);
    rows = λ k l. rw (same_metered k (omega arith), same_road k l) refl;
  }

  pub open_fills : (list : List ℕ) → filling_of laws bytes table list ≡ filling_of laws bytes [] list
  unfolding filling_of table_fault
  open_fills list = rw (number_of_lem (open_passes bytes table reads h), same_metered (reading_of bytes).steps (le_refl _)) refl

  -- the record and the list afterwards
  pub open_filled : filled_bytes laws bytes table ≡ filled_bytes laws bytes []
  unfolding filled_bytes
  open_filled =
      table_same bytes (reading_of bytes).road.n (granted_in laws a) (granted_in laws b) (reading_of bytes).steps
      (λ t i l. rw (same_metered t (omega arith), same_road t l) refl)

  pub open_record : (list : List ℕ) → record_after laws bytes table list ≡ record_after laws bytes [] list
  unfolding record_after
  open_record list = rw (open_fills list, open_filled) refl

  pub open_list : (list : List ℕ) → filled_list laws bytes table list ≡ filled_list laws bytes [] list
  unfolding filled_list
  open_list list = rw (open_fills list, table_shared refl list (reading_of bytes).steps same_filled) refl
