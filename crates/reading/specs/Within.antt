-- The theorems of reading: a record that reads is within the limits of stepping, and a refusal's place is the lowest. Assumes nothing.
use Rattle.std.specs.Prelude.{◌≡◌, refl, true, List, ℕ, ◌+◌, ◌<◌}
use Rattle.std.proofs.Common.{arith}
use Rattle.model.specs.Road.{empty_road, empty_state}
use Rattle.model.specs.Record.{record_row}
use Rattle.fields.specs.FieldsLaws.{HoldsRow, holds_row}
use Rattle.model.specs.Limits.{place_ok, input_ok}
use Rattle.limits.specs.LimitsLaws.{input_ok_lem}
use Rattle.model.specs.Reading.{cells_of, steps_of, ReadAnswer, road_of, start_of, step_ok, reading_of}
use Rattle.reading.specs.Cases.{Lowest, AcceptedRecord, ReadingEnds, read_found, early_refused, early_no_place, early_no_step}

-- a refusal that names no state gives an all-zero road and state
pub record EmptyAnswer (a : ReadAnswer) : Type 0 where
  pub steps : a.steps ≡ 0
  pub road : a.road ≡ empty_road
  pub state : a.state ≡ empty_state

found_accepted : (s : List ℕ) {a : ReadAnswer} → ReadingEnds s a → a.number ≡ 0 → AcceptedRecord s a.steps a.road a.state
found_accepted s (ReadingEnds.early k l) h = absurd (early_refused l h)
found_accepted s (ReadingEnds.at_place p l) h = absurd (omega arith)
found_accepted s (ReadingEnds.at_step t l) h = absurd (omega arith)
found_accepted s (ReadingEnds.clear w) h = w

found_place : (s : List ℕ) {a : ReadAnswer} → ReadingEnds s a → a.number ≡ 5 → Lowest (place_ok (road_of s) (start_of s)) (cells_of s + 1) a.place
found_place s (ReadingEnds.early k l) h = absurd (early_no_place l h)
found_place s (ReadingEnds.at_place p l) h = l
found_place s (ReadingEnds.at_step t l) h = absurd (omega arith)
found_place s (ReadingEnds.clear w) h = absurd (omega arith)

found_step : (s : List ℕ) {a : ReadAnswer} → ReadingEnds s a → a.number ≡ 6 → Lowest (step_ok s (road_of s)) (steps_of s) a.place
found_step s (ReadingEnds.early k l) h = absurd (early_no_step l h)
found_step s (ReadingEnds.at_place p l) h = absurd (omega arith)
found_step s (ReadingEnds.at_step t l) h = l
found_step s (ReadingEnds.clear w) h = absurd (omega arith)

found_other : (s : List ℕ) {a : ReadAnswer} → ReadingEnds s a → (a.number ≡ 5 → ⊥) → (a.number ≡ 6 → ⊥) → a.place ≡ 0
found_other s (ReadingEnds.early k l) h m = refl
found_other s (ReadingEnds.at_place p l) h m = absurd (h refl)
found_other s (ReadingEnds.at_step t l) h m = absurd (m refl)
found_other s (ReadingEnds.clear w) h m = refl

found_refused : (s : List ℕ) {a : ReadAnswer} → ReadingEnds s a → (a.number ≡ 0 → ⊥) → EmptyAnswer a
found_refused s (ReadingEnds.early k l) h = record { steps = refl; road = refl; state = refl }
found_refused s (ReadingEnds.at_place p l) h = record { steps = refl; road = refl; state = refl }
found_refused s (ReadingEnds.at_step t l) h = record { steps = refl; road = refl; state = refl }
found_refused s (ReadingEnds.clear w) h = absurd (h refl)

-- for every answer of reading
module _ (s : List ℕ) (a : ReadAnswer) (e : a ≡ reading_of s) where
  found : ReadingEnds s a
  found = rw e (read_found s)

  -- number 0: the road, the state and every row are within the limits
  pub read_within_lem : a.number ≡ 0 → AcceptedRecord s a.steps a.road a.state
  read_within_lem h = found_accepted s found h

  -- the record holds every row
  pub read_row_lem : a.number ≡ 0 → (t : ℕ) → t < a.steps → HoldsRow s a.road.n t
  read_row_lem h t l =
      let w = read_within_lem h in
      holds_row s a.road.n t a.steps w.road.cells (omega (arith, w.size)) l

  -- stepping does not refuse them with 7
  pub read_input : a.number ≡ 0 → (t : ℕ) → t < a.steps → input_ok a.road a.state (record_row s a.road.n t) ≡ true
  read_input h t l =
      let w = read_within_lem h in
      input_ok_lem a.road a.state (record_row s a.road.n t) (record { road = w.road; state = w.state; row = w.row t l })

  -- number 5: the place is out of its limits and none below it is
  pub read_place : a.number ≡ 5 → Lowest (place_ok (road_of s) (start_of s)) (cells_of s + 1) a.place
  read_place h = found_place s found h

  -- number 6: the step's row is out of its limits and none before it is
  pub read_step : a.number ≡ 6 → Lowest (step_ok s (road_of s)) (steps_of s) a.place
  read_step h = found_step s found h

  -- the place is 0 otherwise
  pub read_other : (a.number ≡ 5 → ⊥) → (a.number ≡ 6 → ⊥) → a.place ≡ 0
  read_other h k = found_other s found h k

  pub read_refused : (a.number ≡ 0 → ⊥) → EmptyAnswer a
  read_refused h = found_refused s found h
