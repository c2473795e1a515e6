-- What follows for the arguments if writing is not refused. Assumes nothing.
use Rattle.std.specs.Prelude.{◌≡◌, refl, Bool, true, List, ◌++◌, ℕ, ◌+◌, ◌≤◌, ◌<◌, leb, eqb, length, drop}
use Rattle.std.proofs.Common.{sym, ◌∙◌, arith, leb-true, eqb-true, eq-eqb, ne_eqb}
use Rattle.std.proofs.lemmas.Bool.{eqb-false}
use Rattle.model.specs.Numbers.{all_of}
use Rattle.numbers.specs.FirstLaws.{all_at}
use Rattle.numbers.specs.Tests.{unless_elim}
use Rattle.numbers.specs.PlacedText.{Puts}
use Rattle.model.specs.declared.Road.{Road}
use Rattle.model.specs.declared.Start.{Start}
use Rattle.model.specs.Schedules.{Study}
use Rattle.model.specs.Limits.{place_ok}
use Rattle.model.specs.Reading.{size_of}
use Rattle.model.specs.Encoding.{record_size, record_of, given_study}
use Rattle.encoding.specs.Encoding.{Fits, length_record, record_in_target}
use Rattle.model.specs.Writing.{WriteAnswer, written_count, given_ok, frame_of, writing_by, writing_of, target_after}
use Rattle.writing.specs.Checks.{FrameOk, frame_ok_lem}

-- no refusal applies
pub record AcceptedStudy (a : Study) (numbers room : ℕ) : Type 0 where
  pub frame : FrameOk a numbers
  pub places : (p : ℕ) → p < a.road.n + 1 → place_ok a.road a.start p ≡ true
  pub rows : (t : ℕ) → t < a.steps → given_ok a t ≡ true
  pub enough : record_size a ≤ room
  pub answer : writing_by a numbers room ≡ written_count (record_size a)

module _ (a : Study) (numbers room : ℕ) where
  abbrev framed_ok : Bool
  framed_ok = eqb (frame_of a numbers) 0

  abbrev places_ok : Bool
  places_ok = all_of (place_ok a.road a.start) (a.road.n + 1)

  abbrev all_rows_ok : Bool
  all_rows_ok = all_of (given_ok a) a.steps

  abbrev room_ok : Bool
  room_ok = leb (record_size a) room

  abbrev Accepts : WriteAnswer → Type 0
  Accepts x = x.number ≡ 0 → AcceptedStudy a numbers room

  pub accepted : (writing_by a numbers room).number ≡ 0 → AcceptedStudy a numbers room
  accepted =
      unless_elim Accepts framed_ok (λ e z. absurd (eqb-false (frame_of a numbers) 0 e z)) (λ frame.
      unless_elim Accepts places_ok (λ _ z. absurd (omega arith)) (λ places.
      unless_elim Accepts all_rows_ok (λ _ z. absurd (omega arith)) (λ rows.
      unless_elim Accepts room_ok (λ _ z. absurd (omega arith)) (λ enough _.
      record {
        frame = frame_ok_lem a numbers (eqb-true (frame_of a numbers) 0 frame);
        places = all_at (place_ok a.road a.start) (a.road.n + 1) places;
        rows = all_at (given_ok a) a.steps rows;
        enough = leb-true (record_size a) room enough;
        answer = rw (frame, places, rows, enough);
      }))))

  -- a refusal's count is 0
  abbrev Uncounted : WriteAnswer → Type 0
  Uncounted x = (x.number ≡ 0 → ⊥) → x.count ≡ 0

  pub refused_count : ((writing_by a numbers room).number ≡ 0 → ⊥) → (writing_by a numbers room).count ≡ 0
  refused_count =
      unless_elim Uncounted framed_ok (λ _ _. refl) (λ _.
      unless_elim Uncounted places_ok (λ _ _. refl) (λ _.
      unless_elim Uncounted all_rows_ok (λ _ _. refl) (λ _.
      unless_elim Uncounted room_ok (λ _ _. refl) (λ _ h.
      absurd (h refl)))))

module _ (road : Road) (T : ℕ) (start : Start) (rows target : List ℕ) where
  abbrev a : Study
  a = given_study road T start rows

  pub given_accepted : (writing_of road T start rows target).number ≡ 0 → AcceptedStudy (given_study road T start rows) (length rows) (length target)
  unfolding writing_of
  given_accepted h = accepted a (length rows) (length target) h

  -- a refusal leaves the target unchanged
  pub target_refused : ((writing_of road T start rows target).number ≡ 0 → ⊥) → target_after road T start rows target ≡ target
  unfolding target_after
  target_refused h = rw (ne_eqb (writing_of road T start rows target).number 0 h)

  pub target_written : (writing_of road T start rows target).number ≡ 0
      → target_after road T start rows target ≡ record_of (given_study road T start rows) ++ drop (size_of road.version road.n T) target
  unfolding target_after
  target_written h = rw (eq-eqb (writing_of road T start rows target).number 0 h)

  -- what `put_record` requires, and the target that it leaves
  pub fits : (writing_of road T start rows target).number ≡ 0 → Fits (given_study road T start rows) rows target
  fits h = let k = given_accepted h in record { counts = k.frame.counts; all = k.frame.all; room = k.enough }

  pub target_put : (writing_of road T start rows target).number ≡ 0 → (after : List ℕ) (end : ℕ) → Puts target 0 (record_of (given_study road T start rows)) after end
      → after ≡ target_after road T start rows target
  target_put h after end p =
      (record_in_target a target after end (length_record a) (given_accepted h).enough p).1 ∙ sym (target_written h)
