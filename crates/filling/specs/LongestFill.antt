-- docs/MODEL.md, 'Filling': the longest queues over the steps that filling makes, and at its end. Assumes nothing.
use Rattle.std.specs.Prelude.{◌≡◌, List, ℕ, ◌≤◌, length}
use Rattle.std.proofs.Math.Path.{refl, ap}
use Rattle.std.proofs.Common.{◌∙◌}
use borrow.Author.Tests.{ne_eqb}
use Rattle.model.specs.Schedules.{Study, table_size}
use Rattle.model.specs.declared.Law.{Law}
use Rattle.model.specs.Reading.{reading_of, study_of}
use Rattle.model.specs.Running.{EndAnswer, no_state, steps_made, lanes_fault}
use Rattle.model.specs.Longest.{Queues, longest_of, filled_after, longest_fill}
use Rattle.counts.specs.Longest.{no_queues}
use Rattle.counts.specs.LongestLaws.{longest_none}
use Rattle.model.specs.Filling.{MeterState, meter_start}
use Rattle.model.specs.Filling.{metered_from, law_place, filling_of}
use Rattle.filling.specs.Cases.{fills_all}

-- the longest queues over all T steps, from any start and from the record's
abbrev pub longest_from : List Law → Study → MeterState → Queues
longest_from laws a m = longest_of a.road.n (λ k. (metered_from laws a m k).state) a.steps

abbrev pub longest_from_start : List Law → Study → Queues
longest_from_start laws a = longest_from laws a (meter_start a.start)

module _ (laws : List Law) (bytes lanes list : List ℕ) where
  -- after a refusal no step is done
  pub longest_refused : (number place : ℕ) {e : EndAnswer} → (number ≡ 0 → ⊥) → e ≡ no_state number place → e ≡ filling_of laws bytes lanes list
      → longest_fill laws bytes lanes list ≡ no_queues
  unfolding longest_fill
  longest_refused number place d ee ef =
      let a = study_of bytes lanes in
      let none : steps_made a (filling_of laws bytes lanes list) ≡ 0 = rw (← ef, ee, ne_eqb number 0 d) refl in
      ap (longest_of a.road.n (filled_after laws a)) none ∙ longest_none a.road.n (filled_after laws a)

  -- without a refusal all steps are done
  pub longest_all : (reading_of bytes).number ≡ 0 → law_place laws (study_of bytes lanes) ≡ 0 → (lanes_fault (study_of bytes lanes)).number ≡ 0
      → table_size (study_of bytes lanes) ≤ length list → longest_fill laws bytes lanes list ≡ longest_from_start laws (study_of bytes lanes)
  unfolding longest_fill
  longest_all reads finite opens l =
      let a = study_of bytes lanes in
      ap (λ (e : EndAnswer). longest_of a.road.n (filled_after laws a) (steps_made a e)) (fills_all laws bytes lanes list reads finite opens l).answers
