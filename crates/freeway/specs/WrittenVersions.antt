-- Theorem about writing and running: a road, T, a start and rows are run and judged alike in whichever version they are written. Assumes nothing.
use Rattle.std.specs.Prelude.{◌≡◌, refl, List, ℕ, ◌<◌}
use Rattle.std.proofs.Common.{sym, ap, ◌∙◌}
use Rattle.model.specs.declared.Road.{Road}
use Rattle.model.specs.declared.Start.{Start}
use Rattle.model.specs.Reading.{ReadAnswer, study_of}
use Rattle.theory.specs.VersionUnread.{with_version, OtherVersion}
use Rattle.model.specs.Writing.{writing_of}
use Rattle.writing.specs.Theorems.{SavedRecord, saved_of, saved_record, saved_rows}
use Rattle.model.specs.Running.{running_of, list_after}
use Rattle.model.specs.Judging.{judging_of}
use Rattle.model.specs.Demand.{Openable}
use Rattle.theory.specs.VersionsAlike.{EndsAlike}
use Rattle.theory.proofs.VersionsAlike.{runs_alike, judges_alike, same_list}

-- the same road in another version and with other seconds; both are written without a refusal into any targets
module _ (road : Road) (version seconds T : ℕ) (start : Start) (rows target other lanes : List ℕ)
    (first : (writing_of road T start rows target).number ≡ 0) (second : (writing_of (with_version version seconds road) T start rows other).number ≡ 0) where
  abbrev s : List ℕ
  s = saved_of road T start rows target

  abbrev t : List ℕ
  t = saved_of (with_version version seconds road) T start rows other

  kept_s : SavedRecord road T start rows target
  kept_s = saved_record road T start rows target first

  kept_t : SavedRecord (with_version version seconds road) T start rows other
  kept_t = saved_record (with_version version seconds road) T start rows other second

  -- the records differ only in version and seconds
  pub written_other_version : OtherVersion (study_of (saved_of road T start rows target) lanes) (study_of (saved_of (with_version version seconds road) T start rows other) lanes)
  written_other_version = record {
    road = rw (kept_s.back.reads, kept_t.back.reads) refl;
    start = rw (kept_s.back.reads, kept_t.back.reads) refl;
    steps = rw (kept_s.back.reads, kept_t.back.reads) refl;
    rows = λ k l.
        let m : k < T = rw kept_s.back.reads at l in
        saved_rows (with_version version seconds road) T start rows other kept_t lanes k m ∙ sym (saved_rows road T start rows target kept_s lanes k m);
    lanes = refl;
  }

  -- so a table of lanes that fits one fits the other
  openable_t : Openable (saved_of road T start rows target) lanes → Openable (saved_of (with_version version seconds road) T start rows other) lanes
  openable_t h = record {
    reads = ap (λ (a : ReadAnswer). a.number) kept_t.back.reads;
    opens = rw kept_t.back.reads (rw kept_s.back.reads at h.opens);
  }

  -- they are run and judged alike
  module _ (h : Openable (saved_of road T start rows target) lanes) where
    pub versions_run : (list : List ℕ)
        → EndsAlike (running_of (saved_of road T start rows target) lanes list) (running_of (saved_of (with_version version seconds road) T start rows other) lanes list)
    versions_run list = runs_alike s t lanes h (openable_t h) written_other_version list

    pub versions_write : (list : List ℕ)
        → list_after (saved_of (with_version version seconds road) T start rows other) lanes list ≡ list_after (saved_of road T start rows target) lanes list
    versions_write list = same_list s t lanes h (openable_t h) written_other_version list

    pub versions_judged : (list zs : List ℕ)
        → EndsAlike (judging_of (saved_of road T start rows target) lanes zs) (judging_of (saved_of (with_version version seconds road) T start rows other) lanes zs)
    versions_judged list zs = judges_alike s t lanes h (openable_t h) written_other_version list zs
