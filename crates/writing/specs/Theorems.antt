-- docs/MODEL.md, 'Writing': what writing promises. A written record reads back as the same values up to cell n, and 0 past it. A record that was
-- read and is written again has the same bytes. Bytes beyond the record are unchanged, and a refusal leaves the target unchanged. Assumes nothing.
use Rattle.std.specs.Prelude.{◌≡◌, refl, true, List, [], ℕ, ◌+◌, ◌*◌, ◌≤◌, ◌<◌, length, take, drop}
use Rattle.std.proofs.Common.{sym, ap, ◌∙◌, arith, take_at, drop_at}
use Rattle.model.specs.Numbers.{at, row_at}
use Rattle.numbers.specs.FirstLaws.{first_none}
use Rattle.numbers.specs.TablesLaws.{row_length}
use Rattle.model.specs.declared.Road.{Road}
use Rattle.model.specs.declared.Start.{Start}
use Rattle.model.specs.Road.{start_state, start_in}
use Rattle.model.specs.Record.{second_version, row_numbers, record_row}
use Rattle.model.specs.Limits.{place_ok}
use Rattle.limits.specs.LimitsLaws.{places_road, places_state, place_ok_lem, row_facts, row_ok_lem}
use Rattle.model.specs.Reading.{size_of, reading_of, study_of}
use Rattle.model.specs.Encoding.{record_of, given_study}
use Rattle.encoding.specs.Encoding.{length_record}
use Rattle.model.specs.Writing.{WriteAnswer, written_count, given_ok, writing_of, target_after, cut_road, cut_state, ReadsBack}
use Rattle.writing.specs.Checks.{answer_written, by_given}
use Rattle.writing.specs.AcceptedStudy.{AcceptedStudy, given_accepted, refused_count, target_refused, target_written}
use Rattle.writing.specs.CutLaws.{kept_second, kept_none}
use Rattle.writing.specs.ReadBack.{Recordable, reads_back, rows_read}
use Rattle.writing.specs.ReadStudy.{read_size, read_recordable}
use Rattle.writing.specs.WrittenAgain.{same_bytes}

-- the record's bytes in the target
abbrev pub saved_of : Road → ℕ → Start → List ℕ → List ℕ → List ℕ
saved_of road T start rows target = take (writing_of road T start rows target).count (target_after road T start rows target)

-- what writing accepts is within the limits
recordable : (road : Road) (T : ℕ) (start : Start) (rows : List ℕ) (room : ℕ)
    → AcceptedStudy (given_study road T start rows) (length rows) room → Recordable (given_study road T start rows)
recordable road T start rows room ok =
    let f = ok.frame in
    let r = places_road road (start_state start) ok.places f.counts.some_cells f.counts.cells in
    record {
      version = f.version;
      counts = f.counts;
      seconds = f.seconds;
      size = f.size;
      road = r;
      start = places_state road (start_state start) ok.places (omega arith) (omega arith);
      row = λ t l.
          row_facts road (row_at rows (row_numbers road.n) t) (row_length rows (row_numbers road.n) t T l f.all) r.ramp (ok.rows t l);
    }

module _ (road : Road) (T : ℕ) (start : Start) (rows target : List ℕ) where
  -- if writing isn't refused
  pub record SavedRecord : Type 0 where
    pub count : (writing_of road T start rows target).count ≡ size_of road.version road.n T
    -- the first `count` bytes read back as what was given (cut-at, cut-past)
    pub back : ReadsBack road T start rows (writing_of road T start rows target).count (target_after road T start rows target)
    -- bytes beyond the record are unchanged
    pub beyond : drop (size_of road.version road.n T) (target_after road T start rows target) ≡ drop (size_of road.version road.n T) target

  pub saved_record : (writing_of road T start rows target).number ≡ 0 → SavedRecord
  saved_record h =
      let ok = given_accepted road T start rows target h in
      let a = given_study road T start rows in
      let within = recordable road T start rows (length target) ok in
      let size : (writing_of road T start rows target).count ≡ size_of road.version road.n T =
      sym (ap (λ (x : WriteAnswer). x.count) (by_given road T start rows target)) ∙ ap (λ (x : WriteAnswer). x.count) ok.answer in
      let bytes : saved_of road T start rows target ≡ record_of (given_study road T start rows) =
      rw (target_written road T start rows target h)
      (take_at (record_of a) (drop (size_of road.version road.n T) target) (writing_of road T start rows target).count (length_record a ∙ sym size)) in
      record {
        count = size;
        back = record {
          reads = ap reading_of bytes ∙ reads_back a within;
          row = λ t l. ap (λ (s : List ℕ). record_row s road.n t) bytes ∙ rows_read a within t l;
        };
        beyond = rw (target_written road T start rows target h)
            (drop_at (record_of a) (drop (size_of road.version road.n T) target) (size_of road.version road.n T) (length_record a));
      }

  -- the same for an answer and a target that equal these
  pub reads_as_given : {a : WriteAnswer} {after : List ℕ} → a ≡ writing_of road T start rows target → after ≡ target_after road T start rows target
      → a.number ≡ 0 → ReadsBack road T start rows a.count after
  reads_as_given ea et z =
      let k = saved_record (ap (λ (x : WriteAnswer). x.number) (sym ea) ∙ z) in
      rw (ea, et) k.back

  -- what writing promises: the answer, the target afterwards, and that it reads back
  abbrev pub Promise : WriteAnswer → List ℕ → Type 0
  Promise a after =
      (a ≡ writing_of road T start rows target) × ((after ≡ target_after road T start rows target)
      × (a.number ≡ 0 → ReadsBack road T start rows a.count after))

  pub promise : {a : WriteAnswer} {after : List ℕ} → a ≡ writing_of road T start rows target → after ≡ target_after road T start rows target → Promise a after
  promise ea et = (ea, (et, reads_as_given ea et))

  -- every refusal leaves the target unchanged, and the count is 0
  pub unsaved : ((writing_of road T start rows target).number ≡ 0 → ⊥)
      → (target_after road T start rows target ≡ target) × ((writing_of road T start rows target).count ≡ 0)
  unfolding writing_of
  unsaved h = (target_refused road T start rows target h, refused_count (given_study road T start rows) (length rows) (length target) h)

  -- so running and judging a written record under any table of lanes is running and judging what was given: road, start, T and rows are the same
  pub saved_road : SavedRecord → (lanes : List ℕ) → (study_of (saved_of road T start rows target) lanes).road ≡ cut_road road
  saved_road k lanes = rw k.back.reads

  pub saved_start : SavedRecord → (lanes : List ℕ) → (study_of (saved_of road T start rows target) lanes).start ≡ cut_state road.n (start_state start)
  saved_start k lanes = rw k.back.reads

  pub saved_steps : SavedRecord → (lanes : List ℕ) → (study_of (saved_of road T start rows target) lanes).steps ≡ T
  saved_steps k lanes = rw k.back.reads

  pub saved_rows : SavedRecord → (lanes : List ℕ) (t : ℕ) → t < T → (study_of (saved_of road T start rows target) lanes).rows t ≡ row_at rows (row_numbers road.n) t
  saved_rows k lanes t l = rw k.back.reads (k.back.row t l)

  -- the version is kept, and in version 2 the seconds; in version 1 they are 0
  pub saved_version : SavedRecord → (reading_of (saved_of road T start rows target)).road.version ≡ road.version
  saved_version k = rw k.back.reads

  pub saved_seconds : SavedRecord → road.version ≡ second_version → (reading_of (saved_of road T start rows target)).road.seconds ≡ road.seconds
  saved_seconds k e = rw k.back.reads (kept_second road.version road.seconds e)

  pub saved_untimed : SavedRecord → (road.version ≡ second_version → ⊥) → (reading_of (saved_of road T start rows target)).road.seconds ≡ 0
  saved_untimed k h = rw k.back.reads (kept_none road.version road.seconds h)

-- a record that reads without refusal, written again from what reading gave and its rows
module _ (s : List ℕ) (small : (i : ℕ) → at s i < 256) (reads : (reading_of s).number ≡ 0) (rows target : List ℕ)
    (all : length rows ≡ (reading_of s).steps * row_numbers (reading_of s).road.n)
    (same : (t : ℕ) → t < (reading_of s).steps → row_at rows (row_numbers (reading_of s).road.n) t ≡ record_row s (reading_of s).road.n t)
    (room : length s ≤ length target) where
  abbrev road : Road
  road = (reading_of s).road

  abbrev T : ℕ
  T = (reading_of s).steps

  abbrev start : Start
  start = start_in (reading_of s).state

  -- writing isn't refused, and counts the record's bytes
  pub again_answer : writing_of (reading_of s).road (reading_of s).steps (start_in (reading_of s).state) rows target ≡ written_count (length s)
  again_answer =
      let w = read_recordable s reads [] in
      let places : (p : ℕ) → p < road.n + 1 → place_ok road (start_state start) p ≡ true = place_ok_lem road (start_state start) w.road w.start in
      let fits : (t : ℕ) → t < T → given_ok (given_study road T start rows) t ≡ true =
      λ t l. (rw (same t l) (row_ok_lem road (record_row s road.n t) w.road (w.row t l))) in
      let size = read_size s reads in
      sym (by_given road T start rows target)
      ∙ sym (answer_written (given_study road T start rows) (length rows) (length target)
      (record {
        version = w.version;
        counts = w.counts;
        seconds = w.seconds;
        size = w.size;
        all = all;
      })
      (road.n + 1) (sym (first_none (place_ok road (start_state start)) (road.n + 1) places)) refl
      T (sym (first_none (given_ok (given_study road T start rows)) T fits)) refl (omega (arith, size)))
      ∙ ap written_count size

  -- the target then begins with exactly these bytes
  pub again_bytes : take (length s) (target_after (reading_of s).road (reading_of s).steps (start_in (reading_of s).state) rows target) ≡ s
  again_bytes =
      let h : (writing_of road T start rows target).number ≡ 0 = ap (λ (x : WriteAnswer). x.number) again_answer in
      let e : record_of (given_study road T start rows) ≡ s = same_bytes s small reads (row_at rows (row_numbers road.n)) same in
      rw (target_written road T start rows target h, e) (take_at s (drop (size_of road.version road.n T) target) (length s) refl)
