-- Reading's answers, as facts: one case for each way through its tests. Assumes nothing.
use Rattle.std.specs.Prelude.{Bool, true, false, [], ◌∷◌, List, ℕ, ◌+◌, ◌-◌, ◌≤◌, ◌<◌, ◌≡◌, eqb, length}
use Rattle.std.proofs.Math.Path.{refl}
use Rattle.std.proofs.Common.{sym, arith, eqb-true}
use Rattle.std.proofs.lemmas.Bool.{eqb-false}
use Rattle.model.specs.Numbers.{one_of, first_of, all_of}
use Rattle.model.specs.declared.Road.{Road}
use Rattle.model.specs.declared.State.{State}
use Rattle.model.specs.Road.{most_cells, most_steps, most_bytes}
use Rattle.model.specs.Record.{version_of, seconds_of, count_size, number_of, record_row}
use Rattle.fields.specs.FieldsLaws.{length_row}
use Rattle.numbers.specs.Tests.{unless_elim, le_head}
use Rattle.numbers.specs.FirstLaws.{First, first, first_none, all_at}
use Rattle.model.specs.Limits.{place_ok}
use Rattle.limits.specs.LimitsLaws.{RoadOk, StateOk, RowOk, places_road, places_state, row_facts}
use Rattle.model.specs.Reading.{cells_of, steps_of, size_of, both_versions, length_ok, cells_and_steps_ok}
use Rattle.model.specs.Reading.{seconds_ok, caller_ok, ReadAnswer, road_of, start_of, step_ok, refused_of}
use Rattle.model.specs.Reading.{accepted_of, reading_by, reading_within, reading_of}
use Rattle.fields.specs.HeaderLaws.{length_facts, counts_facts}
use Rattle.reading.specs.Headers.{Header}
use Rattle.reading.specs.ReadingLaws.{Body, answer_accepted}

-- Classes of refusals, by their numbers. First those that reading finds before it tests a place or a step: their place is 0
unfoldable pub in_header : ℕ → Bool
in_header number = one_of (1 ∷ 2 ∷ 3 ∷ 19 ∷ 4 ∷ 26 ∷ []) number

-- the lowest number below n at which a test fails
pub record Lowest (test : ℕ → Bool) (n i : ℕ) : Type 0 where
  pub within : i < n
  pub first : First test n i

lowest : (test : ℕ → Bool) (n : ℕ) → all_of test n ≡ false → Lowest test n (first_of test n)
lowest test n h =
    let f = first test n in
    record { within = omega (arith, f.within, eqb-false (first_of test n) n h); first = f }

-- what holds for the road, T and the state of a record that reads
pub record AcceptedRecord (s : List ℕ) (T : ℕ) (r : Road) (q : State) : Type 0 where
  pub header : Header s r.n T
  pub size : length s ≡ size_of (version_of s) r.n T
  pub bytes : length s ≤ most_bytes
  pub count : number_of s 0 count_size ≡ length s - count_size
  pub version : one_of both_versions r.version ≡ true
  pub seconds : seconds_ok r.version r.seconds ≡ true
  pub some_steps : 1 ≤ T
  pub steps : T ≤ most_steps
  pub road : RoadOk r
  pub state : StateOk r q
  pub row : (t : ℕ) → t < T → RowOk r (record_row s r.n t)

-- the cases of reading's answer
pub data ReadingEnds (s : List ℕ) : ReadAnswer → Type 0 where
  early : (number : ℕ) → in_header number ≡ true → ReadingEnds s (refused_of number 0)
  at_place : (place : ℕ) → Lowest (place_ok (road_of s) (start_of s)) (cells_of s + 1) place → ReadingEnds s (refused_of 5 place)
  at_step : (step : ℕ) → Lowest (step_ok s (road_of s)) (steps_of s) step → ReadingEnds s (refused_of 6 step)
  clear : AcceptedRecord s (steps_of s) (road_of s) (start_of s) → ReadingEnds s (accepted_of (steps_of s) (road_of s) (start_of s))

-- the tests of 1, 2, 3, 19, 4, 26, 5 and 6
module _ (s : List ℕ) where
  abbrev pub length_fits : Bool
  length_fits = length_ok both_versions s

  abbrev pub version_known : Bool
  version_known = one_of both_versions (version_of s)

  abbrev pub counts_fit : Bool
  counts_fit = cells_and_steps_ok (cells_of s) (steps_of s)

  abbrev pub seconds_fit : Bool
  seconds_fit = seconds_ok (version_of s) (seconds_of s)

  abbrev pub size_fits : Bool
  size_fits = eqb (length s) (size_of (version_of s) (cells_of s) (steps_of s))

  abbrev pub caller_takes : ℕ → ℕ → Bool
  caller_takes cells most = caller_ok cells most (cells_of s) (length s)

  abbrev pub places_fit : Bool
  places_fit = all_of (place_ok (road_of s) (start_of s)) (cells_of s + 1)

  abbrev pub rows_fit : Bool
  rows_fit = all_of (step_ok s (road_of s)) (steps_of s)

  pub header_of_lem : length_fits ≡ true → version_known ≡ true → counts_fit ≡ true → seconds_fit ≡ true → size_fits ≡ true
      → Header s (cells_of s) (steps_of s)
  header_of_lem a b c d e = record {
    lengths = a;
    version = b;
    cells = refl;
    steps = refl;
    counts = c;
    seconds = d;
    size = eqb-true (length s) (size_of (version_of s) (cells_of s) (steps_of s)) e;
  }

  accepted : Header s (cells_of s) (steps_of s) → places_fit ≡ true → rows_fit ≡ true → AcceptedRecord s (steps_of s) (road_of s) (start_of s)
  accepted h f g =
      let n = counts_facts (cells_of s) (steps_of s) h.counts in
      let counted = (le_head (length s) most_bytes _ (le_head _ (length s) _ h.lengths).1).1 in
      let all = all_at (place_ok (road_of s) (start_of s)) (cells_of s + 1) f in
      let road = places_road (road_of s) (start_of s) all n.some_cells n.cells in
      record {
        header = h;
        size = h.size;
        bytes = (length_facts s h.lengths).1;
        count = eqb-true (number_of s 0 count_size) (length s - count_size) counted;
        version = h.version;
        seconds = h.seconds;
        some_steps = n.some_steps;
        steps = n.steps;
        road = road;
        state = places_state (road_of s) (start_of s) all (omega arith) (omega arith);
        row = λ t l. row_facts (road_of s) (record_row s (cells_of s) t) (length_row s (cells_of s) t) road.ramp (all_at (step_ok s (road_of s)) (steps_of s) g t l);
      }

  -- for all limits of the caller
  pub found_within : (cells most : ℕ) → ReadingEnds s (reading_within cells most s)
  unfolding reading_by in_header one_of
  found_within cells most =
      unless_elim (ReadingEnds s) length_fits (λ _. early 1 refl) (λ a.
      unless_elim (ReadingEnds s) version_known (λ _. early 2 refl) (λ b.
      unless_elim (ReadingEnds s) counts_fit (λ _. early 3 refl) (λ c.
      unless_elim (ReadingEnds s) seconds_fit (λ _. early 19 refl) (λ d.
      unless_elim (ReadingEnds s) size_fits (λ _. early 4 refl) (λ e.
      unless_elim (ReadingEnds s) (caller_takes cells most) (λ _. early 26 refl) (λ _.
      unless_elim (ReadingEnds s) places_fit (λ f. at_place _ (lowest (place_ok (road_of s) (start_of s)) (cells_of s + 1) f)) (λ f.
      unless_elim (ReadingEnds s) rows_fit (λ g. at_step _ (lowest (step_ok s (road_of s)) (steps_of s) g)) (λ g.
      clear (accepted (header_of_lem a b c d e) f g)))))))))

  pub read_found : ReadingEnds s (reading_of s)
  read_found = found_within most_cells most_bytes

-- a record is accepted if its header passes and all its places and rows are within their limits
pub reads : {s : List ℕ} {n T : ℕ} → Header s n T → ((p : ℕ) → p < n + 1 → place_ok (road_of s) (start_of s) p ≡ true)
    → ((t : ℕ) → t < T → step_ok s (road_of s) t ≡ true) → reading_of s ≡ accepted_of T (road_of s) (start_of s)
reads {s} {n} {T} h places rows =
    let none = first_none (place_ok (road_of s) (start_of s)) (cells_of s + 1) (λ p l. places p (omega (arith, h.cells))) in
    let body : Body s n T (road_of s) (start_of s) (first_of (place_ok (road_of s) (start_of s)) (cells_of s + 1)) =
    record { header = h; road = refl; start = refl; place = refl } in
    sym (answer_accepted body (omega (arith, none, h.cells)) refl (first_none (step_ok s (road_of s)) T rows))

-- none of the header's refusals is 0, 5 or 6
module _ {number : ℕ} (h : in_header number ≡ true) where
  other : (m : ℕ) → in_header m ≡ false → number ≡ m → ⊥
  other m k e =
      let z : in_header m ≡ true = rw e at h in
      let f : ◌≡◌ {A = ℕ} 0 1 = cc in
      omega arith

  pub early_refused : number ≡ 0 → ⊥
  unfolding in_header one_of
  early_refused = other 0 refl

  pub early_no_place : number ≡ 5 → ⊥
  unfolding in_header one_of
  early_no_place = other 5 refl

  pub early_no_step : number ≡ 6 → ⊥
  unfolding in_header one_of
  early_no_step = other 6 refl
