-- Laws of joining's tests and answers, in the code's order. Assumes nothing.
use Rattle.std.specs.Prelude.{◌≡◌, Bool, true, false, ◌&&◌, List, [], ◌++◌, ℕ, ◌+◌, ◌≤◌, ◌<◌, leb, eqb, length, drop}
use Rattle.std.proofs.Common.{sym, ap, ◌∙◌, arith}
use borrow.Author.Tests.{leb-true, le-leb, lt-leb, eq-eqb, ne_eqb}
use Rattle.model.specs.Numbers.{at, all_of}
use Rattle.numbers.specs.Tests.{le_head}
use Rattle.numbers.specs.PlacedText.{Puts}
use Rattle.model.specs.Flow.{whole}
use Rattle.model.specs.declared.Road.{Road}
use Rattle.model.specs.declared.Start.{Start}
use Rattle.model.specs.Road.{most_cells, most_steps, most_bytes, start_state, start_in}
use Rattle.model.specs.Schedules.{Study}
use Rattle.model.specs.Record.{number_size, number_of, version_of, row_start, entry_start, record_row}
use Rattle.fields.specs.FieldsLaws.{row_at_lem}
use Rattle.model.specs.Reading.{size_of, ReadAnswer, reading_of, study_by}
use Rattle.reading.specs.Within.{read_within_lem}
use Rattle.reading.specs.Headers.{Steps}
use Rattle.model.specs.Encoding.{record_size, record_of}
use Rattle.encoding.specs.Encoding.{length_record, record_in_target}
use Rattle.model.specs.Writing.{WriteAnswer, unwritten, written_count}
use Rattle.model.specs.Joining.{joined_study, alike, gate_idle, joined_fits, joining_by, joining_of, joined_target, ReadsJoined}
use Rattle.joining.specs.Theorems.{joins_only, reads_as_joined}
use Rattle.joining.specs.JoinedBytes.{JoinNeeds}

-- 21 in the bytes: the gate has no arrival in step t; it has no queue, and no arrival in any step
abbrev pub no_arrival : List ℕ → ℕ → ℕ → Bool
no_arrival s n t = eqb (at (record_row s n t) 0) 0

abbrev pub idle_by : List ℕ → ℕ → ℕ → ℕ → Bool
idle_by s n T queue = eqb queue 0 && all_of (no_arrival s n) T

-- the gate's arrivals, as the code reads them
pub gate_number : (s : List ℕ) (n t : ℕ) {start x : ℕ} → start ≡ row_start (version_of s) n t → x ≡ number_of s start number_size
    → x ≡ at (record_row s n t) 0
gate_number s n t {start} {x} e k =
    let z : start ≡ entry_start (version_of s) n t 0 = omega (arith, e) in
    k ∙ ap (λ (i : ℕ). number_of s i number_size) z ∙ sym (row_at_lem s n t 0 (omega arith))

-- the gate has a queue, or the loop over the steps decides
pub idle_queue : (s : List ℕ) (n T queue : ℕ) → (queue ≡ 0 → ⊥) → false ≡ idle_by s n T queue
idle_queue s n T queue h = rw (ne_eqb queue 0 h)

pub idle_steps : (s : List ℕ) (n T queue : ℕ) {t : Bool} → queue ≡ 0 → t ≡ all_of (no_arrival s n) T → t ≡ idle_by s n T queue
idle_steps s n T queue h e = e ∙ rw (eq-eqb queue 0 h)

-- what the tests require from two records that read
pub record Joinable (road : Road) (T : ℕ) (down : List ℕ) (next : Road) (next_t : ℕ) : Type 0 where
  pub cells : road.n ≤ most_cells
  pub steps : T ≤ most_steps
  pub downstream : Steps down next.n next_t

-- the test of 22: too many cells, or else the test of the size
module _ (version n T : ℕ) where
  pub too_many : most_cells < n → false ≡ leb n most_cells && leb (size_of version n T) most_bytes
  too_many h = rw (lt-leb n most_cells h)

  pub by_size : {x : ℕ} → n ≤ most_cells → x ≡ size_of version n T → leb x most_bytes ≡ leb n most_cells && leb (size_of version n T) most_bytes
  by_size h e = rw (le-leb n most_cells h, e)

  pub within_bytes : leb n most_cells && leb (size_of version n T) most_bytes ≡ true → size_of version n T ≤ most_bytes
  within_bytes h = leb-true (size_of version n T) most_bytes (le_head n most_cells (leb (size_of version n T) most_bytes) h).1

-- the answers, in the code's order
module _ (a b : Study) (share room : ℕ) where
  abbrev joined : Study
  joined = joined_study a b share

  pub answer_share : whole < share → unwritten 5 a.road.n ≡ joining_by a b share room
  answer_share h = rw (lt-leb share whole h)

  module _ (h : share ≤ whole) where
    pub answer_differ : alike a b ≡ false → unwritten 20 0 ≡ joining_by a b share room
    answer_differ f = rw (le-leb share whole h, f)

    module _ (k : alike a b ≡ true) where
      pub answer_gate : gate_idle b ≡ false → unwritten 21 0 ≡ joining_by a b share room
      answer_gate f = rw (le-leb share whole h, k, f)

      module _ (g : gate_idle b ≡ true) where
        pub answer_size : joined_fits joined ≡ false → unwritten 22 0 ≡ joining_by a b share room
        answer_size f = rw (le-leb share whole h, k, g, f)

        module _ (f : joined_fits joined ≡ true) where
          pub answer_short : room < record_size joined → unwritten 15 0 ≡ joining_by a b share room
          answer_short l = rw (le-leb share whole h, k, g, f, lt-leb (record_size joined) room l)

          pub answer_written : record_size joined ≤ room → written_count (record_size joined) ≡ joining_by a b share room
          answer_written l = rw (le-leb share whole h, k, g, f, le-leb (record_size joined) room l)

-- joining's answer, and the target that it leaves; without a refusal the target reads as the joined road
pub record JoinOutcome (up down : List ℕ) (share : ℕ) (target : List ℕ) (a : WriteAnswer) (left : List ℕ) : Type 0 where
  pub answer : a ≡ joining_of up down share target
  pub leaves : left ≡ joined_target up down share target

pub promise : {up down : List ℕ} {share : ℕ} {target : List ℕ} {a b : WriteAnswer} {left : List ℕ} → JoinOutcome up down share target a left → b ≡ a
    → (b ≡ joining_of up down share target)
    × ((left ≡ joined_target up down share target) × (b.number ≡ 0 → ReadsJoined up down share b.count left))
promise {up} {down} {share} {target} h e =
    let answer = e ∙ h.answer in
    (answer, (h.leaves, λ z. reads_as_joined up down share target answer h.leaves z))

-- each case of the answer
module _ (up down : List ℕ) (share : ℕ) (target : List ℕ) where
  left_refused : (a : WriteAnswer) → (a.number ≡ 0 → ⊥) → a ≡ joining_of up down share target → JoinOutcome up down share target a target
  unfolding joined_target
  left_refused a n e = record { answer = e; leaves = rw (← e, ne_eqb a.number 0 n) }

  module _ {x : ReadAnswer} (e : x ≡ reading_of up) where
    pub ends_upstream : (x.number ≡ 0 → ⊥) → JoinOutcome up down share target (unwritten x.number x.place) target
    unfolding joining_of
    ends_upstream n = left_refused (unwritten x.number x.place) n (rw (← e, ne_eqb x.number 0 n))

    module _ (z : x.number ≡ 0) {y : ReadAnswer} (f : y ≡ reading_of down) where
      pub ends_downstream : (y.number ≡ 0 → ⊥) → JoinOutcome up down share target (unwritten y.number y.place) target
      unfolding joining_of
      ends_downstream n =
          left_refused (unwritten y.number y.place) n (rw (← e, ← f, eq-eqb x.number 0 z, ne_eqb y.number 0 n))

      module _ (w : y.number ≡ 0) where
        abbrev first : Study
        first = study_by up [] x.road x.state x.steps

        abbrev second : Study
        second = study_by down [] y.road y.state y.steps

        by_studies : joining_by first second share (length target) ≡ joining_of up down share target
        unfolding joining_of
        by_studies = rw (← e, ← f, eq-eqb x.number 0 z, eq-eqb y.number 0 w)

        pub ends_refused : {a : WriteAnswer} → a ≡ joining_by first second share (length target) → (a.number ≡ 0 → ⊥)
            → JoinOutcome up down share target a target
        ends_refused {a} k n = left_refused a n (k ∙ by_studies)

        pub joinable : Joinable x.road x.steps down y.road y.steps
        joinable =
            let u = read_within_lem up x e z in
            let v = read_within_lem down y f w in
            record { cells = u.road.cells; steps = u.steps; downstream = record { most = v.road.cells; held = omega (arith, v.size) } }

        module _ {a : WriteAnswer} (k : a ≡ joining_by first second share (length target)) (o : a.number ≡ 0) where
          unrefused : (joining_of up down share target).number ≡ 0
          unrefused = ap (λ (b : WriteAnswer). b.number) (sym (k ∙ by_studies)) ∙ o

          enough : record_size (joined_study first second share) ≤ length target
          enough = rw (e, f) (joins_only up down share target unrefused).room

          pub joins : JoinNeeds up x.road x.steps down y.road target
          joins =
              let u = read_within_lem up x e z in
              let v = read_within_lem down y f w in
              let p = joins_only up down share target unrefused in
              let same : x.steps ≡ y.steps = rw (e, f) p.alike.steps in
              let t = ap (λ (T : ℕ). size_of (version_of down) y.road.n T) same in
              let most : x.road.n + y.road.n ≤ most_cells = rw (e, f) p.small.cells in
              record {
                some = u.road.some;
                counts = record { some_cells = omega (arith, u.road.some); cells = most; some_steps = u.some_steps; steps = u.steps };
                upstream = record { most = u.road.cells; held = omega (arith, u.size) };
                downstream = record { most = v.road.cells; held = omega (arith, t, v.size) };
                room = enough;
              }

          target_joined : joined_target up down share target
              ≡ record_of (joined_study first second share) ++ drop (record_size (joined_study first second share)) target
          unfolding joined_target
          target_joined = rw (eq-eqb (joining_of up down share target).number 0 unrefused, ← e, ← f)

          pub ends_joined : {s q : Start} {after : List ℕ} {end : ℕ} → s ≡ start_in x.state → q ≡ start_in y.state
              → Puts target 0 (record_of (joined_study (study_by up [] x.road (start_state s) x.steps)
              (study_by down [] y.road (start_state q) x.steps) share)) after end
              → JoinOutcome up down share target a after
          ends_joined {s} {q} {after} {end} es eq p =
              let j = joined_study first second share in
              let r : Puts target 0 (record_of j) after end = rw (es, eq) at p in
              record {
                answer = k ∙ by_studies;
                leaves = (record_in_target j target after end (length_record j) enough r).1 ∙ sym target_joined;
              }
