-- docs/MODEL.md, 'Joining': what joining two neighbouring roads promises, sentence by sentence. Assumes nothing.
use Rattle.std.specs.Prelude.{◌≡◌, refl, cond, List, [], ◌++◌, ℕ, ◌+◌, ◌≤◌, ◌<◌, leb, eqb, length, take, drop}
use Rattle.std.proofs.Common.{sym, ap, subst, ◌∙◌, arith, take_at, drop_at}
use borrow.Author.Tests.{leb-true, leb-false, eqb-true, eqb-false}
use Rattle.numbers.specs.Tests.{unless_elim, not_both}
use Rattle.model.specs.Flow.{whole}
use Rattle.model.specs.Schedules.{Study}
use Rattle.model.specs.Record.{record_row}
use Rattle.fields.specs.FieldsLaws.{length_row}
use Rattle.model.specs.Reading.{ReadAnswer, accepted_of, reading_of, study_of}
use Rattle.model.specs.Encoding.{record_size, record_of}
use Rattle.encoding.specs.Encoding.{length_record}
use Rattle.model.specs.Writing.{WriteAnswer, unwritten, written_count}
use Rattle.writing.specs.ReadBack.{Recordable, reads_back, rows_read}
use Rattle.writing.specs.ReadStudy.{read_recordable, read_kept}
use Rattle.model.specs.Joining.{joined_road, joined_start, joined_row, alike, gate_idle, joined_fits, joined_of, joining_of, joined_target, ReadsJoined}
use Rattle.joining.specs.JoinedColumns.{ColumnJoined, JoinedShares, JoinedNumbers, column_joined, shares_joined, row_joined}
use Rattle.joining.specs.JoinedLimits.{road_cut, start_cut, study_joined}
use Rattle.joining.specs.JoinedTests.{Alike, Idle, Small, alike_facts, facts_alike, idle_facts, facts_idle, small_facts, facts_small}

-- both records read without refusal
pub record Both (up down : List ℕ) : Type 0 where
  pub upper : (reading_of up).number ≡ 0
  pub lower : (reading_of down).number ≡ 0

-- what holds if nothing is refused
pub record JoinRequest (up down : List ℕ) (share : ℕ) (target : List ℕ) : Type 0 where
  pub both : Both up down
  pub stated : share ≤ whole
  pub alike : Alike (study_of up []) (study_of down [])
  pub idle : Idle (study_of down [])
  pub small : Small (joined_of up down share)
  pub room : record_size (joined_of up down share) ≤ length target

-- 'Each input must first read without refusal, upstream first. A joint's share above 1,000 is 5 at the upstream road's last cell. Then come 20, 21 and 22,
-- all before 15': the cases of joining's answer, each refusal with everything before it, and the target that each leaves
pub data Ends (up down : List ℕ) (share : ℕ) (target : List ℕ) : WriteAnswer → List ℕ → Type 0 where
  upper_unread : ((reading_of up).number ≡ 0 → ⊥) → Ends up down share target (unwritten (reading_of up).number (reading_of up).place) target
  lower_unread : (reading_of up).number ≡ 0 → ((reading_of down).number ≡ 0 → ⊥)
      → Ends up down share target (unwritten (reading_of down).number (reading_of down).place) target
  above : Both up down → whole < share → Ends up down share target (unwritten 5 (reading_of up).road.n) target
  unlike : Both up down → share ≤ whole → (Alike (study_of up []) (study_of down []) → ⊥) → Ends up down share target (unwritten 20 0) target
  busy : Both up down → share ≤ whole → Alike (study_of up []) (study_of down []) → (Idle (study_of down []) → ⊥)
      → Ends up down share target (unwritten 21 0) target
  large : Both up down → share ≤ whole → Alike (study_of up []) (study_of down []) → Idle (study_of down []) → (Small (joined_of up down share) → ⊥)
      → Ends up down share target (unwritten 22 0) target
  short : Both up down → share ≤ whole → Alike (study_of up []) (study_of down []) → Idle (study_of down []) → Small (joined_of up down share)
      → length target < record_size (joined_of up down share) → Ends up down share target (unwritten 15 0) target
  joined : JoinRequest up down share target
      → Ends up down share target (written_count (record_size (joined_of up down share)))
      (record_of (joined_of up down share) ++ drop (record_size (joined_of up down share)) target)

module _ (up down : List ℕ) (share : ℕ) (target : List ℕ) where
  abbrev a : Study
  a = study_of up []

  abbrev b : Study
  b = study_of down []

  abbrev j : Study
  j = joined_of up down share

  -- an answer, with the target that it leaves
  abbrev End : WriteAnswer → Type 0
  End x = Ends up down share target x (cond (eqb x.number 0) (record_of j ++ drop (record_size j) target) target)

  pub ends : Ends up down share target (joining_of up down share target) (joined_target up down share target)
  unfolding joining_of joined_target
  ends =
      unless_elim End (eqb (reading_of up).number 0) (λ q. rw q (upper_unread (eqb-false (reading_of up).number 0 q))) (λ q.
      let upper = eqb-true (reading_of up).number 0 q in
      unless_elim End (eqb (reading_of down).number 0) (λ r. rw r (lower_unread upper (eqb-false (reading_of down).number 0 r))) (λ r.
      let both : Both up down = record { upper = upper; lower = eqb-true (reading_of down).number 0 r } in
      unless_elim End (leb share whole) (λ s. above both (leb-false share whole s)) (λ s.
      let stated = leb-true share whole s in
      unless_elim End (alike a b) (λ t. unlike both stated (λ h. not_both (facts_alike a b h) t)) (λ t.
      let same = alike_facts a b t in
      unless_elim End (gate_idle b) (λ u. busy both stated same (λ h. not_both (facts_idle b h) u)) (λ u.
      let idle = idle_facts b u in
      unless_elim End (joined_fits j) (λ v. large both stated same idle (λ h. not_both (facts_small j h) v)) (λ v.
      let small = small_facts j v in
      unless_elim End (leb (record_size j) (length target)) (λ w. short both stated same idle small (leb-false (record_size j) (length target) w)) (λ w.
      joined (record {
        both = both;
        stated = stated;
        alike = same;
        idle = idle;
        small = small;
        room = leb-true (record_size j) (length target) w;
      }))))))))

-- there is no refusal exactly if all of these conditions hold
joined_request : {up down : List ℕ} {share : ℕ} {target : List ℕ} {a : WriteAnswer} {after : List ℕ} → Ends up down share target a after → a.number ≡ 0
    → JoinRequest up down share target
    × ((a ≡ written_count (record_size (joined_of up down share)))
    × (after ≡ record_of (joined_of up down share) ++ drop (record_size (joined_of up down share)) target))
joined_request (Ends.upper_unread h) e = absurd (h e)
joined_request (Ends.lower_unread q h) e = absurd (h e)
joined_request (Ends.above q h) e = absurd (omega arith)
joined_request (Ends.unlike q s h) e = absurd (omega arith)
joined_request (Ends.busy q s l h) e = absurd (omega arith)
joined_request (Ends.large q s l i h) e = absurd (omega arith)
joined_request (Ends.short q s l i m h) e = absurd (omega arith)
joined_request (Ends.joined q) e = (q, (refl, refl))

request_joined : {up down : List ℕ} {share : ℕ} {target : List ℕ} {a : WriteAnswer} {after : List ℕ} → Ends up down share target a after
    → JoinRequest up down share target → a ≡ written_count (record_size (joined_of up down share))
request_joined (Ends.upper_unread h) k = absurd (h k.both.upper)
request_joined (Ends.lower_unread q h) k = absurd (h k.both.lower)
request_joined (Ends.above q h) k = absurd (omega (arith, k.stated))
request_joined (Ends.unlike q s h) k = absurd (h k.alike)
request_joined (Ends.busy q s l h) k = absurd (h k.idle)
request_joined (Ends.large q s l i h) k = absurd (h k.small)
request_joined (Ends.short q s l i m h) k = absurd (omega (arith, k.room))
request_joined (Ends.joined q) k = refl

pub joins_if : (up down : List ℕ) (share : ℕ) (target : List ℕ) → JoinRequest up down share target
    → joining_of up down share target ≡ written_count (record_size (joined_of up down share))
joins_if up down share target = request_joined (ends up down share target)

-- 'No refusal touches the target', and the count is 0
refused_left : {up down : List ℕ} {share : ℕ} {target : List ℕ} {a : WriteAnswer} {after : List ℕ} → Ends up down share target a after → (a.number ≡ 0 → ⊥)
    → (after ≡ target) × (a.count ≡ 0)
refused_left (Ends.upper_unread h) n = (refl, refl)
refused_left (Ends.lower_unread q h) n = (refl, refl)
refused_left (Ends.above q h) n = (refl, refl)
refused_left (Ends.unlike q s h) n = (refl, refl)
refused_left (Ends.busy q s l h) n = (refl, refl)
refused_left (Ends.large q s l i h) n = (refl, refl)
refused_left (Ends.short q s l i m h) n = (refl, refl)
refused_left (Ends.joined q) n = absurd (n refl)

pub unjoined : (up down : List ℕ) (share : ℕ) (target : List ℕ) → ((joining_of up down share target).number ≡ 0 → ⊥)
    → (joined_target up down share target ≡ target) × ((joining_of up down share target).count ≡ 0)
unjoined up down share target = refused_left (ends up down share target)

-- the joined record's bytes in the target
abbrev pub joined_bytes : List ℕ → List ℕ → ℕ → List ℕ → List ℕ
joined_bytes up down share target = take (joining_of up down share target).count (joined_target up down share target)

-- 'Upstream cells, then downstream cells, with a stated onward share for the joint. The second gate is dropped, and all else stands as it was':
-- the reading z of the joined record, compared with the readings x of upstream and y of downstream
pub record JoinedReading (share : ℕ) (x y z : ReadAnswer) : Type 0 where
  pub cells : z.road.n ≡ x.road.n + y.road.n
  pub steps : (z.steps ≡ x.steps) × (z.steps ≡ y.steps)
  pub version : (z.road.version ≡ x.road.version) × (z.road.version ≡ y.road.version)
  pub seconds : (z.road.seconds ≡ x.road.seconds) × (z.road.seconds ≡ y.road.seconds)
  -- the gate is upstream's
  pub gate_capacity : z.road.gate_capacity ≡ x.road.gate_capacity
  pub gate_queue : z.state.gate_queue ≡ x.state.gate_queue
  -- the cells
  pub speed : ColumnJoined x.road.n y.road.n x.road.speed y.road.speed z.road.speed
  pub wave : ColumnJoined x.road.n y.road.n x.road.wave y.road.wave z.road.wave
  pub shares : JoinedShares share x.road.n y.road.n x.road.share y.road.share z.road.share
  pub ramp : ColumnJoined x.road.n y.road.n x.road.ramp y.road.ramp z.road.ramp
  pub jam : ColumnJoined x.road.n y.road.n x.road.jam y.road.jam z.road.jam
  pub capacity : ColumnJoined x.road.n y.road.n x.road.capacity y.road.capacity z.road.capacity
  -- the start
  pub held : ColumnJoined x.road.n y.road.n x.state.held y.state.held z.state.held
  pub queue : ColumnJoined x.road.n y.road.n x.state.queue y.state.queue z.state.queue

-- 'rows joined step by step': each row of the bytes, compared with those of both records
abbrev pub RowJoined : List ℕ → List ℕ → List ℕ → ℕ → Type 0
RowJoined up down bytes t =
    JoinedNumbers (reading_of up).road.n (reading_of down).road.n
    (record_row up (reading_of up).road.n t) (record_row down (reading_of down).road.n t) (record_row bytes (reading_of bytes).road.n t)

-- if joining isn't refused
module _ (up down : List ℕ) (share : ℕ) (target : List ℕ) (h : (joining_of up down share target).number ≡ 0) where
  abbrev x : ReadAnswer
  x = reading_of up

  abbrev y : ReadAnswer
  y = reading_of down

  abbrev n : ℕ
  n = x.road.n

  abbrev m : ℕ
  m = y.road.n

  abbrev result : Study
  result = joined_of up down share

  pub joins_only : JoinRequest up down share target
  joins_only = (joined_request (ends up down share target) h).0

  -- 'What is returned and the bytes beyond are as in writing': the record's bytes are counted, and the bytes beyond them are unchanged
  pub joined_count : (joining_of up down share target).count ≡ record_size (joined_of up down share)
  joined_count = ap (λ (q : WriteAnswer). q.count) (joined_request (ends up down share target) h).1.0

  after : joined_target up down share target ≡ record_of (joined_of up down share) ++ drop (record_size (joined_of up down share)) target
  after = (joined_request (ends up down share target) h).1.1

  pub joined_beyond : drop (record_size (joined_of up down share)) (joined_target up down share target) ≡ drop (record_size (joined_of up down share)) target
  joined_beyond =
      ap (drop (record_size result)) after
      ∙ drop_at (record_of result) (drop (record_size result) target) (record_size result) (length_record result)

  -- the bytes counted are the joined study's record
  pub joined_bytes_lem : joined_bytes up down share target ≡ record_of (joined_of up down share)
  joined_bytes_lem =
      ap (take (joining_of up down share target).count) after
      ∙ take_at (record_of result) (drop (record_size result) target) (joining_of up down share target).count (length_record result ∙ sym joined_count)

  within : Recordable (joined_of up down share)
  within =
      let k = joins_only in
      study_joined (study_of up []) (study_of down []) share (read_recordable up k.both.upper []) (read_recordable down k.both.lower [])
      k.stated k.alike.steps k.small.cells k.small.bytes

  -- 'The result reads without refusal': as the joined road, start and T
  pub joined_reads : reading_of (joined_bytes up down share target)
      ≡ accepted_of (reading_of up).steps (joined_road (reading_of up).road (reading_of down).road share)
      (joined_start (reading_of up).road.n (reading_of down).road.n (reading_of up).state (reading_of down).state)
  joined_reads =
      let k = joins_only in
      let u = (read_recordable up k.both.upper []).road in
      let d = (read_recordable down k.both.lower []).road in
      let road = road_cut x.road y.road share u d k.stated k.small.cells (read_kept up k.both.upper) in
      let start = start_cut x.road y.road share u d k.stated k.small.cells x.state y.state in
      ap reading_of joined_bytes_lem ∙ reads_back result within ∙ rw (road, start)

  -- its rows are upstream's, each followed by downstream's without its gate arrivals
  pub joined_rows_lem : (t : ℕ) → t < (reading_of up).steps
      → record_row (joined_bytes up down share target) ((reading_of up).road.n + (reading_of down).road.n) t
      ≡ joined_row (record_row up (reading_of up).road.n t) (record_row down (reading_of down).road.n t)
  joined_rows_lem t l = ap (λ (s : List ℕ). record_row s (n + m) t) joined_bytes_lem ∙ rows_read result within t l

  -- 'all else stands as it was'
  pub joined_reading : JoinedReading share (reading_of up) (reading_of down) (reading_of (joined_bytes up down share target))
  joined_reading =
      let k = joins_only in
      let most = k.small.cells in
      subst (λ (z : ReadAnswer). JoinedReading share (reading_of up) (reading_of down) z) (sym joined_reads) (record {
        cells = refl;
        steps = (refl, k.alike.steps);
        version = (refl, k.alike.version);
        seconds = (refl, k.alike.seconds);
        gate_capacity = refl;
        gate_queue = refl;
        speed = column_joined n m most x.road.speed y.road.speed;
        wave = column_joined n m most x.road.wave y.road.wave;
        shares = shares_joined n m most x.road.share y.road.share share;
        ramp = column_joined n m most x.road.ramp y.road.ramp;
        jam = column_joined n m most x.road.jam y.road.jam;
        capacity = column_joined n m most x.road.capacity y.road.capacity;
        held = column_joined n m most x.state.held y.state.held;
        queue = column_joined n m most x.state.queue y.state.queue;
      })

  pub joined_row_numbers : (t : ℕ) → t < (reading_of up).steps → RowJoined up down (joined_bytes up down share target) t
  joined_row_numbers t l =
      let rows : record_row (joined_bytes up down share target) (reading_of (joined_bytes up down share target)).road.n t
      ≡ joined_row (record_row up n t) (record_row down m t) =
      ap (λ (c : ℕ). record_row (joined_bytes up down share target) c t) joined_reading.cells ∙ joined_rows_lem t l in
      subst (λ (row : List ℕ). JoinedNumbers n m (record_row up n t) (record_row down m t) row) (sym rows)
      (row_joined n m (record_row up n t) (record_row down m t) (length_row up n t) (length_row down m t))

-- the same for an answer and a target that equal these
pub reads_as_joined : (up down : List ℕ) (share : ℕ) (target : List ℕ) {a : WriteAnswer} {after : List ℕ} → a ≡ joining_of up down share target
    → after ≡ joined_target up down share target → a.number ≡ 0 → ReadsJoined up down share a.count after
reads_as_joined up down share target ea et z =
    let h : (joining_of up down share target).number ≡ 0 = ap (λ (q : WriteAnswer). q.number) (sym ea) ∙ z in
    rw (ea, et) (record { reads = joined_reads up down share target h; row = joined_rows_lem up down share target h })
