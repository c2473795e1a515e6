-- Theorem: a record cut into two after a cell and joined again gives the same bytes. Assumes nothing.
use Rattle.std.specs.Prelude.{◌≡◌, refl, List, [], ℕ, zero, suc, ◌+◌, ◌-◌, ◌*◌, ◌/◌, ◌%◌, ◌≤◌, ◌<◌, length, take}
use Rattle.std.proofs.Common.{sym, ap, ◌∙◌, ⊎_elim, arith, ext_get_or}
use Rattle.model.specs.Numbers.{at}
use Rattle.numbers.specs.Tests.{order}
use Rattle.numbers.specs.RowsLaws.{length_fill}
use Rattle.model.specs.declared.Road.{Road}
use Rattle.model.specs.declared.State.{State}
use Rattle.model.specs.declared.Start.{Start}
use Rattle.model.specs.Road.{most_cells, zeros, start_state, start_in}
use Rattle.numbers.specs.Zeros.{length_zeros}
use Rattle.model.specs.Schedules.{study}
use Rattle.model.specs.Record.{row_numbers, record_row}
use Rattle.fields.specs.FieldsLaws.{length_row}
use Rattle.model.specs.Reading.{size_of, ReadAnswer, reading_of, study_of}
use Rattle.reading.specs.Numbers.{Numbers, read_numbers}
use Rattle.reading.specs.Cases.{AcceptedRecord}
use Rattle.reading.specs.Within.{read_within_lem}
use Rattle.model.specs.Encoding.{record_size, record_of}
use Rattle.model.specs.Writing.{WriteAnswer, written_count}
use Rattle.writing.specs.ReadStudy.{read_size}
use Rattle.writing.specs.WrittenAgain.{same_bytes}
use Rattle.model.specs.Joining.{joined_entry, joined_column, joined_share, joined_road, joined_start, joined_row, joined_of, joining_of, joined_target}
use Rattle.joining.specs.JoinedColumns.{halves, ColumnJoined, JoinedShares, JoinedNumbers, column_joined, shares_joined, row_joined}
use Rattle.joining.specs.JoinedTests.{Idle}
use Rattle.joining.specs.Theorems.{Both, JoinRequest, JoinedReading, RowJoined, joins_if, joined_bytes_lem}

-- the joined columns, shares and rows are those of the record
module _ (n m : ℕ) {l r : List ℕ} (long : length l ≡ length r) where
  all_entries : ((i : ℕ) → i < n + m → at l i ≡ at r i) → ((i : ℕ) → n + m ≤ i → at l i ≡ at r i) → l ≡ r
  all_entries h k = ext_get_or 0 l r long (λ i _. ⊎_elim (λ (q : n + m ≤ i). k i q) (λ (q : i < n + m). h i q) (order (n + m) i))

  pub column_same : {up down : List ℕ} → ColumnJoined n m up down l → ColumnJoined n m up down r → l ≡ r
  column_same a b =
      all_entries
      (halves n m (λ i. at l i ≡ at r i) (λ i q. a.upper i q ∙ sym (b.upper i q)) (λ i q. a.lower i q ∙ sym (b.lower i q)))
      (λ i q. a.past i q ∙ sym (b.past i q))

  pub shares_same : {share : ℕ} {up down : List ℕ} → JoinedShares share n m up down l → JoinedShares share n m up down r → l ≡ r
  shares_same a b =
      all_entries
      (halves n m (λ i. at l i ≡ at r i)
      (λ i q. ⊎_elim
      (λ (k : n ≤ i + 1). let e : i + 1 ≡ n = omega arith in a.joint i e ∙ sym (b.joint i e))
      (λ (k : i + 1 < n). a.upper i k ∙ sym (b.upper i k))
      (order n (i + 1)))
      (λ i q. a.lower i q ∙ sym (b.lower i q)))
      (λ i q. a.past i q ∙ sym (b.past i q))

module _ (n m : ℕ) {up down l r : List ℕ} (a : JoinedNumbers n m up down l) (b : JoinedNumbers n m up down r) where
  arrivals : (i : ℕ) → i < n + m → at l (2 * i + 1) ≡ at r (2 * i + 1)
  arrivals = halves n m (λ i. at l (2 * i + 1) ≡ at r (2 * i + 1)) (λ i q. a.upper_arrivals i q ∙ sym (b.upper_arrivals i q))
      (λ i q. a.lower_arrivals i q ∙ sym (b.lower_arrivals i q))

  releases : (i : ℕ) → i < n + m → at l (2 * i + 2) ≡ at r (2 * i + 2)
  releases = halves n m (λ i. at l (2 * i + 2) ≡ at r (2 * i + 2)) (λ i q. a.upper_release i q ∙ sym (b.upper_release i q))
      (λ i q. a.lower_release i q ∙ sym (b.lower_release i q))

  number : (k : ℕ) → k < row_numbers (n + m) → at l k ≡ at r k
  number zero q = a.gate ∙ sym b.gate
  number (suc k) q = go (k / 2) (k % 2) (omega arith) (omega arith)
    where
      go : (i j : ℕ) → k ≡ 2 * i + j → j < 2 → at l (suc k) ≡ at r (suc k)
      go i zero e s = let f : suc k ≡ 2 * i + 1 = omega arith in rw f (arrivals i (omega arith))
      go i (suc j) e s = let f : suc k ≡ 2 * i + 2 = omega arith in rw f (releases i (omega arith))

  pub row_same : l ≡ r
  row_same = ext_get_or 0 l r (a.numbers ∙ sym b.numbers) (λ k q. number k (omega (arith, a.numbers)))

-- a road with equal fields
same_road : (r : Road) {n version seconds gate : ℕ} {speed wave share ramp jam capacity : List ℕ}
    → n ≡ r.n → version ≡ r.version → seconds ≡ r.seconds → gate ≡ r.gate_capacity
    → speed ≡ r.speed → wave ≡ r.wave → share ≡ r.share → ramp ≡ r.ramp → jam ≡ r.jam → capacity ≡ r.capacity
    → ◌≡◌ {A = Road} (record {
      n = n;
      version = version;
      seconds = seconds;
      gate_capacity = gate;
      speed = speed;
      wave = wave;
      share = share;
      ramp = ramp;
      jam = jam;
      capacity = capacity;
    }) r
same_road r n v s g speed wave share ramp jam capacity = rw (n, v, s, g, speed, wave, share, ramp, jam, capacity)

-- upstream and downstream are the parts of a record: its cells up to one and those after it (the joint's share apart), their numbers in its
-- rows, and T, version and seconds. The upper part has the record's gate; the lower part's gate has no queue and no arrivals
pub record Parts (s up down : List ℕ) (share : ℕ) : Type 0 where
  pub reads : (reading_of s).number ≡ 0
  pub both : Both up down
  pub stands : JoinedReading share (reading_of up) (reading_of down) (reading_of s)
  pub row : (t : ℕ) → t < (reading_of s).steps → RowJoined up down s t
  pub idle : Idle (study_of down [])

module _ (s up down : List ℕ) (share : ℕ) (small : (i : ℕ) → at s i < 256) (p : Parts s up down share) where
  abbrev x : ReadAnswer
  x = reading_of up

  abbrev y : ReadAnswer
  y = reading_of down

  abbrev z : ReadAnswer
  z = reading_of s

  abbrev n : ℕ
  n = x.road.n

  abbrev m : ℕ
  m = y.road.n

  numbers : Numbers s (reading_of s).steps (reading_of s).road (reading_of s).state
  numbers = read_numbers s (reading_of s) refl p.reads

  accepted : AcceptedRecord s (reading_of s).steps (reading_of s).road (reading_of s).state
  accepted = read_within_lem s (reading_of s) refl p.reads

  most : (reading_of up).road.n + (reading_of down).road.n ≤ most_cells
  most = omega (arith, p.stands.cells, accepted.road.cells)

  -- a column of the joined record is the record's
  column : (u d l : List ℕ) → length l ≡ most_cells → ColumnJoined (reading_of up).road.n (reading_of down).road.n u d l
      → joined_column (reading_of up).road.n (reading_of down).road.n u d ≡ l
  column u d l long h =
      column_same n m (length_fill (joined_entry n u d) (n + m) zeros ∙ length_zeros ∙ sym long) (column_joined n m most u d) h

  road : joined_road (reading_of up).road (reading_of down).road share ≡ (reading_of s).road
  road =
      let k = p.stands in
      let f = joined_share share n x.road.share y.road.share in
      same_road z.road
      (sym k.cells) (sym k.version.0) (sym k.seconds.0) (sym k.gate_capacity)
      (column x.road.speed y.road.speed z.road.speed numbers.speed.entries k.speed)
      (column x.road.wave y.road.wave z.road.wave numbers.wave.entries k.wave)
      (shares_same n m (length_fill f (n + m) zeros ∙ length_zeros ∙ sym numbers.share.entries)
      (shares_joined n m most x.road.share y.road.share share) k.shares)
      (column x.road.ramp y.road.ramp z.road.ramp numbers.ramp.entries k.ramp)
      (column x.road.jam y.road.jam z.road.jam numbers.jam.entries k.jam)
      (column x.road.capacity y.road.capacity z.road.capacity numbers.capacity.entries k.capacity)

  abbrev started : ℕ → List ℕ → List ℕ → Start
  started gate held queue = record { gate_queue = gate; held = held; queue = queue }

  start : joined_start (reading_of up).road.n (reading_of down).road.n (reading_of up).state (reading_of down).state ≡ start_state (start_in (reading_of s).state)
  start =
      let k = p.stands in
      let held = column x.state.held y.state.held z.state.held numbers.held.entries k.held in
      let queue = column x.state.queue y.state.queue z.state.queue numbers.queue.entries k.queue in
      ap (λ (g : ℕ). start_state (started g (joined_column n m x.state.held y.state.held) (joined_column n m x.state.queue y.state.queue))) (sym k.gate_queue)
      ∙ ap (λ (l : List ℕ). start_state (started z.state.gate_queue l (joined_column n m x.state.queue y.state.queue))) held
      ∙ ap (λ (l : List ℕ). start_state (started z.state.gate_queue z.state.held l)) queue

  row : (t : ℕ) → t < (reading_of s).steps → joined_row (record_row up (reading_of up).road.n t) (record_row down (reading_of down).road.n t)
      ≡ record_row s (reading_of s).road.n t
  row t l =
      row_same n m (row_joined n m (record_row up n t) (record_row down m t) (length_row up n t) (length_row down m t)) (p.row t l)

  abbrev rows : ℕ → List ℕ
  rows = λ t. joined_row (record_row up n t) (record_row down m t)

  -- the joined record is the whole record
  pub parts_bytes : record_of (joined_of up down share) ≡ s
  parts_bytes =
      ap (λ (r : Road). record_of (study r (joined_start n m x.state y.state) x.steps rows [])) road
      ∙ ap (λ (T : ℕ). record_of (study z.road (joined_start n m x.state y.state) T rows [])) (sym p.stands.steps.0)
      ∙ ap (λ (q : State). record_of (study z.road q z.steps rows [])) start
      ∙ same_bytes s small p.reads rows row

  size : record_size (joined_of up down share) ≡ length s
  size =
      let k = p.stands in
      ap (λ (v : ℕ). size_of v (n + m) x.steps) (sym k.version.0)
      ∙ ap (λ (c : ℕ). size_of z.road.version c x.steps) (sym k.cells)
      ∙ ap (λ (T : ℕ). size_of z.road.version z.road.n T) (sym k.steps.0)
      ∙ read_size s p.reads

  -- joining isn't refused if the record has room, and counts its bytes
  module _ (target : List ℕ) (room : length s ≤ length target) where
    request : JoinRequest up down share target
    request =
        let k = p.stands in
        let first = (read_within_lem up (reading_of up) refl p.both.upper).road.some in
        let i : n - 1 + 1 ≡ n = omega (arith, first) in
        record {
          both = p.both;
          stated = omega (arith, k.shares.joint (n - 1) i, accepted.road.share (n - 1) (omega (arith, first, k.cells)));
          alike = record {
            steps = sym k.steps.0 ∙ k.steps.1;
            version = sym k.version.0 ∙ k.version.1;
            seconds = sym k.seconds.0 ∙ k.seconds.1;
          };
          idle = p.idle;
          small = record { cells = most; bytes = omega (arith, size, accepted.bytes) };
          room = omega (arith, size);
        }

    pub parts_answer : joining_of up down share target ≡ written_count (length s)
    parts_answer = joins_if up down share target request ∙ ap written_count size

    -- the target then begins with exactly these bytes
    pub parts_joined : take (length s) (joined_target up down share target) ≡ s
    parts_joined =
        let h : (joining_of up down share target).number ≡ 0 = ap (λ (q : WriteAnswer). q.number) parts_answer in
        let c : (joining_of up down share target).count ≡ length s = ap (λ (q : WriteAnswer). q.count) parts_answer in
        ap (λ (k : ℕ). take k (joined_target up down share target)) (sym c) ∙ joined_bytes_lem up down share target h ∙ parts_bytes
