-- Theorem: a record that reads, cut into two records after any cell but its last and joined again, gives the same bytes. Assumes nothing.
use Rattle.std.specs.Prelude.{◌≡◌, refl, List, [], ◌∷◌, ℕ, suc, ◌+◌, ◌-◌, ◌*◌, ◌≤◌, ◌<◌, length, take, drop}
use Rattle.std.proofs.Common.{sym, ap, subst, ◌∙◌, ⊎_elim, mul-le-mul_left, arith, length-drop, length-take-le, get_or-take, get_or-drop, eq-eqb, ne_eqb}
use Rattle.model.specs.Numbers.{at, fill_of}
use Rattle.numbers.specs.Tests.{order}
use Rattle.numbers.specs.RowsLaws.{fill_at}
use Rattle.model.specs.Flow.{whole}
use Rattle.model.specs.declared.Road.{Road}
use Rattle.model.specs.Road.{most_cells, most_bytes, zeros}
use Rattle.numbers.specs.Zeros.{length_zeros}
use Rattle.model.specs.Schedules.{Study}
use Rattle.model.specs.Record.{row_numbers, row_size, record_row}
use Rattle.fields.specs.FieldsLaws.{length_row}
use Rattle.limits.specs.LimitsLaws.{RowOk}
use Rattle.model.specs.Reading.{size_of, ReadAnswer, accepted_of, reading_of, study_of}
use Rattle.reading.specs.Numbers.{Numbers, read_numbers}
use Rattle.model.specs.Encoding.{record_of}
use Rattle.model.specs.Writing.{written_count}
use Rattle.writing.specs.ReadBack.{Recordable, reads_back, rows_read}
use Rattle.writing.specs.ReadStudy.{read_recordable, read_kept}
use Rattle.model.specs.Joining.{joining_of, joined_target}
use Rattle.joining.specs.JoinedColumns.{ColumnJoined, JoinedShares, JoinedNumbers}
use Rattle.joining.specs.Theorems.{JoinedReading}
use Rattle.joining.specs.JoinedParts.{Parts, parts_answer, parts_joined}
use Rattle.joining.specs.RoadParts.{part_of, upper_share, part_road, part_start, upper_of, lower_of, part_at, start_part, part_road_lem, part_start_lem, part_row, part_cut}

-- a record that reads, of more than k cells
module _ (s : List ℕ) (reads : (reading_of s).number ≡ 0) (k : ℕ) (some : 1 ≤ k) (less : k < (reading_of s).road.n) where
  abbrev z : ReadAnswer
  z = reading_of s

  abbrev a : Study
  a = study_of s []

  abbrev r : Road
  r = z.road

  abbrev m : ℕ
  m = r.n - k

  abbrev upper_shares : List ℕ
  upper_shares = fill_of (upper_share k r.share) k zeros

  abbrev lower_shares : List ℕ
  lower_shares = part_of k m r.share

  whole_ok : Recordable (study_of s [])
  whole_ok = read_recordable s reads []

  cells : (reading_of s).road.n ≤ most_cells
  cells = whole_ok.road.cells

  -- the shares of both parts
  upper_share_lem : (i : ℕ) → i < k → at (fill_of (upper_share k (reading_of s).road.share) k zeros) i ≡ upper_share k (reading_of s).road.share i
  upper_share_lem i l = fill_at (upper_share k r.share) k zeros i l (omega (arith, length_zeros, cells, less))

  upper_last : (i : ℕ) → i + 1 ≡ k → at (fill_of (upper_share k (reading_of s).road.share) k zeros) i ≡ 0
  upper_last i e = upper_share_lem i (omega arith) ∙ rw (eq-eqb (i + 1) k e)

  upper_other : (i : ℕ) → i + 1 < k → at (fill_of (upper_share k (reading_of s).road.share) k zeros) i ≡ at (reading_of s).road.share i
  upper_other i l =
      let e : 0 + i ≡ i = omega arith in
      upper_share_lem i (omega arith) ∙ rw (ne_eqb (i + 1) k (λ e. omega arith), e)

  upper_most : (i : ℕ) → i < k → at (fill_of (upper_share k (reading_of s).road.share) k zeros) i ≤ whole
  upper_most i l = ⊎_elim
      (λ (h : k ≤ i + 1). omega (arith, upper_last i (omega arith)))
      (λ (h : i + 1 < k). omega (arith, upper_other i h, whole_ok.road.share i (omega (arith, less))))
      (order k (i + 1))

  lower_share : (i : ℕ) → i < (reading_of s).road.n - k → at (part_of k ((reading_of s).road.n - k) (reading_of s).road.share) i ≡ at (reading_of s).road.share (k + i)
  lower_share = part_at k m r.share (omega (arith, cells))

  lower_last : (i : ℕ) → i + 1 ≡ (reading_of s).road.n - k → at (part_of k ((reading_of s).road.n - k) (reading_of s).road.share) i ≡ 0
  lower_last i e = lower_share i (omega arith) ∙ whole_ok.road.last (k + i) (omega (arith, less))

  lower_most : (i : ℕ) → i < (reading_of s).road.n - k → at (part_of k ((reading_of s).road.n - k) (reading_of s).road.share) i ≤ whole
  lower_most i l = omega (arith, lower_share i l, whole_ok.road.share (k + i) (omega arith))

  -- fewer cells need fewer bytes
  fewer : (c : ℕ) → c ≤ (reading_of s).road.n → size_of (reading_of s).road.version c (reading_of s).steps ≤ most_bytes
  fewer c l =
      let w : row_size c ≤ row_size r.n = omega arith in
      omega (arith, whole_ok.size, mul-le-mul_left z.steps w)

  -- the rows of both parts
  upper_row : (t : ℕ) → t < (reading_of s).steps
      → RowOk (part_road 0 k (reading_of s).road.gate_capacity (fill_of (upper_share k (reading_of s).road.share) k zeros) (reading_of s).road)
      (take (row_numbers k) (record_row s (reading_of s).road.n t))
  upper_row t l =
      let all = record_row s r.n t in
      let h = whole_ok.row t l in
      let first : at (take (row_numbers k) all) 0 ≡ at all 0 = get_or-take (row_numbers k) all 0 0 (omega arith) in
      part_row r whole_ok.road 0 k r.gate_capacity upper_shares some (omega (arith, less)) whole_ok.road.gate upper_most upper_last
      (take (row_numbers k) all) all h (length-take-le (row_numbers k) all (omega (arith, h.numbers, less)))
      (omega (arith, first, h.gate))
      (λ j b.
      let e : 1 + j ≡ 1 + 2 * 0 + j = omega arith in
      get_or-take (row_numbers k) all (1 + j) 0 (omega arith) ∙ ap (at all) e)

  lower_number : (t j : ℕ) → at (0 ∷ drop (row_numbers k) (record_row s (reading_of s).road.n t)) (1 + j) ≡ at (record_row s (reading_of s).road.n t) (1 + 2 * k + j)
  lower_number t j =
      let all = record_row s r.n t in
      let e : 1 + j ≡ suc j = omega arith in
      ap (at (0 ∷ drop (row_numbers k) all)) e ∙ get_or-drop (row_numbers k) all j 0

  lower_length : (t : ℕ) → length (0 ∷ drop (row_numbers k) (record_row s (reading_of s).road.n t)) ≡ row_numbers ((reading_of s).road.n - k)
  lower_length t =
      let all = record_row s r.n t in
      omega (arith, length-drop (row_numbers k) all, length_row s r.n t, less)

  lower_row : (t : ℕ) → t < (reading_of s).steps
      → RowOk (part_road k ((reading_of s).road.n - k) 0 (part_of k ((reading_of s).road.n - k) (reading_of s).road.share) (reading_of s).road)
      (0 ∷ drop (row_numbers k) (record_row s (reading_of s).road.n t))
  lower_row t l =
      let all = record_row s r.n t in
      let h = whole_ok.row t l in
      part_row r whole_ok.road k m 0 lower_shares (omega (arith, less)) (omega (arith, less)) (omega arith) lower_most lower_last
      (0 ∷ drop (row_numbers k) all) all h (lower_length t) (omega arith)
      (λ j b. lower_number t j)

  -- both parts are within the limits
  upper_ok : Recordable (upper_of k (study_of s []))
  upper_ok = record {
    version = whole_ok.version;
    counts = record { some_cells = some; cells = omega (arith, cells, less); some_steps = whole_ok.counts.some_steps; steps = whole_ok.counts.steps };
    seconds = whole_ok.seconds;
    size = fewer k (omega (arith, less));
    road = part_road_lem r whole_ok.road 0 k r.gate_capacity upper_shares some (omega (arith, less)) whole_ok.road.gate upper_most upper_last;
    start = part_start_lem r whole_ok.road 0 k r.gate_capacity upper_shares some (omega (arith, less)) whole_ok.road.gate upper_most upper_last
        z.state z.state.gate_queue whole_ok.start (omega arith);
    row = upper_row;
  }

  lower_ok : Recordable (lower_of k (study_of s []))
  lower_ok = record {
    version = whole_ok.version;
    counts = record {
      some_cells = omega (arith, less);
      cells = omega (arith, cells);
      some_steps = whole_ok.counts.some_steps;
      steps = whole_ok.counts.steps;
    };
    seconds = whole_ok.seconds;
    size = fewer m (omega arith);
    road = part_road_lem r whole_ok.road k m 0 lower_shares (omega (arith, less)) (omega (arith, less)) (omega arith) lower_most lower_last;
    start = part_start_lem r whole_ok.road k m 0 lower_shares (omega (arith, less)) (omega (arith, less)) (omega arith) lower_most lower_last
        z.state 0 whole_ok.start (omega arith);
    row = lower_row;
  }

  -- so both records read
  abbrev up : List ℕ
  up = record_of (upper_of k (study_of s []))

  abbrev down : List ℕ
  down = record_of (lower_of k (study_of s []))

  abbrev upper_read : ReadAnswer
  upper_read = accepted_of z.steps (part_road 0 k r.gate_capacity upper_shares r) (part_start 0 k z.state.gate_queue z.state)

  abbrev lower_read : ReadAnswer
  lower_read = accepted_of z.steps (part_road k m 0 lower_shares r) (part_start k m 0 z.state)

  upper_reads : reading_of (record_of (upper_of k (study_of s []))) ≡ upper_read
  upper_reads =
      let road = part_cut r whole_ok.road 0 k r.gate_capacity upper_shares some (omega (arith, less)) whole_ok.road.gate upper_most upper_last
      (upper_share k r.share) refl (read_kept s reads) in
      let start = start_part 0 k z.state.gate_queue z.state (omega (arith, cells, less)) in
      reads_back (upper_of k a) upper_ok ∙ rw (road, start)

  lower_reads : reading_of (record_of (lower_of k (study_of s []))) ≡ lower_read
  lower_reads =
      let road = part_cut r whole_ok.road k m 0 lower_shares (omega (arith, less)) (omega (arith, less)) (omega arith) lower_most lower_last
      (λ i. at r.share (k + i)) refl (read_kept s reads) in
      let start = start_part k m 0 z.state (omega (arith, cells)) in
      reads_back (lower_of k a) lower_ok ∙ rw (road, start)

  -- and they are the parts of the record
  column : (l : List ℕ) → ((i : ℕ) → (reading_of s).road.n ≤ i → at l i ≡ 0)
      → ColumnJoined k ((reading_of s).road.n - k) (part_of 0 k l) (part_of k ((reading_of s).road.n - k) l) l
  column l past = record {
    upper = λ i b.
        let e : 0 + i ≡ i = omega arith in
        sym (part_at 0 k l (omega (arith, cells, less)) i b ∙ ap (at l) e);
    lower = λ i b. sym (part_at k m l (omega (arith, cells)) i b);
    past = λ i b. past i (omega (arith, less));
  }

  numbers : Numbers s (reading_of s).steps (reading_of s).road (reading_of s).state
  numbers = read_numbers s (reading_of s) refl reads

  shares : JoinedShares (at (reading_of s).road.share (k - 1)) k ((reading_of s).road.n - k) upper_shares lower_shares (reading_of s).road.share
  shares = record {
    upper = λ i b. sym (upper_other i b);
    joint = λ i e. let f : i ≡ k - 1 = omega arith in ap (at r.share) f;
    lower = λ i b. sym (lower_share i b);
    past = λ i b. numbers.share.past i (omega (arith, less));
  }

  stands : JoinedReading (at (reading_of s).road.share (k - 1)) upper_read lower_read (reading_of s)
  stands = record {
    cells = omega (arith, less);
    steps = (refl, refl);
    version = (refl, refl);
    seconds = (refl, refl);
    gate_capacity = refl;
    gate_queue = refl;
    speed = column r.speed numbers.speed.past;
    wave = column r.wave numbers.wave.past;
    shares = shares;
    ramp = column r.ramp numbers.ramp.past;
    jam = column r.jam numbers.jam.past;
    capacity = column r.capacity numbers.capacity.past;
    held = column z.state.held numbers.held.past;
    queue = column z.state.queue numbers.queue.past;
  }

  row : (t : ℕ) → JoinedNumbers k ((reading_of s).road.n - k) (take (row_numbers k) (record_row s (reading_of s).road.n t))
      (0 ∷ drop (row_numbers k) (record_row s (reading_of s).road.n t)) (record_row s (reading_of s).road.n t)
  row t =
      let all = record_row s r.n t in
      let front : (j : ℕ) → j < row_numbers k → at all j ≡ at (take (row_numbers k) all) j = λ j b. (sym (get_or-take (row_numbers k) all j 0 b)) in
      let back : (i j : ℕ) → i ≡ row_numbers k + j → at all i ≡ at (0 ∷ drop (row_numbers k) all) (j + 1) =
      λ i j e. (let f : 1 + j ≡ j + 1 = omega arith in ap (at all) e ∙ sym (lower_number t j) ∙ ap (at (0 ∷ drop (row_numbers k) all)) f) in
      record {
        numbers = length_row s r.n t ∙ omega (arith, less);
        gate = front 0 (omega arith);
        upper_arrivals = λ i b. front (2 * i + 1) (omega arith);
        upper_release = λ i b. front (2 * i + 2) (omega arith);
        lower_arrivals = λ i b. back (2 * (k + i) + 1) (2 * i) (omega arith);
        lower_release = λ i b.
            let e : 2 * i + 1 + 1 ≡ 2 * i + 2 = omega arith in
            back (2 * (k + i) + 2) (2 * i + 1) (omega arith) ∙ ap (at (0 ∷ drop (row_numbers k) all)) e;
      }

  upper_taken : (t : ℕ) → t < (reading_of s).steps → record_row up (reading_of up).road.n t ≡ take (row_numbers k) (record_row s (reading_of s).road.n t)
  upper_taken t l = ap (λ (x : ReadAnswer). record_row up x.road.n t) upper_reads ∙ rows_read (upper_of k a) upper_ok t l

  lower_taken : (t : ℕ) → t < (reading_of s).steps → record_row down (reading_of down).road.n t ≡ 0 ∷ drop (row_numbers k) (record_row s (reading_of s).road.n t)
  lower_taken t l = ap (λ (x : ReadAnswer). record_row down x.road.n t) lower_reads ∙ rows_read (lower_of k a) lower_ok t l

  pub cut_parts : Parts s (record_of (upper_of k (study_of s []))) (record_of (lower_of k (study_of s []))) (at (reading_of s).road.share (k - 1))
  cut_parts = record {
    reads = reads;
    both = record { upper = ap (λ (x : ReadAnswer). x.number) upper_reads; lower = ap (λ (x : ReadAnswer). x.number) lower_reads };
    stands =
        subst (λ (x : ReadAnswer). JoinedReading (at r.share (k - 1)) x (reading_of down) z) (sym upper_reads)
        (subst (λ (y : ReadAnswer). JoinedReading (at r.share (k - 1)) upper_read y z) (sym lower_reads) stands);
    row = λ t l.
        subst (λ (x : List ℕ). JoinedNumbers (reading_of up).road.n (reading_of down).road.n x (record_row down (reading_of down).road.n t) (record_row s r.n t))
        (sym (upper_taken t l))
        (subst (λ (y : List ℕ). JoinedNumbers (reading_of up).road.n (reading_of down).road.n (take (row_numbers k) (record_row s r.n t)) y (record_row s r.n t))
        (sym (lower_taken t l))
        (subst (λ (c : ℕ). JoinedNumbers c (reading_of down).road.n (take (row_numbers k) (record_row s r.n t))
        (0 ∷ drop (row_numbers k) (record_row s r.n t)) (record_row s r.n t))
        (sym (ap (λ (x : ReadAnswer). x.road.n) upper_reads))
        (subst (λ (c : ℕ). JoinedNumbers k c (take (row_numbers k) (record_row s r.n t)) (0 ∷ drop (row_numbers k) (record_row s r.n t)) (record_row s r.n t))
        (sym (ap (λ (y : ReadAnswer). y.road.n) lower_reads)) (row t))));
    idle = record {
      queue = ap (λ (y : ReadAnswer). y.state.gate_queue) lower_reads;
      arrivals = λ t l. ap (λ (q : List ℕ). at q 0) (lower_taken t (subst (λ (T : ℕ). t < T) (ap (λ (y : ReadAnswer). y.steps) lower_reads) l));
    };
  }

  -- joined again with the joint's own share they give the record
  module _ (small : (i : ℕ) → at s i < 256) (target : List ℕ) (room : length s ≤ length target) where
    pub cut_answer : joining_of (record_of (upper_of k (study_of s []))) (record_of (lower_of k (study_of s []))) (at (reading_of s).road.share (k - 1)) target
        ≡ written_count (length s)
    cut_answer = parts_answer s up down (at r.share (k - 1)) small cut_parts target room

    pub cut_joined : take (length s)
        (joined_target (record_of (upper_of k (study_of s []))) (record_of (lower_of k (study_of s []))) (at (reading_of s).road.share (k - 1)) target)
        ≡ s
    cut_joined = parts_joined s up down (at r.share (k - 1)) small cut_parts target room
