-- Filling depends only on road, start, arrivals and lanes: a record filled in either version gets the same releases, whatever releases it held
-- before, and filling twice gives what filling once does. Assumes nothing.
use Rattle.std.specs.Prelude.{◌≡◌, refl, length}
use Rattle.std.proofs.Common.{sym, ◌∙◌, ⊎_elim, eq-zero-or-pos, le_refl, arith, ext_get_or}
use Rattle.std.proofs.Math.Path.{ap}
use mathlib.Core.List.{List}
use Prim.Native.Nat.{ℕ, zero, suc, ◌+◌, ◌*◌, ◌/◌, ◌%◌, min, ◌≤◌, ◌<◌}
use Rattle.model.specs.Numbers.{at, front_of, fill_of}
use Rattle.numbers.specs.RowsLaws.{fill_same}
use Rattle.numbers.specs.TablesLaws.{front_same}
use Rattle.model.specs.declared.Road.{Road}
use Rattle.model.specs.declared.State.{State}
use Rattle.model.specs.Road.{most_rate}
use Rattle.model.specs.Schedules.{Study, study, road_at, table_size, outflows_of, outflows_at}
use Rattle.model.specs.Flow.{entering_of}
use Rattle.model.specs.Record.{record_row}
use Rattle.fields.specs.FieldsLaws.{length_row}
use Rattle.model.specs.declared.Law.{Law}
use Rattle.model.specs.Meter.{law_fault_of}
use Rattle.model.specs.Flow.{gate_arrivals, arrivals_at, capacity_at, most_release_at, supply_at, cumulative_at, entering_at}
use Rattle.model.specs.Move.{next_of}
use Rattle.theory.specs.RunsLaws.{StudyOk}
use Rattle.theory.specs.VersionUnread.{with_version, OtherVersion, share_version, outflows_version, next_version, road_at_lem, same_outflows}
use Rattle.model.specs.Reading.{ReadAnswer, reading_of, study_by, study_of}
use Rattle.model.specs.Filling.{MeterState, meter_state, meter_start, wish_at, release_of, granted_at, filled_row, next_metered, metered_of}
use Rattle.model.specs.Put.{release_number, released_row}
use Rattle.put.specs.ReleasesLaws.{length_released, released_at, released_gate, released_arrivals}
use Rattle.model.specs.Running.{EndAnswer, lanes_fault, table_of}
use Rattle.model.specs.Demand.{Openable}
use Rattle.theory.specs.Readable.{readable}
use Rattle.theory.specs.VersionsAlike.{EndsAlike}
use Rattle.theory.proofs.VersionsAlike.{same_places, same_table}
use Rattle.filling.specs.FillingLaws.{filled_rows}
use Rattle.model.specs.Filling.{metered_after, metered_from, filled_study, law_place, filling_of, record_after, filled_list, OnlyReleases}
use Rattle.filling.specs.Rerun.{filled_rows_lem}
use Rattle.filling.specs.Cases.{Leaves, fills_refused, fills_law, fills_closed, fills_short, fills_all, Case, case_of}
use Rattle.filling.specs.Theorems.{only_releases}

-- two studies that differ only in the road's version and seconds and in their releases
pub record SameArrivals (a b : Study) : Type 0 where
  pub road : b.road ≡ with_version b.road.version b.road.seconds a.road
  pub start : b.start ≡ a.start
  pub steps : b.steps ≡ a.steps
  pub lanes : b.lanes ≡ a.lanes
  pub size : (k : ℕ) → k < a.steps → length (b.rows k) ≡ length (a.rows k)
  pub gate : (k : ℕ) → k < a.steps → gate_arrivals (b.rows k) ≡ gate_arrivals (a.rows k)
  pub arrivals : (k i : ℕ) → k < a.steps → arrivals_at (b.rows k) i ≡ arrivals_at (a.rows k) i

-- two records filled by the same laws under the same table: the answers are alike, the lists are the same, and so are their rows if they are filled
pub record FilledAlike (laws : List Law) (s t lanes list : List ℕ) : Type 0 where
  pub answer : EndsAlike (filling_of laws s lanes list) (filling_of laws t lanes list)
  pub written : filled_list laws t lanes list ≡ filled_list laws s lanes list
  pub rows : (filling_of laws s lanes list).number ≡ 0 → (k : ℕ) → k < (study_of s lanes).steps
      → record_row (record_after laws t lanes list) (study_of t lanes).road.n k ≡ record_row (record_after laws s lanes list) (study_of s lanes).road.n k

-- rows with the same arrivals and the same given releases are equal
released_alike : (f g : ℕ → ℕ) (n : ℕ) (row other : List ℕ) → length row ≡ 1 + 2 * n → length other ≡ length row → at other 0 ≡ at row 0
    → ((i : ℕ) → at other (2 * i + 1) ≡ at row (2 * i + 1)) → ((i : ℕ) → i < n → g i ≡ f i) → released_row g n other ≡ released_row f n row
released_alike f g n row other size same gate arrivals given =
    ext_get_or 0 (released_row g n other) (released_row f n row) (length_released g n other ∙ same ∙ sym (length_released f n row)) entry
  where
    entry : (j : ℕ) → j < length (released_row g n other) → at (released_row g n other) j ≡ at (released_row f n row) j
    entry zero l = released_gate g n other ∙ gate ∙ sym (released_gate f n row)
    entry (suc j) l = ⊎_elim
        (λ (z : j % 2 ≡ 0).
        let e : suc j ≡ 2 * (j / 2) + 1 = omega arith in
        ap (at (released_row g n other)) e
        ∙ (released_arrivals g n other (j / 2) ∙ arrivals (j / 2) ∙ sym (released_arrivals f n row (j / 2)))
        ∙ ap (at (released_row f n row)) (sym e))
        (λ (p : 0 < j % 2).
        let e : suc j ≡ release_number (j / 2) = omega arith in
        let m : j / 2 < n = omega (arith, length_released g n other, same, size) in
        ap (at (released_row g n other)) e
        ∙ (released_at g n other (j / 2) m (omega (arith, same, size)) ∙ given (j / 2) m ∙ sym (released_at f n row (j / 2) m (omega (arith, size))))
        ∙ ap (at (released_row f n row)) (sym e))
        (eq-zero-or-pos (j % 2))

-- one step
module _ (laws : List Law) (version seconds : ℕ) (r : Road) (m : MeterState) (row other : List ℕ) (size : length row ≡ 1 + 2 * r.n)
    (same : length other ≡ length row) (gate : gate_arrivals other ≡ gate_arrivals row) (arrivals : (i : ℕ) → arrivals_at other i ≡ arrivals_at row i) where
  abbrev q : Road
  q = with_version version seconds r

  granted_alike : (i : ℕ) → granted_at laws q m other i ≡ granted_at laws r m row i
  unfolding granted_at most_release_at capacity_at
  granted_alike i =
      ap (λ (x : ℕ). release_of (at r.ramp i) (wish_at laws m i) (min (at m.state.queue i + x) (min (supply_at r m.state i) most_rate))) (arrivals i)

  filled_alike : filled_row laws q m other ≡ filled_row laws r m row
  unfolding filled_row
  filled_alike = released_alike (granted_at laws r m row) (granted_at laws q m other) r.n row other size same gate arrivals (λ i l. granted_alike i)

  -- a step with the same row
  next_alike : (full given : List ℕ) → next_metered q m full given ≡ next_metered r m full given
  next_alike full given =
      let y = outflows_of r m.state full in
      let e = outflows_version version seconds r m.state full in
      ap (λ (z : List ℕ). meter_state (next_of q m.state full z) given (fill_of (entering_at q m.state z) r.n m.entries)) e
      ∙ ap (λ (t : State). meter_state t given (fill_of (entering_at q m.state y) r.n m.entries)) (next_version version seconds r m.state full y)
      ∙ ap (meter_state (next_of r m.state full y) given)
      (fill_same (entering_at q m.state y) (entering_at r m.state y) r.n m.entries
      (λ i l. ap (λ (b : ℕ). entering_of b (cumulative_at m.state i) (at y i)) (share_version version seconds r i)))

  metered_alike : metered_of laws q m other ≡ metered_of laws r m row
  unfolding metered_of
  metered_alike =
      let given = fill_of (granted_at laws q m other) r.n m.releases in
      ap (λ (full : List ℕ). next_metered q m full given) filled_alike
      ∙ ap (next_metered q m (filled_row laws r m row)) (fill_same (granted_at laws q m other) (granted_at laws r m row) r.n m.releases (λ i l. granted_alike i))
      ∙ next_alike (filled_row laws r m row) (fill_of (granted_at laws r m row) r.n m.releases)

-- whole studies
module _ (laws : List Law) {a b : Study} (ok : StudyOk a) (h : SameArrivals a b) where
  abbrev version : ℕ
  version = b.road.version

  abbrev seconds : ℕ
  seconds = b.road.seconds

  roads : (k : ℕ) → road_at b k ≡ with_version version seconds (road_at a k)
  unfolding road_at
  roads k = road_at_lem {a = a} {b = study b.road b.start b.steps a.rows b.lanes}
      (record { road = h.road; start = h.start; steps = h.steps; rows = λ j l. refl; lanes = h.lanes }) k

  numbers : (k : ℕ) → k < a.steps → length (a.rows k) ≡ 1 + 2 * (road_at a k).n
  numbers k l = omega (arith, (ok.row k l).numbers, (ok.roads k).n)

  -- each step has the same state, last releases and entries
  pub metered_same : (k : ℕ) → k ≤ a.steps → metered_after laws b k ≡ metered_after laws a k
  unfolding metered_from
  metered_same zero l = ap meter_start h.start
  metered_same (suc k) l =
      ap (λ (m : MeterState). metered_of laws (road_at b k) m (b.rows k)) (metered_same k (omega arith))
      ∙ ap (λ (r : Road). metered_of laws r (metered_after laws a k) (b.rows k)) (roads k)
      ∙ metered_alike laws version seconds (road_at a k) (metered_after laws a k) (a.rows k) (b.rows k) (numbers k l) (h.size k l) (h.gate k l)
      (λ i. h.arrivals k i l)

  -- so the filled rows are the same
  pub rows_same : (k : ℕ) → k < a.steps → filled_rows laws b k ≡ filled_rows laws a k
  rows_same k l =
      ap (λ (m : MeterState). filled_row laws (road_at b k) m (b.rows k)) (metered_same k (omega arith))
      ∙ ap (λ (r : Road). filled_row laws r (metered_after laws a k) (b.rows k)) (roads k)
      ∙ filled_alike laws version seconds (road_at a k) (metered_after laws a k) (a.rows k) (b.rows k) (numbers k l) (h.size k l) (h.gate k l)
      (λ i. h.arrivals k i l)

  filled_version : OtherVersion (filled_study laws a) (filled_study laws b)
  filled_version = record { road = h.road; start = h.start; steps = h.steps; rows = rows_same; lanes = h.lanes }

  same_law : law_place laws b ≡ law_place laws a
  same_law = ap (λ (r : Road). law_fault_of laws r.ramp r.n) h.road

  same_size : table_size b ≡ table_size a
  same_size = same_table filled_version

  same_flows : (list : List ℕ) → table_of (filled_study laws b) list b.steps ≡ table_of (filled_study laws a) list a.steps
  same_flows list =
      ap (table_of (filled_study laws b) list) h.steps
      ∙ front_same (outflows_at (filled_study laws b)) (outflows_at (filled_study laws a)) (b.road.n + 1) list a.steps (λ i l. same_outflows filled_version i l)
      ∙ ap (λ (p : ℕ). front_of (outflows_at (filled_study laws a)) p list a.steps) (same_places filled_version)

  same_last : (metered_after laws b b.steps).state ≡ (metered_after laws a a.steps).state
  same_last = ap (λ (k : ℕ). (metered_after laws b k).state) h.steps ∙ ap (λ (m : MeterState). m.state) (metered_same a.steps (le_refl a.steps))

-- two records without a refusal
pub filled_alike_by : (laws : List Law) (s t lanes list : List ℕ) → Openable s lanes → Openable t lanes → SameArrivals (study_of s lanes) (study_of t lanes)
    → FilledAlike laws s t lanes list
filled_alike_by laws s t lanes list first other h = go (case_of laws s lanes list)
  where
    ok : StudyOk (study_of s lanes)
    ok = (readable s lanes (reading_of s) refl first.reads first.opens).ok

    by : {d e : EndAnswer} {after out left written : List ℕ} → Leaves laws s lanes list d after out → Leaves laws t lanes list e left written
        → EndsAlike d e → written ≡ out
        → (d.number ≡ 0 → (k : ℕ) → k < (study_of s lanes).steps → record_row left (study_of t lanes).road.n k ≡ record_row after (study_of s lanes).road.n k)
        → FilledAlike laws s t lanes list
    by x y alike list_same_lem rows_are = record {
      answer = rw (x.answers, y.answers) alike;
      written = y.list_is ∙ list_same_lem ∙ sym x.list_is;
      rows = λ z k l. rw (x.bytes_are, y.bytes_are) (rows_are (ap (λ (e : EndAnswer). e.number) (sym x.answers) ∙ z) k l);
    }

    go : Case laws s lanes list → FilledAlike laws s t lanes list
    go (Case.refused n) = absurd (n first.reads)
    go (Case.law r n) =
        by (fills_law laws s lanes list r n) (fills_law laws t lanes list other.reads (λ z. n (sym (same_law laws ok h) ∙ z)))
        (record { number = refl; step = refl; place = same_law laws ok h; state = refl }) refl (λ z. absurd (omega arith))
    go (Case.closed r f n) = absurd (n first.opens)
    go (Case.short k f l) =
        by (fills_short laws s lanes list k.reads f k.opens l)
        (fills_short laws t lanes list other.reads (same_law laws ok h ∙ f) other.opens (omega (arith, same_size laws ok h)))
        (record { number = refl; step = refl; place = refl; state = refl }) refl (λ z. absurd (omega arith))
    go (Case.all k f l) =
        by (fills_all laws s lanes list k.reads f k.opens l)
        (fills_all laws t lanes list other.reads (same_law laws ok h ∙ f) other.opens (omega (arith, same_size laws ok h)))
        (record { number = refl; step = refl; place = refl; state = same_last laws ok h }) (same_flows laws ok h list)
        (λ z j m. filled_rows_lem laws t lanes other j (omega (arith, h.steps)) ∙ rows_same laws ok h j m ∙ sym (filled_rows_lem laws s lanes first j m))

-- a record filled in either version gets the same releases
pub other_version_alike : (laws : List Law) (s t lanes list : List ℕ) → Openable s lanes → Openable t lanes → OtherVersion (study_of s lanes) (study_of t lanes)
    → FilledAlike laws s t lanes list
other_version_alike laws s t lanes list first other h =
    filled_alike_by laws s t lanes list first other (record {
      road = h.road;
      start = h.start;
      steps = h.steps;
      lanes = h.lanes;
      size = λ k l. ap length (h.rows k l);
      gate = λ k l. ap gate_arrivals (h.rows k l);
      arrivals = λ k i l. ap (λ (row : List ℕ). arrivals_at row i) (h.rows k l);
    })

-- a record that differs from one without a refusal only in its releases has no refusal either
only_openable : {s t lanes : List ℕ} → Openable s lanes → OnlyReleases s t → Openable t lanes
only_openable {t = t} {lanes = lanes} first h = record {
  reads = ap (λ (x : ReadAnswer). x.number) h.reads ∙ first.reads;
  opens = ap (λ (x : ReadAnswer). (lanes_fault (study_by t lanes x.road x.state x.steps)).number) h.reads ∙ first.opens;
}

-- filling doesn't depend on the releases that the record held before
pub releases_alike : (laws : List Law) (s t lanes list : List ℕ) → Openable s lanes → OnlyReleases s t → FilledAlike laws s t lanes list
releases_alike laws s t lanes list first h =
    let n = (reading_of s).road.n in
    let e : (reading_of t).road.n ≡ n = ap (λ (x : ReadAnswer). x.road.n) h.reads in
    filled_alike_by laws s t lanes list first (only_openable first h) (record {
      road = ap (λ (x : ReadAnswer). with_version (reading_of t).road.version (reading_of t).road.seconds x.road) h.reads;
      start = ap (λ (x : ReadAnswer). x.state) h.reads;
      steps = ap (λ (x : ReadAnswer). x.steps) h.reads;
      lanes = refl;
      size = λ k l. ap (λ (p : ℕ). length (record_row t p k)) e ∙ length_row t n k ∙ sym (length_row s n k);
      gate = λ k l. ap (λ (p : ℕ). gate_arrivals (record_row t p k)) e ∙ h.gate k l;
      arrivals = λ k i l. ap (λ (p : ℕ). arrivals_at (record_row t p k) i) e ∙ h.arrivals k i l;
    })

-- if filling is not refused, no refusal of the record or the table applies
pub filled_openable_by : (laws : List Law) (bytes lanes list : List ℕ) → (filling_of laws bytes lanes list).number ≡ 0 → Openable bytes lanes
filled_openable_by laws bytes lanes list z = go (case_of laws bytes lanes list)
  where
    number : {e : EndAnswer} → filling_of laws bytes lanes list ≡ e → e.number ≡ 0
    number g = ap (λ (x : EndAnswer). x.number) (sym g) ∙ z

    go : Case laws bytes lanes list → Openable bytes lanes
    go (Case.refused h) = absurd (h (number (fills_refused laws bytes lanes list h).answers))
    go (Case.law r h) = absurd (let q = number (fills_law laws bytes lanes list r h).answers in omega arith)
    go (Case.closed r h n) = absurd (n (number (fills_closed laws bytes lanes list r h n).answers))
    go (Case.short k h l) = k
    go (Case.all k h l) = k

-- so filling a filled record gives the same answer, list and rows
pub filled_twice : (laws : List Law) (bytes lanes list : List ℕ) → Openable bytes lanes → FilledAlike laws bytes (record_after laws bytes lanes list) lanes list
filled_twice laws bytes lanes list first =
    releases_alike laws bytes (record_after laws bytes lanes list) lanes list first (only_releases laws bytes lanes list)
