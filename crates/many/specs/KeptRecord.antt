-- The record that filling leaves for the next study: everything before the rows is unchanged, and its releases are within the limits.
-- With the arrivals of a study it reads as the record given does with them, also if that is a refusal. Assumes nothing.
use Rattle.std.specs.Prelude.{◌≡◌, refl, true, ◌&&◌, List, ℕ, ◌+◌, ◌*◌, ◌≤◌, ◌<◌, length}
use Rattle.std.proofs.Math.Path.{sym, ap}
use Rattle.std.proofs.Common.{◌∙◌, inl, arith}
use Rattle.std.proofs.Math.Dec.{leb, eqb}
use Rattle.model.specs.Numbers.{at, all_of, row_at}
use Rattle.numbers.specs.Tests.{and_true}
use Rattle.numbers.specs.FirstLaws.{all_at, first_same}
use Rattle.numbers.specs.RowsLaws.{fill_same}
use Rattle.model.specs.declared.Road.{Road}
use Rattle.model.specs.Road.{zeros, most_rate}
use Rattle.model.specs.Record.{short_size, seconds_size, version_offset, version_of, cells_offset, steps_offset, ramp_offset, row_start, number_of, field_of, column_of}
use Rattle.model.specs.Record.{entry_of, record_row}
use Rattle.fields.specs.BytesLaws.{number_same}
use Rattle.fields.specs.FieldsLaws.{HoldsRow, row_at_lem}
use Rattle.model.specs.Limits.{at_ramp, rates_at, row_ok}
use Rattle.limits.specs.LimitsLaws.{row_ok_lem}
use Rattle.model.specs.Reading.{cells_of, steps_of, ReadAnswer, road_of, step_ok, reading_of}
use Rattle.reading.specs.Cases.{ReadingEnds, read_found, early_refused}
use Rattle.reading.specs.Within.{read_within_lem, read_row_lem}
use Rattle.put.specs.SameReading.{reading_alike}
use Rattle.model.specs.Put.{release_number}
use Rattle.model.specs.Filling.{OnlyReleases}
use Rattle.model.specs.Many.{study_arrivals, with_study_arrivals}
use Rattle.many.specs.Arrivals.{holds_on, ArrivedRows, rows_put, releases_kept, head_kept}

-- a record that reads has the road and T of its header and cells
read_parts : {s : List ℕ} {a : ReadAnswer} → ReadingEnds s a → a.number ≡ 0 → (a.road ≡ road_of s) × (a.steps ≡ steps_of s)
read_parts (ReadingEnds.early k l) h = absurd (early_refused l h)
read_parts (ReadingEnds.at_place p l) h = absurd (omega arith)
read_parts (ReadingEnds.at_step t l) h = absurd (omega arith)
read_parts (ReadingEnds.clear w) h = (refl, refl)

-- the release of the cell at i in step t is within the limits of a road's ramps
abbrev ReleaseOk : List ℕ → ℕ → List ℕ → ℕ → ℕ → Type 0
ReleaseOk ramp n s t i = leb (entry_of s n t (release_number i)) (at_ramp most_rate (at ramp i)) ≡ true

read_release : (s : List ℕ) → (reading_of s).number ≡ 0 → (t i : ℕ) → t < (reading_of s).steps → i < (reading_of s).road.n
    → ReleaseOk (reading_of s).road.ramp (reading_of s).road.n s t i
unfolding row_ok
read_release s reads t i l m =
    let r = (reading_of s).road in
    let row = record_row s r.n t in
    let w = read_within_lem s (reading_of s) refl reads in
    let ok : row_ok r.ramp r.n row ≡ true = row_ok_lem r row w.road (w.row t l) in
    let all = (and_true (leb (at row 0) most_rate) (all_of (rates_at r.ramp row) r.n) ok).1 in
    let one = all_at (rates_at r.ramp row) r.n all i m in
    ap (λ (x : ℕ). leb x (at_ramp most_rate (at r.ramp i))) (sym (row_at_lem s r.n t (release_number i) (omega arith)))
    ∙ (and_true (leb (at row (2 * i + 1)) (at_ramp most_rate (at r.ramp i))) (leb (at row (2 * i + 2)) (at_ramp most_rate (at r.ramp i))) one).1

-- u has everything before the rows of the record given, and releases within its limits
pub record KeptRecord (bytes u : List ℕ) : Type 0 where
  pub size : length u ≡ length bytes
  pub version : version_of u ≡ version_of bytes
  pub head : (b : ℕ) → b < row_start (version_of bytes) (reading_of bytes).road.n 0 → at u b ≡ at bytes b
  pub release : (t i : ℕ) → t < (reading_of bytes).steps → i < (reading_of bytes).road.n
      → ReleaseOk (reading_of bytes).road.ramp (reading_of bytes).road.n u t i

module _ (bytes : List ℕ) (reads : (reading_of bytes).number ≡ 0) where
  abbrev n : ℕ
  n = (reading_of bytes).road.n

  abbrev T : ℕ
  T = (reading_of bytes).steps

  abbrev ramp : List ℕ
  ramp = (reading_of bytes).road.ramp

  parts : ((reading_of bytes).road ≡ road_of bytes) × ((reading_of bytes).steps ≡ steps_of bytes)
  parts = read_parts (read_found bytes) reads

  held : (t : ℕ) → t < (reading_of bytes).steps → HoldsRow bytes (reading_of bytes).road.n t
  held = read_row_lem bytes (reading_of bytes) refl reads

  pub kept_none : KeptRecord bytes bytes
  kept_none = record { size = refl; version = refl; head = λ b l. refl; release = read_release bytes reads }

  module _ {u : List ℕ} (h : KeptRecord bytes u) where
    -- n and T in the header, and the ramp marks, are those of the record given
    number : (i w : ℕ) → i + w ≤ 16 → number_of u i w ≡ number_of bytes i w
    number i w l = number_same u bytes i i w (λ k m. h.head (i + k) (omega arith))

    pub kept_cells : cells_of u ≡ (reading_of bytes).road.n
    kept_cells = number cells_offset 1 (omega arith) ∙ sym (ap (λ (r : Road). r.n) parts.0)

    pub kept_steps : steps_of u ≡ (reading_of bytes).steps
    kept_steps = number steps_offset short_size (omega arith) ∙ sym parts.1

    pub kept_ramp : (road_of u).ramp ≡ (reading_of bytes).road.ramp
    kept_ramp =
        ap (column_of u ramp_offset short_size) kept_cells
        ∙ fill_same (field_of u ramp_offset short_size) (field_of bytes ramp_offset short_size) n zeros
        (λ i l. rw h.version
        (number_same u bytes _ _ short_size (λ k m. h.head (16 + seconds_size (version_of bytes) + 24 * i + ramp_offset + k) (omega arith))))
        ∙ ap (column_of bytes ramp_offset short_size) (ap (λ (r : Road). r.n) parts.0)
        ∙ sym (ap (λ (r : Road). r.ramp) parts.0)

    -- if it reads, it has this n and T and these marks
    pub kept_reads : (reading_of u).number ≡ 0
        → ((reading_of u).road.n ≡ (reading_of bytes).road.n)
        × (((reading_of u).steps ≡ (reading_of bytes).steps) × ((reading_of u).road.ramp ≡ (reading_of bytes).road.ramp))
    kept_reads z =
        let q = read_parts (read_found u) z in
        (ap (λ (r : Road). r.n) q.0 ∙ kept_cells, (q.1 ∙ kept_steps, ap (λ (r : Road). r.ramp) q.0 ∙ kept_ramp))

    kept_held : (t : ℕ) → t < (reading_of bytes).steps → HoldsRow u (reading_of bytes).road.n t
    kept_held t l = holds_on h.size h.version (held t l)

    -- putting arrivals into it keeps this
    module _ (arrivals : List ℕ) (k : ℕ) where
      abbrev tables : ℕ → ℕ → ℕ
      tables t p = at (row_at (study_arrivals bytes arrivals k) (n + 1) t) p

      changed : ArrivedRows u (with_study_arrivals bytes arrivals k u) (reading_of bytes).road.n (reading_of bytes).steps
      changed = rows_put u n tables T kept_held

      pub arrived_kept : KeptRecord bytes (with_study_arrivals bytes arrivals k u)
      arrived_kept = record {
        size = changed.size ∙ h.size;
        version = changed.version ∙ h.version;
        head = λ b l. head_kept changed b (rw h.version l) ∙ h.head b l;
        release = λ t i l m.
            ap (λ (x : ℕ). leb x (at_ramp most_rate (at ramp i))) (releases_kept changed t i m) ∙ h.release t i l m;
      }

-- two such records with the same arrivals
module _ (bytes : List ℕ) (reads : (reading_of bytes).number ≡ 0) (s u : List ℕ) (hs : KeptRecord bytes s) (hu : KeptRecord bytes u)
    (gate : (t : ℕ) → t < (reading_of bytes).steps → entry_of u (reading_of bytes).road.n t 0 ≡ entry_of s (reading_of bytes).road.n t 0)
    (arrival : (t i : ℕ) → t < (reading_of bytes).steps → i < (reading_of bytes).road.n
    → entry_of u (reading_of bytes).road.n t (2 * i + 1) ≡ entry_of s (reading_of bytes).road.n t (2 * i + 1)) where
  abbrev m : ℕ
  m = (reading_of bytes).road.n

  abbrev marks : List ℕ
  marks = (reading_of bytes).road.ramp

  -- the same rows of both pass
  rates : (t i : ℕ) → t < (reading_of bytes).steps → i < m → rates_at marks (record_row u m t) i ≡ rates_at marks (record_row s m t) i
  rates t i l j =
      let f : (x : List ℕ) → KeptRecord bytes x → leb (at (record_row x m t) (2 * i + 2)) (at_ramp most_rate (at marks i)) ≡ true =
      λ x h. ap (λ (y : ℕ). leb y (at_ramp most_rate (at marks i))) (row_at_lem x m t (release_number i) (omega arith)) ∙ h.release t i l j in
      let e : at (record_row u m t) (2 * i + 1) ≡ at (record_row s m t) (2 * i + 1) =
      row_at_lem u m t (2 * i + 1) (omega arith) ∙ arrival t i l j ∙ sym (row_at_lem s m t (2 * i + 1) (omega arith)) in
      rw (e, f u hu, f s hs) refl

  rows_alike : (t : ℕ) → t < (reading_of bytes).steps → row_ok marks m (record_row u m t) ≡ row_ok marks m (record_row s m t)
  unfolding row_ok
  rows_alike t l =
      let e : at (record_row u m t) 0 ≡ at (record_row s m t) 0 =
      row_at_lem u m t 0 (omega arith) ∙ gate t l ∙ sym (row_at_lem s m t 0 (omega arith)) in
      ap (λ (x : ℕ). leb x most_rate && all_of (rates_at marks (record_row u m t)) m) e
      ∙ ap (λ (x : ℕ). leb (at (record_row s m t) 0) most_rate && eqb x m)
      (first_same (rates_at marks (record_row u m t)) (rates_at marks (record_row s m t)) m (λ i j. rates t i l j))

  row_test : (x : List ℕ) (t : ℕ) → step_ok x (road_of s) t ≡ row_ok marks m (record_row x m t)
  row_test x t =
      ap (λ (c : ℕ). row_ok (road_of s).ramp c (record_row x c t)) (kept_cells bytes reads hs)
      ∙ ap (λ (r : List ℕ). row_ok r m (record_row x m t)) (kept_ramp bytes reads hs)

  -- so they read alike
  pub kept_alike : reading_of u ≡ reading_of s
  kept_alike =
      reading_alike s u
      (λ b l.
      let e : b < row_start (version_of bytes) m 0 = rw (← hs.version, ← kept_cells bytes reads hs) l in
      hu.head b e ∙ sym (hs.head b e))
      (hu.size ∙ sym hs.size)
      (λ t l. row_test u t ∙ rows_alike t (omega (arith, kept_steps bytes reads hs)) ∙ sym (row_test s t))

-- filling such a record leaves such a record
pub filled_kept : (bytes : List ℕ) → (reading_of bytes).number ≡ 0 → {u after : List ℕ} → KeptRecord bytes u → (reading_of u).number ≡ 0 → OnlyReleases u after
    → KeptRecord bytes after
filled_kept bytes reads {u} {after} h z o =
    let q = kept_reads bytes reads h z in
    let same : (b : ℕ) → b < row_start (version_of bytes) (reading_of bytes).road.n 0 → at after b ≡ at bytes b =
    λ b l. o.byte b (λ t i _ _. inl (rw (h.version, q.0) (omega arith))) ∙ h.head b l in
    let version : version_of after ≡ version_of bytes = number_same after bytes version_offset version_offset 1 (λ k l. same (version_offset + k) (omega arith)) in
    let x : (reading_of after).number ≡ 0 = ap (λ (a : ReadAnswer). a.number) o.reads ∙ z in
    let en : (reading_of after).road.n ≡ (reading_of bytes).road.n = ap (λ (a : ReadAnswer). a.road.n) o.reads ∙ q.0 in
    let et : (reading_of after).steps ≡ (reading_of bytes).steps = ap (λ (a : ReadAnswer). a.steps) o.reads ∙ q.1.0 in
    let er : (reading_of after).road.ramp ≡ (reading_of bytes).road.ramp = ap (λ (a : ReadAnswer). a.road.ramp) o.reads ∙ q.1.1 in
    record {
      size = o.size ∙ h.size;
      version = version;
      head = same;
      release = λ t i l j.
          let f = read_release after x t i (omega arith) (omega arith) in
          ap (λ (r : List ℕ). leb (entry_of after (reading_of bytes).road.n t (release_number i)) (at_ramp most_rate (at r i))) (sym er)
          ∙ ap (λ (c : ℕ). leb (entry_of after c t (release_number i)) (at_ramp most_rate (at (reading_of after).road.ramp i))) (sym en)
          ∙ f;
    }
