-- Each study in filling: the record given with the study's arrivals; the releases that the studies before have left don't matter. Assumes nothing.
use Rattle.std.specs.Prelude.{◌≡◌, refl, length}
use Rattle.std.proofs.Common.{sym, ◌∙◌, ⊎_elim, arith, ne_eqb}
use Rattle.std.proofs.Math.Path.{ap}
use mathlib.Core.List.{List}
use Prim.Native.Nat.{ℕ, zero, suc, ◌+◌, ◌*◌, ◌≤◌, ◌<◌}
use Rattle.std.proofs.Math.ListN.{get_or-eq_default}
use Rattle.model.specs.Numbers.{at, row_at}
use Rattle.numbers.specs.Tests.{fault_elim, order}
use Rattle.numbers.specs.RowsLaws.{length_fill}
use Rattle.numbers.specs.Zeros.{length_zeros}
use Rattle.model.specs.declared.Law.{Law}
use Rattle.model.specs.Record.{version_of, entry_of, record_row}
use Rattle.fields.specs.FieldsLaws.{length_row, row_at_lem}
use Rattle.model.specs.Flow.{arrivals_at}
use Rattle.model.specs.Reading.{ReadAnswer, reading_of, study_of}
use Rattle.reading.specs.Within.{read_row_lem}
use Rattle.theory.specs.VersionUnread.{with_version}
use Rattle.model.specs.Running.{EndAnswer}
use Rattle.model.specs.Longest.{Queues, longest_of, longest_fill}
use Rattle.model.specs.Filling.{filling_of, record_after, filled_list}
use Rattle.filling.specs.FillingAgain.{SameArrivals, filled_openable_by}
use Rattle.filling.specs.Theorems.{only_releases}
use Rattle.model.specs.Many.{arrival_number, with_arrivals, arrivals_size, study_arrivals, with_study_arrivals, study_record, entry_size, answer_entry}
use Rattle.model.specs.Many.{fill_entry, list_after_fillings, record_after_fillings}
use Rattle.many.specs.Arrivals.{arrivals_same}
use Rattle.many.specs.Studies.{Studies, length_entry}
use Rattle.many.specs.RunStudies.{arrived_is}
use Rattle.many.specs.KeptRecord.{KeptRecord, kept_none, arrived_kept, kept_reads, kept_alike, filled_kept}
use Rattle.many.specs.FilledAlike.{fills_alike, queues_alike, lists_alike, room_same, room_queues, room_record}

-- a record that the studies before have left, with the arrivals of study k, compared with that study
module _ (bytes arrivals : List ℕ) (reads : (reading_of bytes).number ≡ 0) {u : List ℕ} (h : KeptRecord bytes u) (k : ℕ) where
  abbrev n : ℕ
  n = (reading_of bytes).road.n

  abbrev s : List ℕ
  s = study_record bytes arrivals k

  abbrev v : List ℕ
  v = with_study_arrivals bytes arrivals k u

  study_kept : KeptRecord bytes (study_record bytes arrivals k)
  study_kept = arrived_kept bytes reads (kept_none bytes reads) arrivals k

  put_kept : KeptRecord bytes (with_study_arrivals bytes arrivals k u)
  put_kept = arrived_kept bytes reads h arrivals k

  place : (t p : ℕ) → t < (reading_of bytes).steps → p < n + 1 → entry_of v n t (arrival_number p) ≡ entry_of s n t (arrival_number p)
  place =
      arrivals_same bytes u n (λ t p. at (row_at (study_arrivals bytes arrivals k) (n + 1) t) p) (reading_of bytes).steps h.size h.version
      (read_row_lem bytes (reading_of bytes) refl reads)

  gate : (t : ℕ) → t < (reading_of bytes).steps → entry_of v n t 0 ≡ entry_of s n t 0
  gate t l = place t 0 l (omega arith)

  arrival : (t i : ℕ) → t < (reading_of bytes).steps → i < n → entry_of v n t (2 * i + 1) ≡ entry_of s n t (2 * i + 1)
  arrival t i l m =
      let e : arrival_number (i + 1) ≡ 2 * i + 1 = omega arith in
      ap (entry_of v n t) (sym e) ∙ place t (i + 1) l (omega arith) ∙ ap (entry_of s n t) e

  pub studies_alike : reading_of (with_study_arrivals bytes arrivals k u) ≡ reading_of (study_record bytes arrivals k)
  studies_alike = kept_alike bytes reads s v study_kept put_kept gate arrival

  -- the arrivals are the same, past the last cell too
  row_arrivals : (t i : ℕ) → t < (reading_of bytes).steps → arrivals_at (record_row v n t) i ≡ arrivals_at (record_row s n t) i
  row_arrivals t i l = ⊎_elim
      (λ (m : n ≤ i).
      get_or-eq_default (record_row v n t) 0 (omega (arith, length_row v n t)) ∙ sym (get_or-eq_default (record_row s n t) 0 (omega (arith, length_row s n t))))
      (λ (m : i < n). row_at_lem v n t (2 * i + 1) (omega arith) ∙ arrival t i l m ∙ sym (row_at_lem s n t (2 * i + 1) (omega arith)))
      (order n i)

  pub studies_same : (lanes : List ℕ) → (reading_of (study_record bytes arrivals k)).number ≡ 0
      → SameArrivals (study_of (study_record bytes arrivals k) lanes) (study_of (with_study_arrivals bytes arrivals k u) lanes)
  studies_same lanes z =
      let q = kept_reads bytes reads study_kept z in
      let es : (reading_of s).road.n ≡ n = q.0 in
      let ev : (reading_of v).road.n ≡ n = ap (λ (x : ReadAnswer). x.road.n) studies_alike ∙ q.0 in
      record {
        road = ap (λ (x : ReadAnswer). with_version (reading_of v).road.version (reading_of v).road.seconds x.road) studies_alike;
        start = ap (λ (x : ReadAnswer). x.state) studies_alike;
        steps = ap (λ (x : ReadAnswer). x.steps) studies_alike;
        lanes = refl;
        size = λ t l. length_row v (reading_of v).road.n t ∙ omega (arith, es, ev, length_row s (reading_of s).road.n t);
        gate = λ t l.
            ap (λ (m : ℕ). at (record_row v m t) 0) ev
            ∙ row_at_lem v n t 0 (omega arith)
            ∙ gate t (omega (arith, q.1.0))
            ∙ sym (row_at_lem s n t 0 (omega arith))
            ∙ sym (ap (λ (m : ℕ). at (record_row s m t) 0) es);
        arrivals = λ t i l.
            ap (λ (m : ℕ). at (record_row v m t) (2 * i + 1)) ev
            ∙ row_arrivals t i (omega (arith, q.1.0))
            ∙ sym (ap (λ (m : ℕ). at (record_row s m t) (2 * i + 1)) es);
      }

fill_ramps : (laws : List Law) (s lanes list : List ℕ) → length (longest_fill laws s lanes list).ramps ≡ 64
unfolding longest_fill longest_of
fill_ramps laws s lanes list = length_fill _ (study_of s lanes).road.n _ ∙ length_zeros

pub fill_numbers : (laws : List Law) (bytes lanes arrivals list : List ℕ) (k : ℕ) → length (fill_entry laws bytes lanes arrivals list k) ≡ entry_size
fill_numbers laws bytes lanes arrivals list k =
    let s = study_record bytes arrivals k in
    length_entry (filling_of laws s lanes list) (longest_fill laws s lanes list) (fill_ramps laws s lanes list)

-- the loop over studies
module _ (laws : List Law) {bytes arrivals : List ℕ} {n T count : ℕ} {answers : List ℕ} (studies : Studies bytes arrivals n T count answers) (lanes list : List ℕ) where
  abbrev left : ℕ → List ℕ
  left k = record_after_fillings laws bytes lanes arrivals list k

  -- the record that k studies leave
  pub left_kept : (k : ℕ) → KeptRecord bytes (record_after_fillings laws bytes lanes arrivals list k)
  unfolding record_after_fillings record_after
  left_kept zero = kept_none bytes studies.reads
  left_kept (suc k) =
      let v = with_study_arrivals bytes arrivals k (left k) in
      let h : KeptRecord bytes v = arrived_kept bytes studies.reads (left_kept k) arrivals k in
      let e = filling_of laws v lanes list in
      fault_elim e.number
      (λ d. rw (ne_eqb e.number 0 d) h)
      (λ z. filled_kept bytes studies.reads h (filled_openable_by laws v lanes list z).reads (only_releases laws v lanes list))

  module _ (k : ℕ) {after : List ℕ} (e : after ≡ record_after_fillings laws bytes lanes arrivals list k) where
    pub left_size : length after ≡ length bytes
    left_size = ap length e ∙ (left_kept k).size

    pub left_version : version_of after ≡ version_of bytes
    left_version = ap version_of e ∙ (left_kept k).version

    -- the record that is filled
    pub left_arrived : {table s : List ℕ} → table ≡ row_at arrivals (arrivals_size n T) k → s ≡ with_arrivals after n T table
        → s ≡ with_study_arrivals bytes arrivals k (record_after_fillings laws bytes lanes arrivals list k)
    left_arrived et es = es ∙ ap (with_arrivals after n T) et ∙ arrived_is studies k after ∙ ap (with_study_arrivals bytes arrivals k) e

  -- its answer, record and list
  module _ (k : ℕ) (out : List ℕ) (size : length out ≡ length list) {s : List ℕ}
      (es : s ≡ with_study_arrivals bytes arrivals k (record_after_fillings laws bytes lanes arrivals list k)) where
    abbrev study : List ℕ
    study = study_record bytes arrivals k

    abbrev found : List ℕ
    found = with_study_arrivals bytes arrivals k (left k)

    alike : reading_of found ≡ reading_of study
    alike = studies_alike bytes arrivals studies.reads (left_kept k) k

    same : (reading_of study).number ≡ 0 → SameArrivals (study_of study lanes) (study_of found lanes)
    same = studies_same bytes arrivals studies.reads (left_kept k) k lanes

    pub fill_entry_lem : {e : EndAnswer} {q : Queues} → e ≡ filling_of laws s lanes out → q ≡ longest_fill laws s lanes out
        → answer_entry e q ≡ fill_entry laws bytes lanes arrivals list k
    fill_entry_lem {q = q} ee eq =
        ap (λ (x : EndAnswer). answer_entry x q) (ee ∙ room_same laws s lanes list out size)
        ∙ ap (answer_entry (filling_of laws s lanes list)) (eq ∙ room_queues laws s lanes list out size)
        ∙ ap (λ (x : List ℕ). answer_entry (filling_of laws x lanes list) (longest_fill laws x lanes list)) es
        ∙ ap (λ (x : EndAnswer). answer_entry x (longest_fill laws found lanes list)) (fills_alike laws lanes study found alike same list)
        ∙ ap (answer_entry (filling_of laws study lanes list)) (queues_alike laws lanes study found alike same list)

    pub left_more : {next : List ℕ} → next ≡ record_after laws s lanes out → next ≡ record_after_fillings laws bytes lanes arrivals list (suc k)
    unfolding record_after_fillings
    left_more en = en ∙ room_record laws s lanes list out size ∙ ap (λ (x : List ℕ). record_after laws x lanes list) es

    pub lists_more : out ≡ list_after_fillings laws bytes lanes arrivals list k → {next : List ℕ} → next ≡ filled_list laws s lanes out
        → next ≡ list_after_fillings laws bytes lanes arrivals list (suc k)
    unfolding list_after_fillings
    lists_more eo en =
        en
        ∙ ap (λ (x : List ℕ). filled_list laws x lanes out) es
        ∙ lists_alike laws lanes study found alike same out
        ∙ ap (filled_list laws study lanes) eo

pub filled_none : (laws : List Law) (bytes lanes arrivals list : List ℕ) → bytes ≡ record_after_fillings laws bytes lanes arrivals list 0
unfolding record_after_fillings
filled_none laws bytes lanes arrivals list = refl

pub lists_none : (laws : List Law) (bytes lanes arrivals list : List ℕ) → list ≡ list_after_fillings laws bytes lanes arrivals list 0
unfolding list_after_fillings
lists_none laws bytes lanes arrivals list = refl
