-- Each study in running: the record given with its arrivals; the record and list that the studies before have left don't matter. Assumes nothing.
use Rattle.std.specs.Prelude.{◌≡◌, List, leb, length}
use Rattle.std.proofs.Math.Path.{refl, ap}
use Rattle.std.proofs.Common.{◌∙◌}
use Prim.Native.Nat.{ℕ, zero, suc, ◌+◌, ◌<◌}
use Rattle.model.specs.Numbers.{at, unless, row_at}
use Rattle.numbers.specs.RowsLaws.{length_fill}
use Rattle.numbers.specs.Zeros.{length_zeros}
use Rattle.model.specs.Schedules.{engine_after, table_size}
use Rattle.model.specs.Record.{version_of}
use Rattle.fields.specs.FieldsLaws.{HoldsRow}
use Rattle.model.specs.Reading.{reading_of, study_of}
use Rattle.reading.specs.Within.{read_row_lem}
use Rattle.model.specs.Running.{EndAnswer, no_state, run_end, unless_opened, steps_made, running_of, list_after}
use Rattle.model.specs.Longest.{Queues, longest_of, longest_run}
use Rattle.model.specs.Many.{with_arrivals, arrivals_size, study_arrivals, with_study_arrivals, study_record}
use Rattle.model.specs.Many.{entry_size, answer_entry, run_entry, list_after_runs, record_after_runs}
use Rattle.many.specs.Arrivals.{ArrivedRows, rows_put, arrived_again}
use Rattle.many.specs.Studies.{Studies, length_entry}

-- running uses only the length of the list
module _ (s lanes list out : List ℕ) (e : length out ≡ length list) where
  runs_alike : running_of s lanes out ≡ running_of s lanes list
  unfolding running_of
  runs_alike = ap (λ (m : ℕ). unless_opened s lanes (unless (leb (table_size (study_of s lanes)) m) (no_state 11 0) (run_end (study_of s lanes)))) e

  longest_alike : longest_run s lanes out ≡ longest_run s lanes list
  unfolding longest_run
  longest_alike =
      ap (λ (x : EndAnswer). longest_of (study_of s lanes).road.n (engine_after (study_of s lanes)) (steps_made (study_of s lanes) x)) runs_alike

longest_ramps : (s lanes list : List ℕ) → length (longest_run s lanes list).ramps ≡ 64
unfolding longest_run longest_of
longest_ramps s lanes list = length_fill _ (study_of s lanes).road.n _ ∙ length_zeros

pub run_numbers : (bytes lanes arrivals list : List ℕ) (k : ℕ) → length (run_entry bytes lanes arrivals list k) ≡ entry_size
run_numbers bytes lanes arrivals list k =
    let s = study_record bytes arrivals k in
    length_entry (running_of s lanes list) (longest_run s lanes list) (longest_ramps s lanes list)

-- the entry of a study, from any record and list that equal its own
pub run_entry_lem : (bytes lanes arrivals list : List ℕ) (k : ℕ) (out : List ℕ) {s : List ℕ} {e : EndAnswer} {q : Queues} → s ≡ study_record bytes arrivals k
    → length out ≡ length list → e ≡ running_of s lanes out → q ≡ longest_run s lanes out → answer_entry e q ≡ run_entry bytes lanes arrivals list k
run_entry_lem bytes lanes arrivals list k out {s} {e} {q} es eo ee eq =
    ap (λ (x : EndAnswer). answer_entry x q) (ee ∙ runs_alike s lanes list out eo)
    ∙ ap (answer_entry (running_of s lanes list)) (eq ∙ longest_alike s lanes list out eo)
    ∙ ap (λ (x : List ℕ). answer_entry (running_of x lanes list) (longest_run x lanes list)) es

-- the code's slice of the arrivals, put into any record
pub arrived_is : {bytes arrivals : List ℕ} {n T count : ℕ} {answers : List ℕ} → Studies bytes arrivals n T count answers → (k : ℕ) (s : List ℕ)
    → with_arrivals s n T (row_at arrivals (arrivals_size n T) k) ≡ with_study_arrivals bytes arrivals k s
arrived_is {bytes} {arrivals} {n} {T} studies k s =
    ap (λ (m : ℕ). with_arrivals s m T (row_at arrivals (arrivals_size m T) k)) studies.cells
    ∙ ap (λ (m : ℕ). with_arrivals s (reading_of bytes).road.n m (row_at arrivals (arrivals_size (reading_of bytes).road.n m) k)) studies.steps

-- the record after k studies
module _ (bytes arrivals : List ℕ) (reads : (reading_of bytes).number ≡ 0) where
  abbrev n : ℕ
  n = (reading_of bytes).road.n

  abbrev T : ℕ
  T = (reading_of bytes).steps

  abbrev tables : ℕ → ℕ → ℕ → ℕ
  tables k t p = at (row_at (study_arrivals bytes arrivals k) (n + 1) t) p

  held : (t : ℕ) → t < (reading_of bytes).steps → HoldsRow bytes (reading_of bytes).road.n t
  held = read_row_lem bytes (reading_of bytes) refl reads

  -- it differs from the record given only in its arrivals
  pub ran_kept : (k : ℕ) → ArrivedRows bytes (record_after_runs bytes arrivals k) (reading_of bytes).road.n (reading_of bytes).steps
  unfolding record_after_runs
  ran_kept zero = record { size = refl; version = refl; byte = λ b o. refl }
  ran_kept (suc k) = rows_put bytes n (tables k) T held

  -- so with the arrivals of the next study it is that study
  pub ran_next : (k : ℕ) → with_study_arrivals bytes arrivals k (record_after_runs bytes arrivals k) ≡ study_record bytes arrivals k
  unfolding record_after_runs
  ran_next zero = refl
  ran_next (suc k) = arrived_again bytes n (tables k) (tables (suc k)) T held

-- the record in the loop: it has the size and version of the record given, and is the next study once the next table is put
module _ {bytes arrivals : List ℕ} {n T count : ℕ} {answers : List ℕ} (studies : Studies bytes arrivals n T count answers) (k : ℕ) {after : List ℕ}
    (e : after ≡ record_after_runs bytes arrivals k) where
  pub ran_size : length after ≡ length bytes
  ran_size = ap length e ∙ (ran_kept bytes arrivals studies.reads k).size

  pub ran_version : version_of after ≡ version_of bytes
  ran_version = ap version_of e ∙ (ran_kept bytes arrivals studies.reads k).version

  pub ran_study : {table s : List ℕ} → table ≡ row_at arrivals (arrivals_size n T) k → s ≡ with_arrivals after n T table → s ≡ study_record bytes arrivals k
  ran_study et es =
      es
      ∙ ap (with_arrivals after n T) et
      ∙ arrived_is studies k after
      ∙ ap (with_study_arrivals bytes arrivals k) e
      ∙ ran_next bytes arrivals studies.reads k

-- one more study, for the record and for the list
pub ran_more : (bytes arrivals : List ℕ) (k : ℕ) {s : List ℕ} → s ≡ study_record bytes arrivals k → s ≡ record_after_runs bytes arrivals (suc k)
unfolding record_after_runs
ran_more bytes arrivals k e = e

pub list_none : (bytes lanes arrivals list : List ℕ) → list ≡ list_after_runs bytes lanes arrivals list 0
unfolding list_after_runs
list_none bytes lanes arrivals list = refl

pub record_none : (bytes arrivals : List ℕ) → bytes ≡ record_after_runs bytes arrivals 0
unfolding record_after_runs
record_none bytes arrivals = refl

pub list_more : (bytes lanes arrivals list : List ℕ) (k : ℕ) {s out next : List ℕ} → s ≡ study_record bytes arrivals k
    → out ≡ list_after_runs bytes lanes arrivals list k → next ≡ list_after s lanes out → next ≡ list_after_runs bytes lanes arrivals list (suc k)
unfolding list_after_runs
list_more bytes lanes arrivals list k {out = out} es eo en =
    en ∙ ap (λ (x : List ℕ). list_after x lanes out) es ∙ ap (list_after (study_record bytes arrivals k) lanes) eo
