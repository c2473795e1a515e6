-- The invariant of running's loop about the lent list. Assumes nothing.
use Rattle.std.specs.Prelude.{◌≡◌, List, ◌++◌, ℕ, ◌+◌, ◌-◌, ◌*◌, ◌≤◌, ◌<◌, length, take, drop}
use Rattle.std.proofs.Common.{sym, ap, ◌∙◌, arith, take-append-drop}
use Rattle.numbers.specs.TablesLaws.{row_ends, mul_more}
use Rattle.model.specs.Refusals.{FaultAnswer}
use Rattle.model.specs.declared.Road.{Road}
use Rattle.model.specs.declared.State.{State}
use Rattle.model.specs.Schedules.{Study, places, table_size, outflows_of}
use Rattle.model.specs.Move.{next_of}
use Rattle.model.specs.Stepping.{releases_of}
use Rattle.theory.specs.RunsLaws.{StudyOk}
use Rattle.model.specs.Running.{table_of}
use Rattle.theory.specs.SchedulesLaws.{run_table}
use Rattle.theory.proofs.TableLaws.{length_table, table_none, table_more}
use Rattle.theory.specs.Readable.{Readable}
use Rattle.running.specs.Steps.{FaultlessSteps, RunTurn, ran_none, ran_more, steps_all, steps_fault, row_is}

-- what running step by step requires: a record that reads, and a list that is long enough
pub record Runnable (bytes : List ℕ) (a : Study) (list : List ℕ) : Type 0 where
  pub readable : Readable bytes a
  pub long : table_size a ≤ length list

-- k steps are made: their rows are in the list, and the next goes to `to`
pub record RowsInList (a : Study) (list out : List ℕ) (u : State) (k to : ℕ) : Type 0 where
  pub ran : FaultlessSteps a u k
  pub place : to ≡ k * places a
  pub table : out ≡ table_of a list k

-- putting a part back unchanged leaves the list unchanged
pub part_back : (list : List ℕ) (from w : ℕ) {part : List ℕ} → part ≡ take (from + w - from) (drop from list)
    → take from list ++ (part ++ drop (from + w - from) (drop from list)) ≡ list
part_back list from w e =
    ap (λ (x : List ℕ). take from list ++ (x ++ drop (from + w - from) (drop from list))) e
    ∙ ap (λ (x : List ℕ). take from list ++ x) (take-append-drop (from + w - from) (drop from list))
    ∙ take-append-drop from list

module _ {a : Study} {list : List ℕ} where
  pub made_none : RowsInList a list list a.start 0 0
  made_none = record { ran = ran_none; place = omega arith; table = sym (table_none a list) }

  module _ {out : List ℕ} {u : State} {k to : ℕ} (h : RowsInList a list out u k to) where
    -- the list keeps its length
    pub same_length : StudyOk a → table_size a ≤ length list → length out ≡ length list
    same_length ok long = ap length h.table ∙ length_table a ok list k h.ran.faultless.within long

    -- the next row is within the list, and within every bound of the table
    pub row_ends_by : (most : ℕ) → table_size a ≤ most → k < a.steps → to + places a ≤ most
    row_ends_by most m l = omega (arith, row_ends k a.steps (places a) l, h.place)

    pub row_fits : StudyOk a → table_size a ≤ length list → k < a.steps → to + places a ≤ length out
    row_fits ok long l = omega (arith, row_ends_by (length list) long l, same_length ok long)

    -- all steps are made
    pub table_end : a.steps ≤ k → out ≡ run_table a list
    table_end end = h.table ∙ ap (table_of a list) (steps_all h.ran end)

    module _ {q : Road} {row : List ℕ} (t : RunTurn a u k q row) {f : FaultAnswer} (e : f ≡ releases_of q u row) where
      -- a fault leaves the rows before it
      pub table_fault_lem : (f.number ≡ 0 → ⊥) → out ≡ run_table a list
      table_fault_lem n = h.table ∙ ap (table_of a list) (steps_fault t e n)

      -- without a fault one more step is made
      pub made_more : f.number ≡ 0 → {v : State} {part : List ℕ} → v ≡ next_of q u row (outflows_of q u row) → part ≡ outflows_of q u row
          → RowsInList a list (take to out ++ (part ++ drop (to + places a - to) (drop to out))) v (k + 1) (to + places a)
      made_more z {v} {part} ev ep = record {
        ran = ran_more t e z ev;
        place = omega (arith, h.place, mul_more k (places a));
        table = table_more a t.ok list k out part to h.table (row_is t ep) h.place;
      }
