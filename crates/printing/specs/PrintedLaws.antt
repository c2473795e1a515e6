-- What is printed is running's answer with the empty table of lanes and any list that is long enough; and what is printed for a caller with its
-- own limits. Assumes nothing.
use mathlib.Core.List.{List, []}
use Rattle.std.specs.Prelude.{ℕ, ◌≤◌, ◌<◌, ◌≡◌, Bool, length}
use Rattle.std.proofs.Math.Path.{refl, ap}
use Rattle.std.proofs.Math.Bool.{true, false}
use Rattle.std.proofs.Common.{arith}
use Rattle.std.proofs.Math.Dec.{eqb}
use borrow.Author.Tests.{eqb-true, eqb-false, eq-eqb, ne_eqb}
use Rattle.model.specs.Road.{most_cells, most_bytes}
use Rattle.model.specs.Listing.{printed_within, most_outflows, refused_line, printed_end, printed_run}
use Rattle.model.specs.Numbers.{unless}
use Rattle.model.specs.Schedules.{outflows_at, proposed_at}
use Rattle.model.specs.Reading.{cells_of, ReadAnswer, reading_within, reading_of, study_of}
use Rattle.reading.specs.Caller.{Beyond, beyond_refused, within_other, within_kept, within_accepted}
use Rattle.reading.specs.Table.{read_table}
use Rattle.model.specs.Running.{steps_made, running_of, list_after}
use Rattle.theory.proofs.TableLaws.{table_row}
use Rattle.theory.proofs.RunEnds.{runs_refused, runs_long}
use Rattle.theory.specs.Readable.{readable_open, openable_empty}

-- the text with only the model's limits
abbrev pub printed_of : List ℕ → List ℕ
printed_of bytes = printed_within most_cells most_bytes bytes

module _ (bytes list : List ℕ) (long : most_outflows ≤ length list) where
  pub printed_runs : printed_of bytes ≡ printed_end (study_of bytes []) (running_of bytes [] list)
  unfolding printed_within printed_run
  printed_runs = go (eqb (reading_of bytes).number 0) refl
    where
      go : (b : Bool) → eqb (reading_of bytes).number 0 ≡ b → printed_of bytes ≡ printed_end (study_of bytes []) (running_of bytes [] list)
      go true e =
          let z = eqb-true (reading_of bytes).number 0 e in
          rw (runs_long bytes [] (openable_empty bytes z) list (omega (arith, read_table bytes (reading_of bytes) refl z)), eq-eqb (reading_of bytes).number 0 z)
      go false e =
          let n = eqb-false (reading_of bytes).number 0 e in
          rw (runs_refused bytes [] n list, ne_eqb (reading_of bytes).number 0 n)

  -- the outflows in its lines are the rows that running writes
  pub printed_rows : (reading_of bytes).number ≡ 0 → (k : ℕ) → k < steps_made (study_of bytes []) (running_of bytes [] list)
      → proposed_at (study_of bytes []) (list_after bytes [] list) k ≡ outflows_at (study_of bytes []) k
  unfolding list_after
  printed_rows z k l = table_row (study_of bytes []) (readable_open bytes (reading_of bytes) refl z).ok list (steps_made (study_of bytes []) (running_of bytes [] list)) k l

-- what is printed if reading answers x
abbrev printed_by : ReadAnswer → List ℕ → List ℕ
printed_by x bytes = unless (eqb x.number 0) (refused_line x.number 0 x.place) (printed_run (study_of bytes []))

module _ (cells most : ℕ) (bytes : List ℕ) where
  -- if the caller's limits don't refuse the record, the text is the full program's
  printed_same : reading_within cells most bytes ≡ reading_of bytes → printed_within cells most bytes ≡ printed_of bytes
  unfolding printed_within
  printed_same e = ap (λ (x : ReadAnswer). printed_by x bytes) e

  pub printed_other : ((reading_within cells most bytes).number ≡ 26 → ⊥) → printed_within cells most bytes ≡ printed_of bytes
  printed_other h = printed_same (within_other bytes cells most h)

  -- so it is for every record within them
  pub printed_kept : cells_of bytes ≤ cells → length bytes ≤ most → printed_within cells most bytes ≡ printed_of bytes
  printed_kept h k = printed_same (within_kept bytes cells most h k)

  -- and for every record that they accept
  pub printed_accepted : (reading_within cells most bytes).number ≡ 0 → printed_within cells most bytes ≡ printed_of bytes
  printed_accepted h = printed_same (within_accepted bytes cells most h)

  -- if they refuse it, only the line of 26 is printed
  pub printed_beyond : Beyond cells most bytes → printed_within cells most bytes ≡ refused_line 26 0 0
  unfolding printed_within
  printed_beyond b = ap (λ (x : ReadAnswer). printed_by x bytes) (beyond_refused bytes cells most b)
