-- Theorem about joining and running: the joined record runs under every table of lanes for its cells and steps, and demand 3 holds for it. Assumes nothing.
use Rattle.std.specs.Prelude.{◌≡◌, List, [], ℕ, ◌+◌}
use Rattle.std.proofs.Common.{ap}
use Rattle.model.specs.Reading.{ReadAnswer, reading_of}
use Rattle.model.specs.Stepping.{table_fault}
use Rattle.model.specs.Joining.{joining_of}
use Rattle.joining.specs.Theorems.{joined_bytes, joined_reads}
use Rattle.model.specs.Running.{running_of, list_after}
use Rattle.theory.specs.Readable.{openable_empty}
use Rattle.model.specs.Demand.{Openable, DemandAndGrounds}
use Rattle.theory.proofs.DemandWhole.{demand_and_grounds}

module _ (up down : List ℕ) (share : ℕ) (target : List ℕ) (joined : (joining_of up down share target).number ≡ 0) where
  -- with the empty table no refusal applies
  pub joined_open : Openable (joined_bytes up down share target) []
  joined_open = openable_empty (joined_bytes up down share target) (ap (λ (x : ReadAnswer). x.number) (joined_reads up down share target joined))

  -- nor with a table for T steps and the cells of both
  pub joined_openable : (lanes : List ℕ) → (table_fault lanes ((reading_of up).road.n + (reading_of down).road.n) (reading_of up).steps).number ≡ 0
      → Openable (joined_bytes up down share target) lanes
  joined_openable lanes h = record {
    reads = ap (λ (x : ReadAnswer). x.number) (joined_reads up down share target joined);
    opens = rw (joined_reads up down share target joined) h;
  }

  -- demand 3 holds for it
  pub joined_promised : (lanes : List ℕ) → Openable (joined_bytes up down share target) lanes → (list : List ℕ)
      → DemandAndGrounds (joined_bytes up down share target) lanes (list_after (joined_bytes up down share target) lanes list)
      (running_of (joined_bytes up down share target) lanes list)
  joined_promised lanes openable list = demand_and_grounds (joined_bytes up down share target) lanes openable list
