-- In the loop of `outflows::lent::releases` the releases of the first i cells fit, and their rooms are stored.
use Rattle.std.proofs.Common.{◌≡◌, ◌-◌, ◌≤◌, List, ℕ, length}
use Rattle.numbers.specs.FirstLaws.{Faultless}
use Rattle.model.specs.declared.Road.{Road}
use Rattle.model.specs.Stepping.{release_fault_at}
use Rattle.outflows.specs.declared.Ledger.{Ledger}
use Rattle.outflows.specs.Columns.{with_supplies, state_of}
use Rattle.outflows.specs.Rooms.{RoomsSoFar}
use Rattle.outflows.proofs.lent.releases.Given as goal

abbrev pub invariant-loop-i : goal.invariant-loop-i
invariant-loop-i l = record {
  within : l.i ≤ l.n;
  long : length l.room ≡ 64;
  faultless : (r : Road) (g : Ledger) (cumulative : List ℕ) →
      Faultless (release_fault_at (with_supplies r l.n l.wave l.jam l.capacity) (state_of g l.held l.queue cumulative) l.row) l.n l.i;
  roomed : (r : Road) (g : Ledger) (cumulative : List ℕ) →
      RoomsSoFar (with_supplies r l.n l.wave l.jam l.capacity) (state_of g l.held l.queue cumulative) l.row l.initial.room l.room l.i;
}

abbrev pub decreases-loop-i : goal.decreases-loop-i
decreases-loop-i l = l.n - l.i
