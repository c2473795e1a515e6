-- The releases of the first j listed cells are granted, put and stored.
use Rattle.std.proofs.Common.{◌≡◌, List, ℕ, ◌≤◌, ◌-◌, length}
use Rattle.model.specs.declared.Road.{Road}
use Rattle.model.specs.declared.Law.{Law}
use Rattle.model.specs.Record.{record_row}
use Rattle.model.specs.Filling.{granted_at}
use Rattle.outflows.specs.declared.Ledger.{Ledger}
use Rattle.ramps.specs.Grants.{meter_in, GrantRequires, GrantSoFar}
use Rattle.ramps.proofs.grant.Given as goal

abbrev pub invariant-loop-j : goal.invariant-loop-j
invariant-loop-j l = record {
  within : l.j ≤ l.ramps;
  columns : length l.work ≡ 5;
  granted : (laws : List Law) (r : Road) (g : Ledger) (releases entries : List ℕ) (k : ℕ)
      → GrantRequires laws r (meter_in g l.state releases entries) l.fn.bytes k l.start l.ramps l.cell l.kinds l.numbers l.fn.work
      → GrantSoFar (granted_at laws r (meter_in g l.state releases entries) (record_row l.fn.bytes r.n k)) r (meter_in g l.state releases entries)
      l.fn.bytes k l.ramps l.cell l.fn.work l.bytes l.work l.j;
}

abbrev pub decreases-loop-j : goal.decreases-loop-j
decreases-loop-j l = l.ramps - l.j
