-- The code's test of the release at a cell. Assumes nothing.
use Rattle.std.specs.Prelude.{◌≡◌, List, ℕ, ◌+◌}
use Rattle.model.specs.Flow.{supply_of}
use Rattle.model.specs.declared.Road.{Road}
use Rattle.model.specs.declared.State.{State}
use Rattle.model.specs.Numbers.{at}
use Rattle.model.specs.Flow.{arrivals_at, release_at, capacity_at, most_release_at}
use Rattle.model.specs.Stepping.{release_fault, release_fault_at}

-- the fault at a cell, from the supply and the greatest release that the code computes and the number of its refusal
pub release_found : (r : Road) (s : State) (row : List ℕ) (i : ℕ) {supply most m : ℕ}
    → supply ≡ supply_of (at r.wave i) (at r.capacity i) (at r.jam i) (at s.held i) → most ≡ at s.queue i + arrivals_at row i
    → m ≡ release_fault (release_at row i) most supply → m ≡ release_fault_at r s row i
unfolding capacity_at most_release_at
release_found r s row i es em e = rw (es, em) at e
