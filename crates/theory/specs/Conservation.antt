-- Conservation: start plus arrivals equals present plus exits, after a step with any row that obeys the rules. Assumes nothing.
use Rattle.std.specs.Prelude.{List, ℕ, ◌+◌}
use Rattle.model.specs.Numbers.{sum_of, list_of}
use Rattle.model.specs.declared.Road.{Road}
use Rattle.model.specs.Flow.{gate_arrivals, arrivals_at}

-- all arrivals of a step, at the gate and at the ramps
unfoldable pub arrivals_of : Road → List ℕ → ℕ
arrivals_of r row = gate_arrivals row + sum_of (list_of (arrivals_at row) r.n)
