-- Bounds of weighted counts, so that their sums fit a machine number. Assumes nothing.
use Rattle.std.specs.Prelude.{ℕ, ◌*◌}
use Rattle.model.specs.Road.{most_steps}

-- a count of 32 bits times a weight of one byte
abbrev pub most_product : ℕ
most_product = 1095216660225

-- weighted present of 64 cells: the gate, 64 held counts and 64 queues
abbrev pub most_weighted_present : ℕ
most_weighted_present = 129 * most_product

-- the same over 1,440 steps
abbrev pub most_weighted_total : ℕ
most_weighted_total = most_steps * most_weighted_present
