-- A search by halves: a number up to `most` lies between two others, which close in on it. Assumes nothing.
use Rattle.std.specs.Prelude.{◌≡◌, ℕ, ◌-◌, ◌≤◌, ◌<◌}
use Rattle.std.proofs.Common.{le_refl, arith}

pub record Between (x most low high : ℕ) : Type 0 where
  pub least : low ≤ x
  pub above : x ≤ high
  pub within : high ≤ most

pub between_none : {x most : ℕ} → x ≤ most → Between x most 0 most
between_none {most = most} l = record { least = omega arith; above = l; within = le_refl most }

module _ {x most low high : ℕ} (h : Between x most low high) where
  -- a middle that is at most the number becomes the lower bound
  pub between_fits : {middle : ℕ} → middle ≤ x → Between x most middle high
  between_fits l = record { least = l; above = h.above; within = h.within }

  -- if a middle is above the number, middle - 1 becomes the upper bound
  pub between_above : {middle : ℕ} → middle ≤ high → x < middle → Between x most low (middle - 1)
  between_above m l = record { least = h.least; above = omega arith; within = omega (arith, h.within) }

  pub between_end : high ≤ low → low ≡ x
  between_end l = omega (arith, h.least, h.above)
