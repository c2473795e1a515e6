-- Cumulative supply is monotone: k more parts in a cell reduce its supply by at most k. Assumes nothing.
use Rattle.std.proofs.Common.{ℕ, ◌+◌, ◌≤◌, le_refl}
use Rattle.model.specs.Flow.{whole, supply_of}
use Rattle.flow.specs.FlowLaws.{supply_wider}

pub supply_mono : (w c j hs ht k : ℕ) → w ≤ whole → hs ≤ ht + k → supply_of w c j ht ≤ supply_of w c j hs + k
supply_mono w c j hs ht k h l = supply_wider w w c c j j hs ht k (le_refl w) h (le_refl c) (le_refl j) l
