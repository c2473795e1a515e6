-- Laws of an array of zeros. Assumes nothing.
use Rattle.std.specs.Prelude.{◌≡◌, refl, ℕ, zero, suc, replicate, length}
use Rattle.std.proofs.lemmas.List.{length-replicate}
use Rattle.model.specs.Numbers.{at}
use Rattle.model.specs.Road.{most_cells, zeros}

-- every entry of a list of zeros is 0
pub zero_at : (n i : ℕ) → at (replicate n 0) i ≡ 0
zero_at zero i = refl
zero_at (suc n) zero = refl
zero_at (suc n) (suc i) = zero_at n i

pub length_zeros : length zeros ≡ most_cells
length_zeros = length-replicate {A = ℕ} most_cells 0

-- entries past its end are 0 too
pub zeros_at : (i : ℕ) → at zeros i ≡ 0
zeros_at i = zero_at most_cells i
