-- Laws of vehicle-seconds: a product divided by 1,000, in whole vehicles and a rest. Assumes nothing.
use Rattle.std.specs.Prelude.{◌≡◌, refl, [], ◌∷◌, ℕ, ◌+◌, ◌-◌, ◌*◌, ◌/◌, ◌%◌, ◌^◌, min, ◌≤◌, ◌<◌}
use Rattle.std.proofs.Common.{ap, ◌∙◌, add-mul, mul_assoc, mul-le-mul, le-div_iff_mul-le}
use native.Mathlib.Omega.{arith}
use Rattle.model.specs.Road.{most_long}
use Rattle.model.specs.Words.{vehicle_seconds}

-- 33,098 part-steps of 20 seconds are 661.96 vehicle-seconds, rounded down to 661; of 900 seconds 29,788.2; 999 part-steps of 1 second give 0
pub on_paper : vehicle_seconds 33098 20 ∷ vehicle_seconds 33098 900 ∷ vehicle_seconds 999 1 ∷ [] ≡ 661 ∷ 29788 ∷ 0 ∷ []
unfolding vehicle_seconds
on_paper = refl

-- 2 ^ 64 − 1 part-steps of 1,001 seconds exceed 64 bits
pub at_most : min (vehicle_seconds most_long 1001) most_long ≡ most_long
unfolding vehicle_seconds
at_most = refl

module _ (total seconds : ℕ) where
  -- the product, in whole vehicles and a rest
  by_parts : total * seconds ≡ 1000 * (total / 1000 * seconds) + total % 1000 * seconds
  by_parts =
      let e : total ≡ 1000 * (total / 1000) + total % 1000 = omega arith in
      ap (λ (x : ℕ). x * seconds) e
      ∙ add-mul (1000 * (total / 1000)) (total % 1000) seconds
      ∙ ap (λ (x : ℕ). x + total % 1000 * seconds) (mul_assoc 1000 (total / 1000) seconds)

  pub rest_fits : seconds < 2 ^ 16 → total % 1000 * seconds ≤ 999 * 65535
  rest_fits l =
      let m : total % 1000 ≤ 999 = omega arith in
      let k : seconds ≤ 65535 = omega arith in
      mul-le-mul m k

  pub no_seconds_lem : seconds ≡ 0 → 0 ≡ min (vehicle_seconds total seconds) most_long
  unfolding vehicle_seconds
  no_seconds_lem e = rw e (omega arith)

  module _ {rest : ℕ} (r : rest ≡ total % 1000 * seconds / 1000) (some : 0 < seconds) where
    -- more whole vehicles than fit with the rest
    pub far : (most_long - rest) / seconds < total / 1000 → most_long ≡ min (vehicle_seconds total seconds) most_long
    unfolding vehicle_seconds
    far l =
        let past : total / 1000 * seconds ≤ most_long - rest → ⊥ =
        λ h. let k = (le-div_iff_mul-le {k = seconds} {x = total / 1000} {y = most_long - rest} some).1 h in omega arith in
        omega (arith, by_parts, r)

    pub product_fits : total / 1000 ≤ (most_long - rest) / seconds → total / 1000 * seconds ≤ most_long - rest
    product_fits l = (le-div_iff_mul-le {k = seconds} {x = total / 1000} {y = most_long - rest} some).0 l

    pub exact : rest ≤ most_long → total / 1000 ≤ (most_long - rest) / seconds → total / 1000 * seconds + rest ≡ min (vehicle_seconds total seconds) most_long
    unfolding vehicle_seconds
    exact m l = omega (arith, by_parts, product_fits l, r)
