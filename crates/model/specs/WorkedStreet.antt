-- docs/MODEL.md, 'Several ramps on one street': three ramps with guarantees 2, 3 and 1. Assumes nothing.
use Rattle.std.specs.Prelude.{◌≡◌, refl, [], ◌∷◌}
use Rattle.model.specs.Numbers.{first_of, first_from, sum_of, list_of}
use Rattle.model.specs.Limits.{all_within}
use Rattle.model.specs.Street.{street_ok, rest_before, grants_of, granting_of, grants_after}

-- with a limit of 10, wishes 7, 1 and 9 first get 2, 1 and 1; of the 6 that remain the first ramp takes 5, the third 1
pub in_order : grants_after 10 (2 ∷ 3 ∷ 1 ∷ []) (7 ∷ 1 ∷ 9 ∷ []) (8 ∷ 8 ∷ 8 ∷ []) ≡ 7 ∷ 1 ∷ 2 ∷ []
unfolding grants_after street_ok grants_of rest_before all_within first_of first_from sum_of list_of
in_order = refl

-- guarantees whose sum is the limit pass, and then each ramp gets its own
pub guarantees_alone : grants_after 6 (2 ∷ 3 ∷ 1 ∷ []) (7 ∷ 7 ∷ 7 ∷ []) (8 ∷ 8 ∷ 8 ∷ []) ≡ 2 ∷ 3 ∷ 1 ∷ []
unfolding grants_after street_ok grants_of rest_before all_within first_of first_from sum_of list_of
guarantees_alone = refl

-- a limit that is one less is refused with 24
pub limit_passed : granting_of 5 (2 ∷ 3 ∷ 1 ∷ []) (7 ∷ 7 ∷ 7 ∷ []) 3 ≡ 24
unfolding granting_of street_ok all_within first_of first_from sum_of
limit_passed = refl

-- nine ramps are refused with 24
pub nine_ramps : granting_of 9 (0 ∷ 0 ∷ 0 ∷ 0 ∷ 0 ∷ 0 ∷ 0 ∷ 0 ∷ 0 ∷ []) (0 ∷ 0 ∷ 0 ∷ 0 ∷ 0 ∷ 0 ∷ 0 ∷ 0 ∷ 0 ∷ []) 9 ≡ 24
unfolding granting_of street_ok all_within first_of first_from sum_of
nine_ramps = refl
