-- docs/MODEL.md, 'A stated load': the load of seed 0 with peak 1,000. Assumes nothing.
use Rattle.std.specs.Prelude.{◌≡◌, refl, [], ◌∷◌, replicate}
use Rattle.model.specs.Numbers.{list_of}
use Rattle.model.specs.Load.{number_after, arrivals_of, load_with, loading_of, loaded_list}

-- it starts with 236
pub stated_list : loaded_list 0 1000 (replicate 10 7) ≡ 236 ∷ 278 ∷ 820 ∷ 668 ∷ 384 ∷ 622 ∷ 344 ∷ 640 ∷ 508 ∷ 582 ∷ []
unfolding loaded_list arrivals_of number_after list_of
stated_list = refl

-- the last number after these ten
pub stated_last : loading_of 0 1000 10 ≡ load_with 0 2498801434
unfolding loading_of number_after
stated_last = refl

-- an empty list gives the seed; a peak of 1,000,000 passes, one more is refused with 25
pub stated_empty : loading_of 42 1000000 0 ≡ load_with 0 42
unfolding loading_of number_after
stated_empty = refl

pub stated_refusal : loading_of 42 1000001 10 ≡ load_with 25 42
unfolding loading_of
stated_refusal = refl
