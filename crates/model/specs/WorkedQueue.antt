-- docs/MODEL.md, 'Releases for a wanted queue': a start queue of 4, a ceiling of 3, a rate of 2 and three steps. Assumes nothing.
use Rattle.std.specs.Prelude.{◌≡◌, refl, true, false, [], ◌∷◌}
use Rattle.model.specs.Numbers.{first_of, first_from, sum_of, list_of}
use Rattle.model.specs.Limits.{all_within}
use Rattle.model.specs.Wanted.{lowest_queue, possible_of, inflow_of, least_from, least_release, least_table, search_answer, wanted_of, table_after}

-- three arrive in the last step, which can release only two, so the step before releases one that no ceiling requires yet
pub early : table_after 4 3 2 (0 ∷ 0 ∷ 3 ∷ []) (9 ∷ 9 ∷ 9 ∷ []) ≡ 1 ∷ 1 ∷ 2 ∷ []
unfolding table_after wanted_of possible_of lowest_queue least_table least_release least_from inflow_of all_within first_of first_from sum_of list_of
early = refl

-- six are too many: the queue would be at least 4
pub too_late : wanted_of 4 3 2 (0 ∷ 0 ∷ 6 ∷ []) 3 ≡ search_answer 0 true false
unfolding wanted_of possible_of lowest_queue all_within first_of first_from
too_late = refl

-- five are possible: the queue is then 3, at the ceiling
pub just_in_time : table_after 4 3 2 (0 ∷ 0 ∷ 5 ∷ []) (9 ∷ 9 ∷ 9 ∷ []) ≡ 2 ∷ 2 ∷ 2 ∷ []
unfolding table_after wanted_of possible_of lowest_queue least_table least_release least_from inflow_of all_within first_of first_from sum_of list_of
just_in_time = refl

-- no step, and a table of another length, are refused with 23
pub no_step : wanted_of 4 3 2 [] 0 ≡ search_answer 23 false false
unfolding wanted_of possible_of lowest_queue all_within first_of first_from
no_step = refl

pub other_length : wanted_of 4 3 2 (0 ∷ []) 2 ≡ search_answer 23 false false
unfolding wanted_of possible_of lowest_queue all_within first_of first_from
other_length = refl
