-- The accounts of the states that running and judging return. Assumes nothing.
use Rattle.std.specs.Prelude.{◌≡◌, List, ℕ, length}
use Rattle.std.proofs.Common.{le_refl}
use Rattle.model.specs.Schedules.{table_size}
use Rattle.model.specs.Reading.{study_of}
use Rattle.model.specs.Demand.{Openable}
use Rattle.model.specs.Running.{running_of, list_after, steps_made}
use Rattle.model.specs.Judging.{judging_of}
use Rattle.theory.proofs.DemandWhole.{demand_and_grounds}
use Rattle.theory.specs.Accounts.{Accounts}
use Rattle.theory.proofs.Accounts.{accounts}

module _ (bytes lanes : List ℕ) (openable : Openable bytes lanes) where
  -- for the rows that running writes; if the run began, their last state is the one returned (`own_state` of `Grounds`)
  pub run_accounts : (list : List ℕ) → Accounts (study_of bytes lanes) (list_after bytes lanes list) (steps_made (study_of bytes lanes) (running_of bytes lanes list))
  run_accounts list =
      let k = steps_made (study_of bytes lanes) (running_of bytes lanes list) in
      accounts bytes lanes (list_after bytes lanes list) openable k ((demand_and_grounds bytes lanes openable list).grounds.own k (le_refl k))

  -- for a schedule of the right length, up to the state that judging returns (`judged_state` of `Grounds`)
  pub judge_accounts : (zs : List ℕ) → length zs ≡ table_size (study_of bytes lanes)
      → Accounts (study_of bytes lanes) zs (steps_made (study_of bytes lanes) (judging_of bytes lanes zs))
  judge_accounts zs right =
      accounts bytes lanes zs openable (steps_made (study_of bytes lanes) (judging_of bytes lanes zs)) ((demand_and_grounds bytes lanes openable zs).grounds.reached zs right)
