-- If all built lanes are open, a step is one without closures. Assumes nothing.
use Rattle.std.specs.Prelude.{◌≡◌, refl, Bool, true, false, List, ℕ, ◌<◌}
use Rattle.std.proofs.Common.{ap, ◌∙◌}
use Rattle.model.specs.Refusals.{fault}
use Rattle.model.specs.Numbers.{at, unless}
use Rattle.numbers.specs.FirstLaws.{first_none}
use Rattle.model.specs.Lanes.{lanes_at}
use Rattle.lanes.specs.LanesLaws.{lanes_all}
use Rattle.model.specs.declared.Road.{Road}
use Rattle.model.specs.declared.State.{State}
use Rattle.model.specs.Limits.{input_ok}
use Rattle.limits.specs.LimitsLaws.{input_facts}
use Rattle.model.specs.Stepping.{Answer, answer, step_on, stepping_of}
use Rattle.theory.specs.StepLaws.{stepping_input, stepping_on}
use Rattle.theory.specs.OpenRoad.{open_road_all}

-- a step without closures: 7, then 8, 9 or 10 on the road itself
abbrev pub plain_step : Road → State → List ℕ → Answer
plain_step r s row = unless (input_ok r s row) (answer (fault 7 0) s) (step_on r s row)

pub all_open_steps : (r : Road) (s : State) (row built : List ℕ) → ((i : ℕ) → i < r.n → 0 < at built i)
    → stepping_of r s row built built ≡ plain_step r s row
all_open_steps r s row built some = go (input_ok r s row) refl
  where
    go : (b : Bool) → input_ok r s row ≡ b → stepping_of r s row built built ≡ plain_step r s row
    go true e =
        stepping_on r s row built built e (first_none (lanes_at built built) r.n (λ i l. lanes_all (at built i) (some i l)))
        ∙ ap (λ (q : Road). step_on q s row) (open_road_all r built built (input_facts r s row e).road (λ i l. (some i l, refl)))
        ∙ rw e refl
    go false e = stepping_input r s row built built e ∙ rw e refl
