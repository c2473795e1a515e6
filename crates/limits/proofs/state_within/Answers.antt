-- Each return follows from the tests before it, in the order of the model's test.
use Rattle.limits.specs.LimitsLaws.{state_done, state_total, state_places}
use Rattle.limits.proofs.state_within.Goals as goal

pub returns-then-done-gt-STEPS : goal.returns-then-done-gt-STEPS
returns-then-done-gt-STEPS c = state_done c.args.r c.args.s c.if-done-gt-STEPS.true

pub returns-then-not-times_within : goal.returns-then-not-times_within
returns-then-not-times_within c =
    state_total c.args.r c.args.s c.if-done-gt-STEPS.false c.times_within.ensures c.if-not-times_within.true

pub returns : goal.returns
returns c =
    state_places c.args.r c.args.s c.if-done-gt-STEPS.false c.times_within.ensures c.if-not-times_within.false c.first_place.ensures
