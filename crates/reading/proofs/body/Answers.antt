-- `body`: each return follows from the tests before it.
use Rattle.reading.specs.ReadingLaws.{Body, answer_place, answer_step, answer_accepted}
use Rattle.reading.proofs.body.Goals as goal

pub returns-then-place-n : goal.returns-then-place-n
returns-then-place-n c =
    let b : Body c.args.bytes.now c.args.n c.args.steps c.road_of-road.result c.start_of-state.result c.first_place-place.result =
    record { header = c.requires; road = c.road_of-road.ensures; start = c.start_of-state.ensures; place = c.first_place-place.ensures } in
    answer_place b c.if-place-n.true c.refused.ensures

pub returns-then-step-steps : goal.returns-then-step-steps
returns-then-step-steps c =
    let b : Body c.args.bytes.now c.args.n c.args.steps c.road_of-road.result c.start_of-state.result c.first_place-place.result =
    record { header = c.requires; road = c.road_of-road.ensures; start = c.start_of-state.ensures; place = c.first_place-place.ensures } in
    answer_step b c.if-place-n.false c.first_row-step.ensures c.if-step-steps.true c.refused-then-step-steps.ensures

pub returns : goal.returns
returns c =
    let b : Body c.args.bytes.now c.args.n c.args.steps c.road_of-road.result c.start_of-state.result c.first_place-place.result =
    record { header = c.requires; road = c.road_of-road.ensures; start = c.start_of-state.ensures; place = c.first_place-place.ensures } in
    answer_accepted b c.if-place-n.false c.first_row-step.ensures c.if-step-steps.false
