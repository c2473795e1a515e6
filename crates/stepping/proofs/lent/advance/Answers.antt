-- `stepping::lent::advance` meets its contract: the facts of a turn bound its numbers, a turn moves one more cell, and the step is counted last.
use Rattle.std.proofs.Common.{arith}
use Rattle.numbers.specs.SumLaws.{summed_none, summed_more}
use Rattle.stepping.specs.StepNeeds.{moved_none, gate, turn}
use Rattle.stepping.specs.LentColumns.{held_there, queue_there, cumulative_there, long_there, moved_there, counted_there}
use Rattle.stepping.proofs.lent.advance.Goals as goal

pub overflow_sub-waiting : goal.overflow_sub-waiting
overflow_sub-waiting c = omega (arith, gate c.requires.movable)

pub loop-i-init : goal.loop-i-init
loop-i-init c = record { moved = λ r. moved_none c.entering-entering.ensures; on_road = summed_none; at_ramps = summed_none }

pub overflow_cast-holds : goal.overflow_cast-holds
overflow_cast-holds c =
    let h = c.loop-i.invariant.moved c.requires.road in
    omega (arith, turn c.requires.movable h c.loop-i-test.true)

pub overflow_add-holds : goal.overflow_add-holds
overflow_add-holds c =
    let h = c.loop-i.invariant.moved c.requires.road in
    omega (arith, turn c.requires.movable h c.loop-i-test.true, held_there h)

pub overflow_add-holds-in-loop-i : goal.overflow_add-holds-in-loop-i
overflow_add-holds-in-loop-i c =
    let h = c.loop-i.invariant.moved c.requires.road in
    omega (arith, turn c.requires.movable h c.loop-i-test.true, held_there h)

pub overflow_sub-holds : goal.overflow_sub-holds
overflow_sub-holds c =
    let h = c.loop-i.invariant.moved c.requires.road in
    omega (arith, turn c.requires.movable h c.loop-i-test.true, held_there h)

pub overflow_add-waits-in-loop-i : goal.overflow_add-waits-in-loop-i
overflow_add-waits-in-loop-i c =
    let h = c.loop-i.invariant.moved c.requires.road in
    omega (arith, turn c.requires.movable h c.loop-i-test.true, queue_there h)

pub overflow_sub-waits : goal.overflow_sub-waits
overflow_sub-waits c =
    let h = c.loop-i.invariant.moved c.requires.road in
    omega (arith, turn c.requires.movable h c.loop-i-test.true, queue_there h)

pub overflow_add-cumulative : goal.overflow_add-cumulative
overflow_add-cumulative c =
    let h = c.loop-i.invariant.moved c.requires.road in
    omega (arith, turn c.requires.movable h c.loop-i-test.true, cumulative_there h)

pub overflow_add-on_road : goal.overflow_add-on_road
overflow_add-on_road c =
    let h = c.loop-i.invariant.moved c.requires.road in
    omega (arith, turn c.requires.movable h c.loop-i-test.true, held_there h, c.loop-i.invariant.on_road.fits, c.wide-on_road.ensures)

pub loop-i-preserved : goal.loop-i-preserved
loop-i-preserved c =
    let m = c.requires.movable in
    let h = c.loop-i.invariant.moved c.requires.road in
    let l = c.loop-i-test.true in
    let long = long_there h m.sized l in
    record {
      moved = λ r. moved_there (c.loop-i.invariant.moved r) l c.entering-entering-in-loop-i.ensures;
      on_road = summed_more c.loop-i.invariant.on_road long.0 c.wide-on_road.ensures (omega (arith, turn m h l, held_there h));
      at_ramps = summed_more c.loop-i.invariant.at_ramps long.1 c.wide-at_ramps.ensures (omega (arith, turn m h l, queue_there h));
    }

pub overflow_add-result-5 : goal.overflow_add-result-5
overflow_add-result-5 c = omega (arith, gate c.requires.movable)

pub returns : goal.returns
returns c r =
    let v = c.loop-i.invariant in
    counted_there (v.moved r) c.loop-i-test.false c.wide.ensures v.on_road v.at_ramps
