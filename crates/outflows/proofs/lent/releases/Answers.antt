-- `outflows::lent::releases` meets its contract: the first fault found is the lowest, and without one every room is stored.
use Rattle.std.proofs.Common.{◌∙◌, sym, arith, length-set}
use Rattle.outflows.specs.Columns.{with_supplies, state_of}
use Rattle.outflows.specs.Rooms.{roomed_none, roomed_more, roomed_end}
use Rattle.outflows.specs.Faults.{release_found}
use Rattle.numbers.specs.FirstLaws.{faultless_none, faultless_more}
use Rattle.theory.specs.StepLaws.{lowest_stop, lowest_end}
use Rattle.outflows.proofs.lent.releases.Goals as goal

pub loop-i-init : goal.loop-i-init
loop-i-init c = record { within = omega arith; long = c.told-room; faultless = λ r g cumulative. faultless_none; roomed = λ r g cumulative. roomed_none }

pub returns-then-number-ne0-clause-fault : goal.returns-then-number-ne0-clause-fault
returns-then-number-ne0-clause-fault c r g cumulative =
    let a = c.args in
    lowest_stop _ _ 1 (c.loop-i.invariant.faultless r g cumulative) c.loop-i-test.true
    (release_found (with_supplies r a.n a.wave.now a.jam.now a.capacity.now) (state_of g a.held.now a.queue.now cumulative) a.row.now c.loop-i.i
    c.supply-supply.ensures c.most_release-most.ensures c.release_refusal-refusal.ensures)
    (λ z. c.if-number-ne0.true (c.number.ensures ∙ z))

pub loop-i-preserved : goal.loop-i-preserved
loop-i-preserved c =
    let a = c.args in
    record {
      within = omega arith;
      long = simp length-set c.loop-i.invariant.long;
      faultless = λ r g cumulative. faultless_more (c.loop-i.invariant.faultless r g cumulative) c.loop-i-test.true
          (release_found (with_supplies r a.n a.wave.now a.jam.now a.capacity.now) (state_of g a.held.now a.queue.now cumulative) a.row.now c.loop-i.i
          c.supply-supply.ensures c.most_release-most.ensures c.release_refusal-refusal.ensures)
          (sym c.number.ensures ∙ c.if-number-ne0.false);
      roomed = λ r g cumulative. roomed_more (c.loop-i.invariant.roomed r g cumulative) c.supply-supply.ensures c.room.ensures;
    }

pub returns-clause-fault : goal.returns-clause-fault
returns-clause-fault c r g cumulative = lowest_end _ _ 1 (c.loop-i.invariant.faultless r g cumulative) c.loop-i-test.false

pub returns-clause-rooms : goal.returns-clause-rooms
returns-clause-rooms c r g cumulative z =
    roomed_end (c.loop-i.invariant.roomed r g cumulative) c.loop-i-test.false (omega arith)
