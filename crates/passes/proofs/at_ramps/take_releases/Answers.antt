-- A turn takes the release of one listed cell, or stops at one that does not fit. Assumes nothing.
use Rattle.std.proofs.Common.{arith}
use Rattle.passes.specs.TakeReleases.{arrive_in, give_in, take_none, take_turn, room_here, take_stop, take_more, take_end}
use Rattle.passes.specs.RampList.{upto_none, upto_more}
use Rattle.passes.proofs.at_ramps.take_releases.Goals as goal

pub loop-k-init : goal.loop-k-init
loop-k-init c = record { upto = upto_none c.requires.listed c.requires.cells; taken = take_none c.requires }

pub overflow_add-most : goal.overflow_add-most
unfolding arrive_in
overflow_add-most c = let t = take_turn c.requires c.loop-k-test.true in omega (arith, c.number-arrivals.ensures.0)

pub returns-then-most-given : goal.returns-then-most-given
unfolding arrive_in give_in
returns-then-most-given c = record {
  yes = λ e. absurd (cc);
  no = λ _. take_stop c.requires c.loop-k.invariant.taken c.loop-k-test.true
      (λ f. omega (arith, f.ramp, c.number-given.ensures.0, c.number-arrivals.ensures.0, c.if-most-given.true));
}

pub returns-then-supply-given : goal.returns-then-supply-given
unfolding arrive_in give_in
returns-then-supply-given c = record {
  yes = λ e. absurd (cc);
  no = λ _. take_stop c.requires c.loop-k.invariant.taken c.loop-k-test.true
      (λ f. omega (
        arith,
        f.supply,
        c.number-given.ensures.0,
        room_here c.requires c.loop-k.invariant.taken c.loop-k-test.true,
        c.if-supply-given.true,
      ));
}

pub loop-k-preserved : goal.loop-k-preserved
unfolding arrive_in give_in
loop-k-preserved c = record {
  upto = upto_more c.loop-k.invariant.upto c.loop-k-test.true;
  taken = take_more c.requires c.loop-k.invariant.taken c.loop-k-test.true (omega (arith, c.number-arrivals.ensures.0)) c.number-given.ensures.0
      c.if-most-given.false c.if-supply-given.false;
}

pub returns : goal.returns
returns c = record {
  yes = λ _. take_end c.requires c.loop-k.invariant.taken c.loop-k.invariant.upto c.loop-k-test.false;
  no = λ e. absurd (cc);
}
