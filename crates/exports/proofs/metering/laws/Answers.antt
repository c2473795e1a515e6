-- `laws` begins with no law set, sets that of cell i in turn i, and has set all at the end, each by its law of specs/LawsGiven. Assumes nothing.
use Rattle.std.proofs.Common.{refl}
use Rattle.exports.specs.LawsGiven.{given_none, given_next, given_all}
use Rattle.exports.proofs.metering.laws.Goals as goal

pub loop-i-init : goal.loop-i-init
unfolding lib.Ieee.of_bits
loop-i-init c = given_none

pub loop-i-preserved : goal.loop-i-preserved
loop-i-preserved c =
    given_next c.loop-i.invariant c.loop-i-test.true
    (rw (c.law.ensures, c.real_at-third.ensures, c.real_at-second.ensures, c.real_at-first.ensures, c.kind_at-kind.ensures) refl)

pub returns : goal.returns
returns c = given_all c.loop-i.invariant c.loop-i-test.false
