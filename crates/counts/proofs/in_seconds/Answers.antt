-- `counts::in_seconds` meets its contract: each return follows from the tests before it.
use Rattle.std.proofs.Common.{refl, arith}
use Rattle.counts.specs.TimingLaws.{rest_fits, no_seconds_lem, far, exact}
use Rattle.counts.proofs.in_seconds.Goals as goal

pub returns-then-wide-eq0 : goal.returns-then-wide-eq0
returns-then-wide-eq0 c = no_seconds_lem c.args.total c.args.seconds c.if-wide-eq0.true

pub returns-then-rest-wide : goal.returns-then-rest-wide
returns-then-rest-wide c = far c.args.total c.args.seconds refl (omega arith) c.if-rest-wide.true

pub returns : goal.returns
returns c =
    let a = c.args in
    exact a.total a.seconds refl (omega arith) (omega (arith, rest_fits a.total a.seconds c.ranges.seconds.fits)) c.if-rest-wide.false
