-- The next ramp's grant is stored, by the laws of `Loops`.
use Rattle.std.proofs.Common.{rules}
use Rattle.street.specs.Loops.{granted_none, granted_more, granted_end}
use Rattle.street.proofs.share.Goals as goal

pub loop-i-init : goal.loop-i-init
loop-i-init c = granted_none c.requires.1 c.rest-left.ensures

pub loop-i-preserved : goal.loop-i-preserved
loop-i-preserved c = granted_more c.loop-i.invariant c.loop-i-test.true c.smaller-sure.ensures c.smaller-more.ensures

pub returns : goal.returns
returns c = granted_end c.loop-i.invariant (search rules)
