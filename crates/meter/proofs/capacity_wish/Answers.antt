-- On each side of the critical count.
use Rattle.meter.specs.MeterLaws.{up_to_critical, above_critical}
use Rattle.meter.proofs.capacity_wish.Goals as goal

pub returns-then-held-p : goal.returns-then-held-p
returns-then-held-p c = up_to_critical c.args.p c.args.entered c.args.held c.if-held-p.true

pub returns-else-held-p : goal.returns-else-held-p
returns-else-held-p c = above_critical c.args.p c.args.entered c.args.held c.if-held-p.false
