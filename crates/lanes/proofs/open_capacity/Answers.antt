-- By the laws of open lanes: with none built, all open, and otherwise.
use Rattle.std.proofs.Common.{arith, ap, sym, ◌∙◌}
use Rattle.model.specs.Lanes.{open_capacity}
use Rattle.std.specs.Int.Count.{ones}
use Rattle.lanes.specs.LanesLaws.{ones_none, ones_pos, open_empty, open_all, open_most, open_fits}
use Rattle.lanes.proofs.open_capacity.Goals as goal

pub returns-then-built-eq0 : goal.returns-then-built-eq0
returns-then-built-eq0 c = open_empty c.args.capacity c.args.built c.args.usable (ap ones c.if-built-eq0.true ∙ ones_none)

pub returns-then-usable-built : goal.returns-then-usable-built
returns-then-usable-built c =
    let a = c.args in
    sym (ap (open_capacity a.capacity a.built) c.if-usable-built.true ∙ open_all a.capacity a.built (omega arith) (omega arith))

pub nonzero_div-left : goal.nonzero_div-left
nonzero_div-left c = omega (arith, c.count-all.ensures, ones_pos c.args.built (omega arith))

pub returns-then-left : goal.returns-then-left
returns-then-left c = open_most _ _ _ c.count-all.ensures.0 c.count.ensures.0 (omega arith)

pub returns : goal.returns
returns c = open_fits _ _ _ c.count-all.ensures.0 c.count.ensures.0 (omega arith)
