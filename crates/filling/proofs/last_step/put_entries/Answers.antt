-- `filling::last_step::put_entries`: the next entry is what the code computes. Assumes nothing.
use Rattle.std.proofs.Common.{refl}
use Rattle.passes.specs.Supplies.{filled_none, filled_more}
use Rattle.filling.specs.LastStep.{entered_in, entered_more}
use Rattle.filling.proofs.last_step.put_entries.Goals as goal

pub loop-i-init : goal.loop-i-init
unfolding entered_in
loop-i-init c = record { filled = filled_none; next = refl }

pub loop-i-preserved : goal.loop-i-preserved
loop-i-preserved c =
    let a = c.args in
    let l = c.loop-i in
    record {
      filled = filled_more l.invariant.filled c.loop-i-test.true l.invariant.next;
      next = entered_more a.share.now a.cumulative.now a.y.now l.i c.entered-entering.ensures;
    }
