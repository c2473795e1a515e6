-- `counts::raise_ramps` meets its contract: a turn raises one more entry, which was unchanged before it.
use Rattle.std.proofs.Common.{ap, ◌∙◌, max, ℕ, length-set}
use Rattle.model.specs.Numbers.{at}
use Rattle.passes.specs.Supplies.{filled_none, filled_more}
use Rattle.counts.specs.LongestLaws.{entry_kept}
use Rattle.counts.proofs.raise_ramps.Goals as goal

pub loop-i-init : goal.loop-i-init
loop-i-init c = record { long = c.told-ramps; raised = filled_none }

pub loop-i-preserved : goal.loop-i-preserved
loop-i-preserved c =
    let h = c.loop-i.invariant.raised in
    record {
      long = simp length-set c.loop-i.invariant.long;
      raised = filled_more h c.loop-i-test.true (c.larger.ensures ∙ ap (λ (x : ℕ). max x (at c.args.queue.now c.loop-i.i)) (entry_kept h));
    }
