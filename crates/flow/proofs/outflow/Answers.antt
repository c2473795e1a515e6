-- Nothing wraps, and the formula gives the greatest outflow.
use Rattle.std.proofs.Common.{arith, ◌+◌}
use Rattle.flow.specs.FlowLaws.{onward_fits, within_onward, outflow_exit, outflow_whole}
use Rattle.flow.specs.Division.{line_is_greatest}
use Rattle.flow.proofs.outflow.Goals as goal

pub overflow_add-most : goal.overflow_add-most
overflow_add-most c = omega (arith, onward_fits c.args.share c.args.cumulative (omega arith) (omega arith))

pub overflow_mul-last : goal.overflow_mul-last
overflow_mul-last c = omega (arith, onward_fits c.args.share c.args.cumulative (omega arith) (omega arith))

pub overflow_add-last : goal.overflow_add-last
overflow_add-last c = omega (arith, onward_fits c.args.share c.args.cumulative (omega arith) (omega arith))

pub overflow_sub-last : goal.overflow_sub-last
overflow_sub-last c =
    let most = c.onward.result + c.wide-else-share-eq-WHOLE.result in
    omega (arith, within_onward c.args.share c.args.cumulative most (omega arith) (omega arith))

pub returns-then-share-eq0 : goal.returns-then-share-eq0
returns-then-share-eq0 c = rw c.if-share-eq0.true (omega (arith, outflow_exit c.args.cumulative c.args.room c.args.demand))

pub returns-then-share-eq-WHOLE : goal.returns-then-share-eq-WHOLE
returns-then-share-eq-WHOLE c =
    rw c.if-share-eq-WHOLE.true (omega (arith, outflow_whole c.args.cumulative c.args.room c.args.demand))

pub returns-else-share-eq-WHOLE : goal.returns-else-share-eq-WHOLE
returns-else-share-eq-WHOLE c =
    let most = c.onward.result + c.wide-else-share-eq-WHOLE.result in
    line_is_greatest c.args.share c.args.cumulative c.args.room c.args.demand most c.at_most-else-share-eq-WHOLE.result (omega arith) (omega arith) (omega arith)
