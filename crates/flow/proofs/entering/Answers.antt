-- What enters the next cell is the growth of the onward total, which never falls.
use Rattle.std.proofs.Common.{arith, ◌≡◌, ◌+◌, ap, ◌∙◌}
use Rattle.model.specs.Flow.{thousandths_of, onward_of, entering_of}
use Rattle.flow.specs.FlowLaws.{onward_mono}
use Rattle.flow.proofs.entering.Goals as goal

-- the onward total after the step
after : (c : goal.After-thousandths) → c.thousandths.result ≡ onward_of c.args.share (c.args.cumulative + c.args.outflow)
unfolding onward_of
after c =
    let e : c.wide.result + c.wide-2.result ≡ c.args.cumulative + c.args.outflow = omega arith in
    c.thousandths.ensures ∙ ap (thousandths_of c.args.share) e

pub overflow_sub-result : goal.overflow_sub-result
overflow_sub-result c = omega (arith, after c, onward_mono c.args.share (c.args.cumulative + c.args.outflow) c.args.cumulative (omega arith))

pub returns : goal.returns
unfolding entering_of
returns c = omega (arith, after c)
