-- `stepping::step_on` meets its contract: after the test of the releases they fit, so the step may be made.
use Rattle.std.proofs.Common.{arith}
use Rattle.std.proofs.Math.Seq.{length-take-le}
use Rattle.stepping.specs.Findings.{ReleaseFinding, answer_next, steppable}
use Rattle.stepping.proofs.step_on.Goals as goal

pub next-t-requires : goal.next-t-requires
next-t-requires c =
    let k : ReleaseFinding c.args.r c.args.s c.args.row.now c.releases-q.result c.number.result = record {
      input = c.requires;
      left = c.if-s-eq-STEPS.false;
      found = c.releases-q.ensures;
      number = c.number.ensures;
    } in
    (steppable k c.if-number-ne0.false, length-take-le _ _ (omega (arith, c.requires.input.road.cells)))

pub returns : goal.returns
returns c =
    let k : ReleaseFinding c.args.r c.args.s c.args.row.now c.releases-q.result c.number.result = record {
      input = c.requires;
      left = c.if-s-eq-STEPS.false;
      found = c.releases-q.ensures;
      number = c.number.ensures;
    } in
    answer_next k c.if-number-ne0.false c.next-t.ensures.state
