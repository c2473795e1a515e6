-- `joining::gate_idle` meets its contract: the loop ends at the first step with an arrival, or without one.
use Rattle.std.proofs.Common.{ap, ℕ, eqb, ne_eqb, arith}
use Rattle.numbers.specs.FirstLaws.{passed_fails, passed_all}
use Rattle.joining.specs.JoiningLaws.{idle_steps}
use Rattle.joining.proofs.gate_idle.Goals as goal

pub returns-then-gate_arrivals-ne0 : goal.returns-then-gate_arrivals-ne0
returns-then-gate_arrivals-ne0 c =
    let h = c.loop-t.invariant in
    let found = ap (λ (x : ℕ). eqb x 0) c.gate_arrivals.ensures in
    idle_steps c.args.bytes.now c.args.n c.args.steps c.args.queue h.no_queue
    (passed_fails h.passed c.loop-t-test.true found (ne_eqb c.gate_arrivals.result 0 c.if-gate_arrivals-ne0.true))

pub returns : goal.returns
returns c =
    let h = c.loop-t.invariant in
    idle_steps c.args.bytes.now c.args.n c.args.steps c.args.queue h.no_queue (passed_all h.passed (omega arith))
