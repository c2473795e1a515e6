-- The wish without its fraction is the release; above the cap the cap, below 0 nothing.
use Rattle.std.proofs.Common.{arith, ◌∙◌}
use Rattle.meter.specs.MeterLaws.{whole_all, above_minus_one, below_cast, whole_between, whole_most, whole_none}
use Rattle.meter.proofs.release.Goals as goal

pub returns-then-cap-wish : goal.returns-then-cap-wish
returns-then-cap-wish c = whole_all _ _ (omega arith) c.if-cap-wish.true

pub truncating_f64_to_u64-requires-clause-lower_bound : goal.truncating_f64_to_u64-requires-clause-lower_bound
truncating_f64_to_u64-requires-clause-lower_bound c = above_minus_one _ c.if-wish.true

pub truncating_f64_to_u64-requires-clause-upper_bound : goal.truncating_f64_to_u64-requires-clause-upper_bound
truncating_f64_to_u64-requires-clause-upper_bound c = below_cast _ _ (omega arith) c.if-cap-wish.false c.if-wish.true

pub overflow_cast-result : goal.overflow_cast-result
overflow_cast-result c =
    let is = c.truncating_f64_to_u64.ensures ∙ whole_between _ _ (omega arith) c.if-cap-wish.false c.if-wish.true in
    omega (arith, is, whole_most c.args.wish c.args.cap)

pub returns-then-wish : goal.returns-then-wish
returns-then-wish c = c.truncating_f64_to_u64.ensures ∙ whole_between _ _ (omega arith) c.if-cap-wish.false c.if-wish.true

pub returns : goal.returns
returns c = whole_none _ _ c.if-wish.false
