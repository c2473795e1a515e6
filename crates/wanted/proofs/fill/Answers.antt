-- One release more is stored, by `filled_more`; at step 0 the table is complete, by `filled_end`.
use Rattle.std.proofs.Common.{arith, rules, refl, ◌≡◌, ◌-◌, suc, max}
use Rattle.model.specs.Numbers.{at}
use Rattle.wanted.specs.Loops.{larger_is, filled_none, arrival_fits, before_fits, filled_more, filled_end}
use Rattle.wanted.proofs.fill.Goals as goal

pub loop-k-init : goal.loop-k-init
loop-k-init c = filled_none c.requires.0 c.requires.1 c.inflow-total.ensures c.less-after.ensures refl

pub overflow_sub-total : goal.overflow_sub-total
overflow_sub-total c = arrival_fits c.loop-k.invariant

pub overflow_sub-table : goal.overflow_sub-table
overflow_sub-table c =
    let l = c.loop-k in
    let earlier : l.k ≡ suc (l.k - 1) = omega (arith, c.loop-k-test.true) in
    let before : c.larger-before.result ≡ max (l.total - at c.args.arrivals.now l.k - c.args.ceiling) (l.after - c.args.rate) =
    larger_is c.larger-before.ensures c.less.ensures c.less-in-loop-k.ensures in
    before_fits l.invariant _ earlier refl before

pub loop-k-preserved : goal.loop-k-preserved
loop-k-preserved c =
    let l = c.loop-k in
    let earlier : l.k ≡ suc (l.k - 1) = omega (arith, c.loop-k-test.true) in
    let before : c.larger-before.result ≡ max (l.total - at c.args.arrivals.now l.k - c.args.ceiling) (l.after - c.args.rate) =
    larger_is c.larger-before.ensures c.less.ensures c.less-in-loop-k.ensures in
    filled_more l.invariant _ earlier refl before

pub returns : goal.returns
returns c = filled_end c.loop-k.invariant (search rules)
