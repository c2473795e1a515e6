-- The code's test of the gate is that of place 0, and of the cell at i that of place i + 1; the first that fails ends the loop.
use Rattle.std.proofs.Common.{arith, ◌≡◌, ◌+◌, ◌∙◌}
use Rattle.numbers.specs.FirstLaws.{passed_none, passed_more, passed_stop, passed_end}
use Rattle.limits.specs.LimitsLaws.{CellFound, gate_is, cell_is}
use Rattle.limits.proofs.first_place.Goals as goal

pub returns-then-not-gate_within : goal.returns-then-not-gate_within
returns-then-not-gate_within c =
    passed_stop passed_none (omega arith) (gate_is c.args.r c.args.s c.gate_within.ensures) c.if-not-gate_within.true

pub loop-i-init : goal.loop-i-init
loop-i-init c = passed_more passed_none (omega arith) (gate_is c.args.r c.args.s c.gate_within.ensures) c.if-not-gate_within.false

pub returns-then-not-cell-counts : goal.returns-then-not-cell-counts
returns-then-not-cell-counts c =
    let found : CellFound c.args.r c.args.s c.loop-i.i c.most_share-most.result c.cell_within-cell.result c.counts_within-counts.result =
    record { share = c.most_share-most.ensures; cell = c.cell_within-cell.ensures; counts = c.counts_within-counts.ensures } in
    passed_stop c.loop-i.invariant (omega (arith, c.loop-i-test.true)) (cell_is found) c.if-not-cell-counts.true

pub loop-i-preserved : goal.loop-i-preserved
loop-i-preserved c =
    let found : CellFound c.args.r c.args.s c.loop-i.i c.most_share-most.result c.cell_within-cell.result c.counts_within-counts.result =
    record { share = c.most_share-most.ensures; cell = c.cell_within-cell.ensures; counts = c.counts_within-counts.ensures } in
    passed_more c.loop-i.invariant (omega (arith, c.loop-i-test.true)) (cell_is found) c.if-not-cell-counts.false

pub returns : goal.returns
returns c =
    let all : c.args.r.n + 1 ≡ c.loop-i.i + 1 = omega (arith, c.loop-i.invariant.within, c.loop-i-test.false) in
    all ∙ passed_end c.loop-i.invariant (omega arith)
