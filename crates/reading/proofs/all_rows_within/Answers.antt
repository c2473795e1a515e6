-- `all_rows_within`: what the passes over the blocks and over the single rows require, and that the greatest row within its limits leaves every row within them.
use Rattle.std.proofs.Common.{◌*◌, ◌/◌, ℕ, sym, ap, ◌∙◌, arith}
use Rattle.model.specs.Record.{row_size, row_start}
use Rattle.reading.specs.Greatest.{most_row, in_blocks, blocks_ready, rest_ready, rows_within}
use Rattle.reading.proofs.all_rows_within.Goals as goal

pub raise_to_parts-requires : goal.raise_to_parts-requires
raise_to_parts-requires c =
    let a = c.args in
    let start = c.row_start-start.ensures ∙ ap (λ (v : ℕ). row_start v a.n 0) c.version-version.ensures in
    blocks_ready c.requires (in_blocks a.n a.steps c.requires.most) start (omega arith)

pub raise_to_parts-requires-3 : goal.raise_to_parts-requires-3
raise_to_parts-requires-3 c =
    let a = c.args in
    let beside = most_row / row_size a.n in
    let plan = in_blocks a.n a.steps c.requires.most in
    let left = c.row_start-left.ensures ∙ ap (λ (v : ℕ). row_start v a.n (a.steps / beside * beside)) c.version-version.ensures in
    rest_ready c.requires plan left (omega (arith, plan.rows)) (omega arith)

pub returns : goal.returns
returns c h t l =
    let a = c.args in
    let beside = most_row / row_size a.n in
    let plan = in_blocks a.n a.steps c.requires.most in
    let start = c.row_start-start.ensures ∙ ap (λ (v : ℕ). row_start v a.n 0) c.version-version.ensures in
    let left = c.row_start-left.ensures ∙ ap (λ (v : ℕ). row_start v a.n (a.steps / beside * beside)) c.version-version.ensures in
    rows_within plan start c.raise_to_parts.ensures c.raise_to_parts-2.ensures left c.raise_to_parts-3.ensures
    (omega arith) a.ramp.now (sym c.numbers_within.ensures ∙ h) t l
