-- `numbers`: the row's start is that of the bytes' version and fits a machine number, and a turn of the loop stores one more number.
use Rattle.std.proofs.Common.{ℕ, ◌+◌, ◌*◌, ap, ◌∙◌, arith}
use Rattle.model.specs.Record.{number_size, row_start}
use Rattle.fields.specs.FieldsLaws.{start_small}
use Rattle.model.specs.RowNumbers.{entry_or}
use Rattle.taking.specs.RowLaws.{row_none, row_more}
use Rattle.taking.proofs.numbers.Goals as goal

pub row_start-start-requires : goal.row_start-start-requires
row_start-start-requires c =
    let small = start_small c.version.result c.args.n c.args.t c.requires.0 (omega arith) in
    omega arith

pub loop-k-init : goal.loop-k-init
loop-k-init c = row_none

pub overflow_add-start : goal.overflow_add-start
overflow_add-start c =
    let small = start_small c.version.result c.args.n c.args.t c.requires.0 (omega arith) in
    omega arith

pub loop-k-preserved : goal.loop-k-preserved
loop-k-preserved c =
    let a = c.args in
    let start = c.row_start-start.ensures ∙ ap (λ (v : ℕ). row_start v a.n a.t) c.version.ensures in
    row_more c.loop-k.invariant c.loop-k-test.true
    (c.entry.ensures ∙ ap (λ (x : ℕ). entry_or a.bytes.now (x + number_size * c.loop-k.k)) start)
