-- `opening::refused` meets its contract: each return follows from the tests before it.
use Rattle.std.proofs.Common.{◌∙◌, sym, arith}
use Rattle.numbers.specs.FirstLaws.{first}
use Rattle.model.specs.Lanes.{table_at}
use Rattle.theory.specs.StepLaws.{table_empty, table_size_lem, table_passes}
use Rattle.opening.specs.RefusedCell.{fault_cell}
use Rattle.opening.proofs.refused.Goals as goal

pub returns-then-table-eq0 : goal.returns-then-table-eq0
returns-then-table-eq0 c =
    let a = c.args in
    c.made.ensures ∙ sym (table_empty a.table.now a.n a.steps (omega arith))

pub returns-then-table-n : goal.returns-then-table-n
returns-then-table-n c =
    let a = c.args in
    c.made-then-table-n.ensures ∙ sym (table_size_lem a.table.now a.n a.steps c.if-table-eq0.false c.if-table-n.true)

pub overflow_add-cell : goal.overflow_add-cell
overflow_add-cell c =
    let a = c.args in
    omega (arith, c.first_in_table-cell.ensures, (first (table_at a.table.now a.n a.steps) a.n).within)

pub returns-then-cell-n : goal.returns-then-cell-n
returns-then-cell-n c =
    let a = c.args in
    fault_cell a.table.now a.n a.steps c.if-table-eq0.false c.if-table-n.false c.first_in_table-cell.ensures c.if-cell-n.true c.made-then-cell-n.ensures

pub returns : goal.returns
returns c =
    let a = c.args in
    c.made-2.ensures
    ∙ sym (table_passes a.table.now a.n a.steps c.if-table-eq0.false c.if-table-n.false (sym c.first_in_table-cell.ensures ∙ c.if-cell-n.false))
