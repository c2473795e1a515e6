-- `filling::last_step::put_releases`: a number of the row's array is one of the row. Assumes nothing.
use Rattle.std.proofs.Common.{◌≡◌, ◌∙◌, List, ℕ, ◌+◌, ◌*◌, sym, ap, arith, get_or-take}
use Rattle.model.specs.Numbers.{at}
use Rattle.model.specs.Flow.{release_at}
use Rattle.model.specs.Record.{record_row}
use Rattle.passes.specs.Supplies.{filled_none, filled_more}
use Rattle.filling.proofs.last_step.put_releases.Goals as goal

pub loop-i-init : goal.loop-i-init
loop-i-init c = filled_none

pub loop-i-preserved : goal.loop-i-preserved
loop-i-preserved c =
    let a = c.args in
    let i = c.loop-i.i in
    let in_row : at c.row-row.result (2 * i + 2) ≡ release_at (record_row a.bytes.now a.n a.k) i =
    sym (get_or-take (1 + 2 * a.n) c.row-row.result (2 * i + 2) 0 (omega (arith, c.loop-i-test.true)))
    ∙ ap (λ (x : List ℕ). at x (2 * i + 2)) c.row-row.ensures in
    filled_more c.loop-i.invariant c.loop-i-test.true in_row
