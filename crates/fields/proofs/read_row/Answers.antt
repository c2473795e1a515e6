-- The next number is stored, by `fill_more`; at the end the array's first numbers are the row, by `row_taken`.
use Rattle.std.proofs.Common.{arith, refl, ap, ◌≡◌, ◌∙◌, ℕ, ◌+◌, ◌*◌}
use Rattle.model.specs.Numbers.{fill_of}
use Rattle.numbers.specs.RowsLaws.{fill_more}
use Rattle.model.specs.Record.{number_size, row_start, number_of, entry_of}
use Rattle.fields.specs.FieldsLaws.{row_taken}
use Rattle.fields.proofs.read_row.Goals as goal

pub loop-k-init : goal.loop-k-init
unfolding fill_of
loop-k-init c = record { within = omega arith; filled = refl }

pub loop-k-preserved : goal.loop-k-preserved
loop-k-preserved c =
    let a = c.args in
    let l = c.loop-k in
    let f = entry_of a.bytes.now a.n a.t in
    let start = c.row_start-start.ensures ∙ ap (λ (v : ℕ). row_start v a.n a.t) c.version.ensures in
    let e : c.number.result ≡ f l.k = c.number.ensures.0 ∙ ap (λ (x : ℕ). number_of a.bytes.now (x + number_size * l.k) number_size) start in
    record { within = omega arith; filled = cc (fill_more f l.k a.r.now, e, l.invariant.filled) }

pub returns : goal.returns
returns c =
    let a = c.args in
    let l = c.loop-k in
    let e : l.k ≡ 1 + 2 * a.n = omega arith in
    row_taken a.bytes.now a.n a.t a.r.now l.r c.requires.1
    (l.invariant.filled ∙ ap (λ (j : ℕ). fill_of (entry_of a.bytes.now a.n a.t) j a.r.now) e)
