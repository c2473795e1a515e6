-- The next cell's field is stored, by `collected_more`; the header's size is that of the record's version.
use Rattle.std.proofs.Common.{ap, ◌∙◌, ℕ, ◌+◌, ◌*◌}
use Rattle.model.specs.Record.{header_size, cell_size, number_size, number_of}
use Rattle.fields.specs.FieldsLaws.{collected_none, collected_more}
use Rattle.fields.proofs.column.Goals as goal

pub loop-i-init : goal.loop-i-init
loop-i-init c = collected_none

pub loop-i-preserved : goal.loop-i-preserved
loop-i-preserved c =
    let a = c.args in
    let header = c.header_size-header.ensures ∙ ap (λ (v : ℕ). header_size v) c.version.ensures in
    collected_more c.loop-i.invariant c.loop-i-test.true
    (c.number.ensures.0 ∙ ap (λ (x : ℕ). number_of a.bytes.now (x + cell_size * c.loop-i.i + a.offset) number_size) header)
