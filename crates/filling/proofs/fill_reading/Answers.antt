-- `filling::fill_reading`: each return follows from the tests before it. Assumes nothing.
use Rattle.std.proofs.Common.{sym, ◌∙◌}
use Rattle.reading.specs.Within.{read_within_lem}
use Rattle.filling.specs.FillReading.{reading_whole}
use Rattle.filling.proofs.fill_reading.Goals as goal

pub refused-q-requires : goal.refused-q-requires
refused-q-requires c =
    let w = read_within_lem c.args.bytes.now _ c.read-a.ensures (sym c.number.ensures ∙ c.if-number-ne0.false) in
    (w.road.cells, w.steps)

pub returns : goal.returns
returns c =
    let a = c.args in
    reading_whole a.laws a.bytes.now a.table.now c.read-a.ensures (sym c.number.ensures ∙ c.if-number-ne0.false) c.law_fault-place.ensures
    c.if-place-ne0.false c.refused-q.ensures (sym c.number-2.ensures ∙ c.if-number-ne0-2.false)
