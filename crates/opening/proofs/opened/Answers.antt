-- `opening::opened` meets its contract: each return follows from the tests before it.
use Rattle.std.proofs.Common.{◌∙◌, sym}
use Rattle.reading.specs.Within.{read_within_lem}
use Rattle.opening.specs.OpeningEnds.{opened_refused, opened_closed, opened_whole}
use Rattle.opening.proofs.opened.Goals as goal

pub returns-then-number-ne0 : goal.returns-then-number-ne0
returns-then-number-ne0 c =
    let p = opened_refused c.args.bytes.now c.args.table.now c.read-a.ensures (λ z. c.if-number-ne0.true (c.number.ensures ∙ z)) in
    record { answer = p.0; opens = p.1 }

pub refused-q-requires : goal.refused-q-requires
refused-q-requires c =
    let w = read_within_lem c.args.bytes.now _ c.read-a.ensures (sym c.number.ensures ∙ c.if-number-ne0.false) in
    (w.road.cells, w.steps)

pub returns-then-number-ne0-2 : goal.returns-then-number-ne0-2
returns-then-number-ne0-2 c =
    let p = opened_closed c.args.bytes.now c.args.table.now c.read-a.ensures c.refused-q.ensures (sym c.number.ensures ∙ c.if-number-ne0.false)
    (λ z. c.if-number-ne0-2.true (c.number-2.ensures ∙ z)) c.refused.ensures in
    record { answer = p.0; opens = p.1 }

pub returns : goal.returns
returns c =
    let p = opened_whole c.args.bytes.now c.args.table.now c.read-a.ensures c.refused-q.ensures (sym c.number-2.ensures ∙ c.if-number-ne0-2.false) in
    record { answer = p.0; opens = p.1 }
