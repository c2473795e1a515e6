-- `joining::join` meets its contract: each return cites the outcome that the tests before it leave.
use Rattle.std.proofs.Common.{refl, sym, ◌∙◌}
use Rattle.model.specs.Record.{record_row}
use Rattle.joining.specs.JoiningLaws.{promise, ends_upstream, ends_downstream, ends_refused, ends_joined, joinable, joins}
use Rattle.joining.proofs.join.Goals as goal

pub returns-then-number-ne0 : goal.returns-then-number-ne0
returns-then-number-ne0 c =
    let e =
    ends_upstream c.args.upstream.now c.args.downstream.now c.args.share c.args.target.now c.read-a.ensures
    (λ z. c.if-number-ne0.true (c.number.ensures ∙ z)) in
    let p = promise e c.refused.ensures in
    record { answer = p.0; target = p.1.0; reads = p.1.1 }

pub returns-then-number-ne0-2 : goal.returns-then-number-ne0-2
returns-then-number-ne0-2 c =
    let z = sym c.number.ensures ∙ c.if-number-ne0.false in
    let e =
    ends_downstream c.args.upstream.now c.args.downstream.now c.args.share c.args.target.now c.read-a.ensures z c.read-b.ensures
    (λ w. c.if-number-ne0-2.true (c.number-2.ensures ∙ w)) in
    let p = promise e c.refused-then-number-ne0-2.ensures in
    record { answer = p.0; target = p.1.0; reads = p.1.1 }

pub checked-answer-requires : goal.checked-answer-requires
checked-answer-requires c =
    joinable c.args.upstream.now c.args.downstream.now c.args.share c.args.target.now c.read-a.ensures (sym c.number.ensures ∙ c.if-number-ne0.false)
    c.read-b.ensures (sym c.number-2.ensures ∙ c.if-number-ne0-2.false)

pub returns-then-number-ne0-3 : goal.returns-then-number-ne0-3
returns-then-number-ne0-3 c =
    let a = c.read-a.result in
    let z = sym c.number.ensures ∙ c.if-number-ne0.false in
    let w = sym c.number-2.ensures ∙ c.if-number-ne0-2.false in
    let k = c.checked-answer.ensures a.state (record_row c.args.upstream.now a.road.n) in
    let e =
    ends_refused c.args.upstream.now c.args.downstream.now c.args.share c.args.target.now c.read-a.ensures z c.read-b.ensures w k
    (λ x. c.if-number-ne0-3.true (c.number-3.ensures ∙ x)) in
    let p = promise e refl in
    record { answer = p.0; target = p.1.0; reads = p.1.1 }

pub put_joined-requires : goal.put_joined-requires
put_joined-requires c =
    let a = c.read-a.result in
    let z = sym c.number.ensures ∙ c.if-number-ne0.false in
    let w = sym c.number-2.ensures ∙ c.if-number-ne0-2.false in
    let k = c.checked-answer.ensures a.state (record_row c.args.upstream.now a.road.n) in
    joins c.args.upstream.now c.args.downstream.now c.args.share c.args.target.now c.read-a.ensures z c.read-b.ensures w k
    (sym c.number-3.ensures ∙ c.if-number-ne0-3.false)

pub returns : goal.returns
returns c =
    let a = c.read-a.result in
    let z = sym c.number.ensures ∙ c.if-number-ne0.false in
    let w = sym c.number-2.ensures ∙ c.if-number-ne0-2.false in
    let k = c.checked-answer.ensures a.state (record_row c.args.upstream.now a.road.n) in
    let e =
    ends_joined c.args.upstream.now c.args.downstream.now c.args.share c.args.target.now c.read-a.ensures z c.read-b.ensures w k
    (sym c.number-3.ensures ∙ c.if-number-ne0-3.false) c.start-start.ensures c.start-next_start.ensures c.put_joined.ensures in
    let p = promise e refl in
    record { answer = p.0; target = p.1.0; reads = p.1.1 }
