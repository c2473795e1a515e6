-- `joining::put_joined_rows` meets its contract: each joined row is put after those before it.
use Rattle.std.proofs.Common.{ap, ◌∙◌, ◌+◌, ◌*◌, arith, length, take}
use Rattle.fields.specs.FieldsLaws.{length_row}
use Rattle.joining.specs.JoinedBytes.{rowing_none, rowing_room, rowing_more}
use Rattle.joining.proofs.put_joined_rows.Goals as goal

pub loop-t-init : goal.loop-t-init
loop-t-init c = rowing_none

pub put_joined_row-end-requires : goal.put_joined_row-end-requires
put_joined_row-end-requires c =
    let row = take (1 + 2 * c.args.n) c.row-row.result in
    let next = take (1 + 2 * c.args.m) c.row-next.result in
    let e = ap length c.row-row.ensures ∙ length_row c.args.upstream.now c.args.n c.loop-t.t in
    let k = ap length c.row-next.ensures ∙ length_row c.args.downstream.now c.args.m c.loop-t.t in
    (omega (arith, k), rowing_room c.loop-t.invariant row next c.loop-t-test.true c.requires.1.1 e k)

pub loop-t-preserved : goal.loop-t-preserved
loop-t-preserved c = rowing_more c.loop-t.invariant c.loop-t-test.true c.row-row.ensures c.row-next.ensures c.put_joined_row-end.ensures
