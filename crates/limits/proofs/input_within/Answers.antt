-- Each return follows from the tests before it, in the order of the model's test.
use Rattle.std.proofs.Common.{arith, sym, true, ◌∙◌}
use Rattle.limits.specs.LimitsLaws.{FrameTest, framed_facts, input_frame, input_place, input_row}
use Rattle.limits.proofs.input_within.Goals as goal

pub returns-then-not-frame_within : goal.returns-then-not-frame_within
returns-then-not-frame_within c = input_frame (record { is = sym c.frame_within.ensures ∙ c.if-not-frame_within.true })

pub first_place-requires : goal.first_place-requires
first_place-requires c =
    let framed : FrameTest c.args.r c.args.s c.args.row.now true = record { is = sym c.frame_within.ensures ∙ c.if-not-frame_within.false } in
    let f = framed_facts framed in
    (f.cells, f.steps)

pub overflow_add-n : goal.overflow_add-n
overflow_add-n c =
    let framed : FrameTest c.args.r c.args.s c.args.row.now true = record { is = sym c.frame_within.ensures ∙ c.if-not-frame_within.false } in
    omega (arith, framed_facts framed)

pub returns-then-first_place-n : goal.returns-then-first_place-n
returns-then-first_place-n c =
    let framed : FrameTest c.args.r c.args.s c.args.row.now true = record { is = sym c.frame_within.ensures ∙ c.if-not-frame_within.false } in
    input_place framed c.first_place.ensures c.if-first_place-n.true

pub row_within-requires : goal.row_within-requires
row_within-requires c =
    let framed : FrameTest c.args.r c.args.s c.args.row.now true = record { is = sym c.frame_within.ensures ∙ c.if-not-frame_within.false } in
    let f = framed_facts framed in
    (f.cells, f.length)

pub returns : goal.returns
returns c =
    let framed : FrameTest c.args.r c.args.s c.args.row.now true = record { is = sym c.frame_within.ensures ∙ c.if-not-frame_within.false } in
    input_row framed c.first_place.ensures c.if-first_place-n.false c.row_within.ensures
