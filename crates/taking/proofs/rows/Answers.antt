-- `rows`: without room nothing is taken, a turn of the loop puts one more row into the list, and at the end all rows are there.
use Rattle.std.proofs.Common.{length}
use Rattle.taking.specs.TakingLaws.{RoomForRows, over_cells, over_steps, too_short, untaken, listed_none, listed_more, listed_end}
use Rattle.taking.proofs.rows.Goals as goal

pub returns-then-n-gt-CELLS : goal.returns-then-n-gt-CELLS
returns-then-n-gt-CELLS c =
    let a = c.args in
    let m = untaken a.bytes.now a.n a.steps a.list.now (over_cells a.n a.steps (length a.list.now) c.if-n-gt-CELLS.true) in
    record { count = m.0; list = m.1 }

pub returns-then-steps-gt-STEPS : goal.returns-then-steps-gt-STEPS
returns-then-steps-gt-STEPS c =
    let a = c.args in
    let m = untaken a.bytes.now a.n a.steps a.list.now (over_steps a.n a.steps (length a.list.now) c.if-n-gt-CELLS.false c.if-steps-gt-STEPS.true) in
    record { count = m.0; list = m.1 }

pub returns-then-list-steps : goal.returns-then-list-steps
returns-then-list-steps c =
    let a = c.args in
    let short = too_short a.n a.steps (length a.list.now) c.if-n-gt-CELLS.false c.if-steps-gt-STEPS.false c.if-list-steps.true in
    let m = untaken a.bytes.now a.n a.steps a.list.now short in
    record { count = m.0; list = m.1 }

pub loop-t-init : goal.loop-t-init
loop-t-init c = listed_none

pub loop-t-preserved : goal.loop-t-preserved
loop-t-preserved c =
    let room : RoomForRows c.args.n c.args.steps (length c.args.list.now) =
    record { cells = c.if-n-gt-CELLS.false; steps = c.if-steps-gt-STEPS.false; long = c.if-list-steps.false } in
    listed_more c.loop-t.invariant room c.loop-t-test.true c.row-row.ensures c.put_numbers.ensures

pub returns : goal.returns
returns c =
    let room : RoomForRows c.args.n c.args.steps (length c.args.list.now) =
    record { cells = c.if-n-gt-CELLS.false; steps = c.if-steps-gt-STEPS.false; long = c.if-list-steps.false } in
    let m = listed_end c.loop-t.invariant room c.loop-t-test.false in
    record { count = m.0; list = m.1 }
