-- `joining::put_joined` meets its contract: the header, the cells of both roads and the rows, one after the other.
use Rattle.std.proofs.Common.{[], rules}
use Rattle.model.specs.Road.{start_state}
use Rattle.model.specs.Reading.{study_by}
use Rattle.joining.specs.JoinedBytes.{room_first, room_second, room_rows, joined_puts}
use Rattle.joining.proofs.put_joined.Goals as goal

pub put_cells-to_next-requires : goal.put_cells-to_next-requires
put_cells-to_next-requires c =
    let a = study_by c.args.upstream.now [] c.args.road (start_state c.args.start) c.args.steps in
    let b = study_by c.args.downstream.now [] c.args.next (start_state c.args.next_start) c.args.steps in
    room_first a b c.args.share c.requires _ _ c.put_header-to_cells.ensures _ c.with_share-joint.ensures

pub put_cells-to_rows-requires : goal.put_cells-to_rows-requires
put_cells-to_rows-requires c =
    let a = study_by c.args.upstream.now [] c.args.road (start_state c.args.start) c.args.steps in
    let b = study_by c.args.downstream.now [] c.args.next (start_state c.args.next_start) c.args.steps in
    room_second a b c.args.share c.requires _ _ c.put_header-to_cells.ensures _ c.with_share-joint.ensures _ _ c.put_cells-to_next.ensures

pub put_joined_rows-requires : goal.put_joined_rows-requires
put_joined_rows-requires c =
    let a = study_by c.args.upstream.now [] c.args.road (start_state c.args.start) c.args.steps in
    let b = study_by c.args.downstream.now [] c.args.next (start_state c.args.next_start) c.args.steps in
    let room =
    room_rows a b c.args.share c.requires _ _ c.put_header-to_cells.ensures _ c.with_share-joint.ensures _ _ c.put_cells-to_next.ensures
    (search rules) _ _ c.put_cells-to_rows.ensures in
    (c.requires.upstream, (c.requires.downstream, room))

pub returns : goal.returns
returns c =
    let a = study_by c.args.upstream.now [] c.args.road (start_state c.args.start) c.args.steps in
    let b = study_by c.args.downstream.now [] c.args.next (start_state c.args.next_start) c.args.steps in
    joined_puts a b c.args.share c.requires _ _ c.put_header-to_cells.ensures _ c.with_share-joint.ensures _ _ c.put_cells-to_next.ensures
    (search rules) _ _ c.put_cells-to_rows.ensures _ _ c.put_joined_rows.ensures
