-- `stepping::lent::next` meets its contract: the row filled may be used for the move.
use Rattle.std.proofs.Common.{ap, ◌∙◌}
use Rattle.model.specs.Move.{next_of}
use Rattle.outflows.specs.Columns.{with_demands, state_of}
use Rattle.stepping.specs.Findings.{movable}
use Rattle.stepping.proofs.lent.next.Goals as goal

pub advance-requires : goal.advance-requires
advance-requires c =
    let a = c.args in
    let p = c.requires in
    record {
      road = with_demands p.road a.n a.gate_capacity a.speed.now a.share.now a.capacity.now;
      movable = movable p.steppable (c.outflows.ensures p.road a.l a.queue.now a.row.now p.rooms);
      left = p.steppable.left;
    }

pub returns-clause-state : goal.returns-clause-state
returns-clause-state c r rooms =
    let a = c.args in
    let on = with_demands r a.n a.gate_capacity a.speed.now a.share.now a.capacity.now in
    let from = state_of a.l a.held.now a.queue.now a.cumulative.now in
    c.advance.ensures on ∙ ap (next_of on from a.row.now) (c.outflows.ensures r a.l a.queue.now a.row.now rooms)
