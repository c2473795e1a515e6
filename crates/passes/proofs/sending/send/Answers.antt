-- A turn sends from one cell: its numbers are within the limits, and its stores are those of the pass. Assumes nothing.
use Rattle.std.proofs.Common.{refl, ◌∙◌, arith, length-set}
use Rattle.passes.specs.Tables.{store_sent_lem}
use Rattle.passes.specs.Outflows.{send_none, turn_ready, turn, send_more}
use Rattle.passes.proofs.sending.send.Goals as goal

pub loop-i-init : goal.loop-i-init
loop-i-init c = record {
  kept = record { columns = c.requires.1.0; queues = refl };
  places = simp length-set c.requires.1.1;
  sent = send_none c.requires.0 refl;
}

pub outflow_by_rest-s-requires : goal.outflow_by_rest-s-requires
outflow_by_rest-s-requires c = turn_ready c.requires.0 c.loop-i.invariant.sent c.loop-i-test.true

pub overflow_add-left : goal.overflow_add-left
overflow_add-left c = omega (arith, turn c.requires.0 c.loop-i.invariant.sent c.loop-i-test.true c.outflow_by_rest-s.ensures)

pub overflow_sub-left : goal.overflow_sub-left
overflow_sub-left c = omega (arith, turn c.requires.0 c.loop-i.invariant.sent c.loop-i-test.true c.outflow_by_rest-s.ensures)

pub overflow_add-state : goal.overflow_add-state
overflow_add-state c = omega (arith, turn c.requires.0 c.loop-i.invariant.sent c.loop-i-test.true c.outflow_by_rest-s.ensures)

pub overflow_add-on_road : goal.overflow_add-on_road
overflow_add-on_road c = omega (arith, turn c.requires.0 c.loop-i.invariant.sent c.loop-i-test.true c.outflow_by_rest-s.ensures)

pub loop-i-preserved : goal.loop-i-preserved
loop-i-preserved c =
    let v = c.loop-i.invariant in
    let st = store_sent_lem c.loop-i.state v.kept.columns c.loop-i.i _ _ _ in
    record {
      kept = record { columns = st.columns; queues = st.queues ∙ v.kept.queues };
      places = simp length-set v.places;
      sent = rw (st.helds, st.cumulatives, st.rests) (send_more c.requires.0 v.sent c.loop-i-test.true c.outflow_by_rest-s.ensures);
    }
