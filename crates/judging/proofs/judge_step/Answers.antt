-- The verdict is that of the step; without a fault the row may be used for the move.
use Rattle.std.proofs.Common.{◌≡◌, sym, ◌∙◌}
use Rattle.model.specs.Refusals.{refusal_number}
use Rattle.outflows.specs.Columns.{road_of}
use Rattle.judging.specs.JudgedStep.{movable}
use Rattle.judging.proofs.judge_step.Goals as goal

pub advance-t-requires : goal.advance-t-requires
advance-t-requires c =
    let a = c.args in
    let k = c.requires in
    let z : refusal_number c.verdict-q.result.refusal ≡ 0 = sym c.number.ensures ∙ c.if-number-ne0.false in
    record {
      road = road_of k.road a.n a.gate_capacity a.speed.now a.wave.now a.share.now a.jam.now a.capacity.now;
      movable = movable k (c.verdict-q.ensures.fault k.road a.l) z;
      left = k.left;
    }

pub returns : goal.returns
returns c r =
    let a = c.args in
    let z : refusal_number c.verdict-q.result.refusal ≡ 0 = sym c.number.ensures ∙ c.if-number-ne0.false in
    record {
      found = c.verdict-q.ensures.fault r a.l;
      moved = λ _. c.advance-t.ensures (road_of r a.n a.gate_capacity a.speed.now a.wave.now a.share.now a.jam.now a.capacity.now);
      kept = λ n. absurd (n z);
    }
