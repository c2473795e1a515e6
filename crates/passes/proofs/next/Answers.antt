-- The passes of a step make the engine's step. Assumes nothing.
use Rattle.std.proofs.Common.{◌≡◌, ℕ, min, refl, arith}
use Rattle.passes.specs.Next.{send_ready, add_ready, add_lent, row_sent, next_is, rests_are, next_turn}
use Rattle.passes.proofs.next.Goals as goal

-- the gate's outflow, from its demand
gate : {first demand known : ℕ} (room : ℕ) → first ≡ min demand room → demand ≡ known → first ≡ min known room
gate room e d = rw (← d) e

pub send-sent-requires : goal.send-sent-requires
send-sent-requires c =
    let p = c.requires in
    let first = gate _ c.least-first.ensures c.gate_demand.ensures in
    (send_ready p.ready first, (p.ready.columns, p.places))

pub add_releases-sums-requires : goal.add_releases-sums-requires
add_releases-sums-requires c =
    let first = gate _ c.least-first.ensures c.gate_demand.ensures in
    let e = c.send-sent.ensures in
    (add_lent c.requires.ready first e.send_gives e.kept, e.kept.columns)

pub overflow_sub-queued : goal.overflow_sub-queued
overflow_sub-queued c =
    let first = gate _ c.least-first.ensures c.gate_demand.ensures in
    omega (arith, next_turn c.requires.ready first)

pub overflow_add-result-5 : goal.overflow_add-result-5
overflow_add-result-5 c =
    let first = gate _ c.least-first.ensures c.gate_demand.ensures in
    omega (arith, next_turn c.requires.ready first)

pub returns : goal.returns
returns c r row k =
    let b = gate _ c.least-first.ensures c.gate_demand.ensures in
    let h = c.send-sent.ensures.send_gives in
    let same = c.send-sent.ensures.kept in
    let kept = c.add_releases-sums.ensures.kept in
    let g = c.add_releases-sums.ensures.by_index _ _ (add_ready k b h same) in
    record {
      columns = kept.columns;
      next = next_is k b h same g kept refl refl;
      outflows = row_sent k b h same c.requires.places;
      rests = rests_are k b h same g kept;
    }
