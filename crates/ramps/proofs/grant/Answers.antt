-- A turn grants the release of one listed cell, puts it into the bytes and stores what it leaves. Assumes nothing.
use Rattle.std.proofs.Common.{refl, ◌∙◌, arith, length-set}
use Rattle.ramps.specs.Grants.{grant_none, grant_turn, arrives_here, turn_release, grant_more, grant_end}
use Rattle.ramps.proofs.grant.Goals as goal

pub loop-j-init : goal.loop-j-init
loop-j-init c = record {
  within = omega arith;
  columns = c.requires.ready.long.columns;
  granted = λ laws r l releases entries k g. grant_none g;
}

pub overflow_add-coming : goal.overflow_add-coming
overflow_add-coming c =
    let p = c.requires in
    let h = c.loop-j.invariant.granted p.laws p.road p.ledger p.releases p.entries p.step p.ready in
    let t = grant_turn p.ready h c.loop-j-test.true in
    omega (arith, t, c.number-arrivals.ensures.0 ∙ arrives_here p.ready h c.loop-j-test.true)

pub overflow_sub-work : goal.overflow_sub-work
overflow_sub-work c =
    let p = c.requires in
    let h = c.loop-j.invariant.granted p.laws p.road p.ledger p.releases p.entries p.step p.ready in
    (turn_release p.ready h c.loop-j-test.true c.law_in-law.ensures c.number-arrivals.ensures.0 refl c.cap.ensures c.granted-given.ensures).taken

pub overflow_sub-work-in-loop-j : goal.overflow_sub-work-in-loop-j
overflow_sub-work-in-loop-j c =
    let p = c.requires in
    let h = c.loop-j.invariant.granted p.laws p.road p.ledger p.releases p.entries p.step p.ready in
    (turn_release p.ready h c.loop-j-test.true c.law_in-law.ensures c.number-arrivals.ensures.0 refl c.cap.ensures c.granted-given.ensures).there

pub overflow_add-work : goal.overflow_add-work
overflow_add-work c =
    let p = c.requires in
    let h = c.loop-j.invariant.granted p.laws p.road p.ledger p.releases p.entries p.step p.ready in
    let t = grant_turn p.ready h c.loop-j-test.true in
    let x = turn_release p.ready h c.loop-j-test.true c.law_in-law.ensures c.number-arrivals.ensures.0 refl c.cap.ensures c.granted-given.ensures in
    omega (arith, t, x)

pub loop-j-preserved : goal.loop-j-preserved
loop-j-preserved c =
    let v = c.loop-j.invariant in
    record {
      within = omega arith;
      columns = simp length-set v.columns;
      granted = λ laws r l releases entries k g.
          grant_more g (v.granted laws r l releases entries k g) c.loop-j-test.true c.law_in-law.ensures c.number-arrivals.ensures.0 refl
          c.cap.ensures c.granted-given.ensures c.put_number.ensures;
    }

pub returns : goal.returns
returns c laws r l releases entries k g = grant_end g (c.loop-j.invariant.granted laws r l releases entries k g) c.loop-j-test.false
