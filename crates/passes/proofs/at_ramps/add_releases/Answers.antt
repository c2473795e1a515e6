-- A turn adds the release of one listed cell and stores its queue. Assumes nothing.
use Rattle.std.proofs.Common.{refl, ◌∙◌, arith}
use Rattle.passes.specs.Tables.{store_added_lem}
use Rattle.passes.specs.AddReleases.{add_none, add_more, add_end, add_turn}
use Rattle.passes.specs.RampList.{upto_none, upto_more}
use Rattle.passes.proofs.at_ramps.add_releases.Goals as goal

pub loop-j-init : goal.loop-j-init
loop-j-init c =
    let k = c.requires.0.ready in
    record {
      upto = upto_none k.listed k.cells;
      kept = record { columns = c.requires.1; cumulatives = refl; rests = refl };
      added = λ give wait m. add_none;
    }

pub overflow_add-state : goal.overflow_add-state
overflow_add-state c =
    let p = c.requires.0 in
    omega (arith, add_turn p.ready (c.loop-j.invariant.added p.give p.wait p.ready) c.loop-j-test.true)

pub overflow_add-on_road : goal.overflow_add-on_road
overflow_add-on_road c =
    let p = c.requires.0 in
    let h = c.loop-j.invariant.added p.give p.wait p.ready in
    omega (arith, add_turn p.ready h c.loop-j-test.true, h.bound, p.small, c.loop-j.invariant.upto)

pub overflow_add-at_ramps : goal.overflow_add-at_ramps
overflow_add-at_ramps c =
    let p = c.requires.0 in
    let h = c.loop-j.invariant.added p.give p.wait p.ready in
    omega (arith, add_turn p.ready h c.loop-j-test.true, h.small, c.loop-j.invariant.upto)

pub loop-j-preserved : goal.loop-j-preserved
loop-j-preserved c =
    let v = c.loop-j.invariant in
    let st = store_added_lem c.loop-j.state v.kept.columns _ _ _ in
    record {
      upto = upto_more v.upto c.loop-j-test.true;
      kept = record { columns = st.columns; cumulatives = st.cumulatives ∙ v.kept.cumulatives; rests = st.rests ∙ v.kept.rests };
      added = λ give wait m. rw (st.helds, st.queues) (add_more m (v.added give wait m) c.loop-j-test.true);
    }

pub returns-clause-by_index : goal.returns-clause-by_index
returns-clause-by_index c = λ give wait m. add_end m (c.loop-j.invariant.added give wait m) c.loop-j-test.false c.loop-j.invariant.upto

pub returns-clause-small : goal.returns-clause-small
returns-clause-small c =
    let p = c.requires.0 in
    let b = c.loop-j.invariant.upto in
    let h = c.loop-j.invariant.added p.give p.wait p.ready in
    (omega (arith, h.bound, p.small, p.ready.cells, b), omega (arith, h.small, b))
