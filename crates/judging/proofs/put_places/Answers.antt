-- A turn writes the carried number and carries the next; after the loop the last number completes the row.
use Rattle.std.proofs.Common.{refl, sym, ap, ◌∙◌, Bool, cond}
use Rattle.model.specs.Numbers.{placed}
use Rattle.model.specs.Judging.{places_of}
use Rattle.judging.specs.PutPlaces.{putting_none, putting_more, putting_end}
use Rattle.judging.proofs.put_places.Goals as goal

pub loop-i-init : goal.loop-i-init
loop-i-init c = putting_none

pub loop-i-preserved : goal.loop-i-preserved
loop-i-preserved c = putting_more c.loop-i.invariant c.loop-i-test.true refl

pub returns : goal.returns
returns c =
    let a = c.args in
    putting_end c.loop-i.invariant c.loop-i-test.false
    ∙ ap (λ (b : Bool). cond b (placed a.list.now a.from (places_of a.gate a.cells.now a.n)) a.list.now) (sym c.if-not-writes.false)
