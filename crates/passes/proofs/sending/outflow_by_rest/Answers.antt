-- The remainder is enough instead of b × F: each return sends what the rule of one place says. Assumes nothing.
use Rattle.std.proofs.Common.{sym, refl, subst, ℕ, arith}
use Rattle.passes.specs.Rest.{OutflowByRest, sends_whole, sends_all, sends_room, some_share}
use Rattle.passes.proofs.sending.outflow_by_rest.Goals as goal

pub returns-then-share-eq1000 : goal.returns-then-share-eq1000
returns-then-share-eq1000 c F e =
    let a = c.args in
    subst (λ (b : ℕ). OutflowByRest b F a.room a.demand c.least-all.result c.least-all.result 0) (sym c.if-share-eq1000.true) (sends_whole c.least-all.ensures)

pub returns-then-room-entering : goal.returns-then-room-entering
returns-then-room-entering c F e =
    let a = c.args in
    let some = some_share a.share a.rest a.demand a.room c.requires.1.1 c.if-room-entering.true in
    sends_room e some refl refl c.if-room-entering.true refl refl c.requires.0

pub returns : goal.returns
returns c F e = sends_all e refl refl (omega arith)
