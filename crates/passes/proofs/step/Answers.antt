-- Releases that fit make the engine's step, others have the model's fault. Assumes nothing.
use Rattle.std.proofs.Common.{◌≡◌, ℕ, ◌∙◌, refl}
use Rattle.model.specs.Record.{row_start}
use Rattle.passes.specs.Tables.{road_in}
use Rattle.passes.specs.ReleasesFit.{take_ready, fit_answer}
use Rattle.passes.specs.Step.{gate_row, fit_ready, ready, gives_fault, gives_step}
use Rattle.passes.proofs.step.Goals as goal

-- where the row starts, from the version
row_at : {start v known : ℕ} (n k : ℕ) → start ≡ row_start v n k → v ≡ known → start ≡ row_start known n k
row_at n k e v = rw (← v) e

pub take_releases-fits-requires : goal.take_releases-fits-requires
take_releases-fits-requires c =
    let a = c.args in
    let start = row_at _ _ c.row_start-start.ensures c.version.ensures in
    take_ready (fit_ready c.requires.ready start) c.supplies.ensures

pub returns-then-not-fits : goal.returns-then-not-fits
returns-then-not-fits c r h =
    let a = c.args in
    let start = row_at _ _ c.row_start-start.ensures c.version.ensures in
    let found = fit_answer (fit_ready h start) c.supplies.ensures c.take_releases-fits.ensures in
    gives_fault h found c.if-not-fits.true (c.fault-found.ensures (road_in r a.size a.rates.now a.sizes.now) a.l)

pub next-ledger-requires : goal.next-ledger-requires
next-ledger-requires c =
    let a = c.args in
    let k = c.requires in
    let start = row_at _ _ c.row_start-start.ensures c.version.ensures in
    let found = fit_answer (fit_ready k.ready start) c.supplies.ensures c.take_releases-fits.ensures in
    let arrives = c.number-arrivals.ensures.0 ∙ gate_row a.bytes.now a.size.n a.k c.row_start-start.result start in
    record {
      road = road_in k.road a.size a.rates.now a.sizes.now;
      row = _;
      ready = ready k.ready found c.demands.ensures c.if-not-fits.false arrives;
      places = k.ready.places;
    }

pub returns : goal.returns
returns c r h =
    let a = c.args in
    let start = row_at _ _ c.row_start-start.ensures c.version.ensures in
    let found = fit_answer (fit_ready h start) c.supplies.ensures c.take_releases-fits.ensures in
    let arrives = c.number-arrivals.ensures.0 ∙ gate_row a.bytes.now a.size.n a.k c.row_start-start.result start in
    let e = c.demands.ensures in
    let fits = c.if-not-fits.false in
    gives_step h found e fits refl (c.next-ledger.ensures (road_in r a.size a.rates.now a.sizes.now) _ (ready h found e fits arrives))
