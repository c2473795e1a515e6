-- `filling::fill_row`: with the releases granted the step is ready. Assumes nothing.
use Rattle.std.proofs.Common.{◌∙◌, ℕ, ap}
use Rattle.model.specs.Record.{row_start}
use Rattle.passes.specs.Tables.{road_in}
use Rattle.filling.specs.Turn.{grant_ready, step_ready, row_filled}
use Rattle.filling.proofs.fill_row.Goals as goal

pub grant-requires : goal.grant-requires
grant-requires c =
    let a = c.args in
    let p = c.requires in
    let starts = c.row_start-start.ensures ∙ ap (λ (v : ℕ). row_start v a.size.n a.k) c.version.ensures in
    record {
      laws = p.laws;
      road = road_in p.road a.size a.rates.now a.sizes.now;
      ledger = a.l;
      releases = p.releases;
      entries = p.entries;
      step = a.k;
      ready = grant_ready p.ready c.supplies.ensures starts;
    }

pub next-requires : goal.next-requires
next-requires c =
    let a = c.args in
    let p = c.requires in
    let q = road_in p.road a.size a.rates.now a.sizes.now in
    let e = c.supplies.ensures in
    let starts = c.row_start-start.ensures ∙ ap (λ (v : ℕ). row_start v a.size.n a.k) c.version.ensures in
    record {
      road = q;
      row = _;
      ready = step_ready p.ready e starts
          (c.grant.ensures p.laws q a.l p.releases p.entries a.k (grant_ready p.ready e starts))
          c.demands.ensures c.number-arrivals.ensures.0;
      places = p.ready.places;
    }

pub returns : goal.returns
returns c laws r releases entries f =
    let a = c.args in
    let q = road_in r a.size a.rates.now a.sizes.now in
    let e = c.supplies.ensures in
    let starts = c.row_start-start.ensures ∙ ap (λ (v : ℕ). row_start v a.size.n a.k) c.version.ensures in
    let given = c.grant.ensures laws q a.l releases entries a.k (grant_ready f e starts) in
    row_filled f e starts given c.demands.ensures
    (c.next.ensures q _ (step_ready f e starts given c.demands.ensures c.number-arrivals.ensures.0))
