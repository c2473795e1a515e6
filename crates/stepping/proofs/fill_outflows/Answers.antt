-- `stepping::fill_outflows` meets its contract: the releases fit, so their test leaves the rooms.
use Rattle.std.proofs.Common.{ap, ◌∙◌}
use Rattle.model.specs.Refusals.{FaultAnswer}
use Rattle.theory.specs.StepLaws.{fit_releases}
use Rattle.outflows.specs.Columns.{ledger_of}
use Rattle.stepping.proofs.fill_outflows.Goals as goal

pub returns : goal.returns
returns c =
    let r = c.args.r in
    let s = c.args.s in
    let l = ledger_of s in
    let row = c.args.row.now in
    let e = c.releases.ensures in
    let none = ap (λ (q : FaultAnswer). q.number) (e.fault r l s.cumulative ∙ fit_releases r s row c.requires.0.released) in
    c.outflows.ensures r l s.queue row (e.rooms r l s.cumulative none)
