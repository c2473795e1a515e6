-- `put`: each return follows from the tests before it, and a lemma of the theorems gives its three clauses.
use Rattle.std.proofs.Common.{sym, ◌∙◌}
use Rattle.reading.specs.Within.{read_within_lem, read_row_lem}
use Rattle.put.specs.PutLaws.{ramp_facts, rates_facts, ends_unread, ends_ramp, ends_rates, ends_put}
use Rattle.put.specs.Theorems.{meets_contract}
use Rattle.put.proofs.put.Goals as goal

pub returns-then-number-ne0 : goal.returns-then-number-ne0
returns-then-number-ne0 c =
    let a = c.args in
    let e = ends_unread a.bytes.now a.step a.cell a.release c.read-a.ensures (λ z. c.if-number-ne0.true (c.number.ensures ∙ z)) in
    let m = meets_contract a.bytes.now a.step a.cell a.release e in
    record { answer = m.0; bytes = m.1.0; ends = m.1.1 }

pub has_ramp-requires : goal.has_ramp-requires
has_ramp-requires c = (read_within_lem c.args.bytes.now _ c.read-a.ensures (sym c.number.ensures ∙ c.if-number-ne0.false)).road.cells

pub returns-then-not-has_ramp : goal.returns-then-not-has_ramp
returns-then-not-has_ramp c =
    let a = c.args in
    let read = sym c.number.ensures ∙ c.if-number-ne0.false in
    let e = ends_ramp a.bytes.now a.step a.cell a.release c.read-a.ensures read (sym c.has_ramp.ensures ∙ c.if-not-has_ramp.true) in
    let m = meets_contract a.bytes.now a.step a.cell a.release e in
    record { answer = m.0; bytes = m.1.0; ends = m.1.1 }

pub returns-then-not-rates_within : goal.returns-then-not-rates_within
returns-then-not-rates_within c =
    let a = c.args in
    let read = sym c.number.ensures ∙ c.if-number-ne0.false in
    let ramped = sym c.has_ramp.ensures ∙ c.if-not-has_ramp.false in
    let e = ends_rates a.bytes.now a.step a.cell a.release c.read-a.ensures read ramped (sym c.rates_within.ensures ∙ c.if-not-rates_within.true) in
    let m = meets_contract a.bytes.now a.step a.cell a.release e in
    record { answer = m.0; bytes = m.1.0; ends = m.1.1 }

pub put_release-requires : goal.put_release-requires
put_release-requires c =
    let a = c.args in
    let read = sym c.number.ensures ∙ c.if-number-ne0.false in
    let ramped = sym c.has_ramp.ensures ∙ c.if-not-has_ramp.false in
    let rated = sym c.rates_within.ensures ∙ c.if-not-rates_within.false in
    record {
      row = read_row_lem a.bytes.now _ c.read-a.ensures read a.step (rates_facts _ _ _ rated).0;
      within = (ramp_facts _ _ _ ramped).within;
    }

pub returns : goal.returns
returns c =
    let a = c.args in
    let read = sym c.number.ensures ∙ c.if-number-ne0.false in
    let ramped = sym c.has_ramp.ensures ∙ c.if-not-has_ramp.false in
    let rated = sym c.rates_within.ensures ∙ c.if-not-rates_within.false in
    let e = ends_put a.bytes.now a.step a.cell a.release c.read-a.ensures read ramped rated in
    let m = meets_contract a.bytes.now a.step a.cell a.release (record { answer = e.answer; leaves = c.put_release.ensures ∙ e.leaves }) in
    record { answer = m.0; bytes = m.1.0; ends = m.1.1 }
