-- `filling::fill_opened`: each return follows from the tests before it. Assumes nothing.
use Rattle.std.proofs.Common.{◌≡◌, ◌∙◌, refl, sym, ap, arith, rules}
use Rattle.numbers.specs.Zeros.{zeros_at, length_zeros}
use Rattle.model.specs.Refusals.{refusal_number}
use Rattle.model.specs.Running.{end_answer}
use Rattle.filling.specs.FilledPromise.{promise_refused, promise_short, promise_all, with_longest, refused_longest, longs_all}
use Rattle.filling.proofs.fill_opened.Goals as goal

pub returns-then-number-ne0 : goal.returns-then-number-ne0
returns-then-number-ne0 c =
    let a = c.args in
    let r = c.fill_reading-a in
    let n : refusal_number r.result.refusal ≡ 0 → ⊥ = λ z. c.if-number-ne0.true (c.number.ensures ∙ z) in
    let e = ap end_answer c.unbegun.ensures.0 in
    let p = refused_longest a.laws a.bytes.now a.table.now a.out.now (refusal_number r.result.refusal) r.result.place n e
    (promise_refused a.laws a.bytes.now a.table.now a.out.now r.ensures n e) c.unbegun.ensures.1 in
    record { answer = p.0; bytes = p.1.0; list = p.1.1.0; demand = p.1.1.1.0; releases = p.1.1.1.1.0; longest = p.1.1.1.1.1 }

pub returns-then-out-steps : goal.returns-then-out-steps
returns-then-out-steps c =
    let a = c.args in
    let e = ap end_answer c.unbegun-then-out-steps.ensures.0 in
    let p = refused_longest a.laws a.bytes.now a.table.now a.out.now 11 0 (λ z. omega arith) e
    (promise_short a.laws a.bytes.now a.table.now a.out.now c.fill_reading-a.ensures (sym c.number.ensures ∙ c.if-number-ne0.false) (omega arith) e)
    c.unbegun-then-out-steps.ensures.1 in
    record { answer = p.0; bytes = p.1.0; list = p.1.1.0; demand = p.1.1.1.0; releases = p.1.1.1.1.0; longest = p.1.1.1.1.1 }

pub fill_rows-requires : goal.fill_rows-requires
fill_rows-requires c =
    let k = (c.fill_reading-a.ensures.passed (sym c.number.ensures ∙ c.if-number-ne0.false)).held in
    let cells = k.ok.road.cells in
    record {
      fillable = record { readable = k; rows = λ k. refl; long = omega arith };
      entered = λ i l. omega (arith, zeros_at i);
      long_releases = omega (arith, length_zeros);
      long_entries = omega (arith, length_zeros);
    }

pub returns : goal.returns
returns c =
    let a = c.args in
    let r = c.fill_reading-a in
    let made = c.fill_rows.ensures in
    let well = sym c.number.ensures ∙ c.if-number-ne0.false in
    let p = with_longest
    (promise_all a.laws a.bytes.now a.table.now a.out.now r.ensures well (search rules) made.answer made.releases made.list refl)
    (longs_all a.laws a.bytes.now a.table.now a.out.now r.ensures well (search rules) made.longest) in
    record { answer = p.0; bytes = p.1.0; list = p.1.1.0; demand = p.1.1.1.0; releases = p.1.1.1.1.0; longest = p.1.1.1.1.1 }
