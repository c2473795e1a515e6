-- Each return follows from the tests before it: an end of the search, and `meets_contract` for the three clauses.
use Rattle.std.proofs.Common.{sym, ◌∙◌, length}
use Rattle.numbers.specs.Tests.{both_true}
use Rattle.wanted.specs.WantedLaws.{ok_request}
use Rattle.wanted.proofs.Theorems.{meets_contract}
use Rattle.wanted.specs.Loops.{ends_frame, ends_arrivals, ends_none, ends_found}
use Rattle.wanted.proofs.wanted.Goals as goal

pub returns-then-not-frame_within : goal.returns-then-not-frame_within
returns-then-not-frame_within c =
    let a = c.args in
    let n = sym c.frame_within.ensures ∙ c.if-not-frame_within.true in
    let e = ends_frame a.start a.ceiling a.rate a.arrivals.now a.table.now n in
    let m = meets_contract a.start a.ceiling a.rate a.arrivals.now a.table.now e.answer e.leaves in
    record { answer = m.0; table = m.1.0; ends = m.1.1 }

pub returns-then-not-all_within : goal.returns-then-not-all_within
returns-then-not-all_within c =
    let a = c.args in
    let framed = sym c.frame_within.ensures ∙ c.if-not-frame_within.false in
    let n = sym c.all_within.ensures ∙ c.if-not-all_within.true in
    let e = ends_arrivals a.start a.ceiling a.rate a.arrivals.now a.table.now framed n in
    let m = meets_contract a.start a.ceiling a.rate a.arrivals.now a.table.now e.answer e.leaves in
    record { answer = m.0; table = m.1.0; ends = m.1.1 }

pub possible-requires : goal.possible-requires
possible-requires c =
    let a = c.args in
    let framed = sym c.frame_within.ensures ∙ c.if-not-frame_within.false in
    let arrive = sym c.all_within.ensures ∙ c.if-not-all_within.false in
    let request = ok_request a.start a.ceiling a.rate a.arrivals.now (length a.table.now) (both_true _ _ framed arrive) in
    request.limits

pub returns-then-not-possible : goal.returns-then-not-possible
returns-then-not-possible c =
    let a = c.args in
    let framed = sym c.frame_within.ensures ∙ c.if-not-frame_within.false in
    let arrive = sym c.all_within.ensures ∙ c.if-not-all_within.false in
    let n = sym c.possible.ensures ∙ c.if-not-possible.true in
    let e = ends_none a.start a.ceiling a.rate a.arrivals.now a.table.now framed arrive n in
    let m = meets_contract a.start a.ceiling a.rate a.arrivals.now a.table.now e.answer e.leaves in
    record { answer = m.0; table = m.1.0; ends = m.1.1 }

pub fill-requires : goal.fill-requires
fill-requires c =
    let a = c.args in
    let framed = sym c.frame_within.ensures ∙ c.if-not-frame_within.false in
    let arrive = sym c.all_within.ensures ∙ c.if-not-all_within.false in
    let request = ok_request a.start a.ceiling a.rate a.arrivals.now (length a.table.now) (both_true _ _ framed arrive) in
    (request.limits, request.same)

pub returns : goal.returns
returns c =
    let a = c.args in
    let framed = sym c.frame_within.ensures ∙ c.if-not-frame_within.false in
    let arrive = sym c.all_within.ensures ∙ c.if-not-all_within.false in
    let n = sym c.possible.ensures ∙ c.if-not-possible.false in
    let e = ends_found a.start a.ceiling a.rate a.arrivals.now a.table.now framed arrive n in
    let m = meets_contract a.start a.ceiling a.rate a.arrivals.now a.table.now e.answer (c.fill.ensures ∙ e.leaves) in
    record { answer = m.0; table = m.1.0; ends = m.1.1 }
