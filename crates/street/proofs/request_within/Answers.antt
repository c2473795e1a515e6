-- Each return follows from the tests before it, in the order of the model's test.
use Rattle.std.proofs.Common.{sym, ◌∙◌}
use Rattle.street.specs.StreetLaws.{frame_fails, guarantees_fail, wishes_fail, sum_decides}
use Rattle.street.proofs.request_within.Goals as goal

pub returns-then-not-frame_within : goal.returns-then-not-frame_within
returns-then-not-frame_within c =
    let a = c.args in
    frame_fails a.limit a.guarantees.now a.wishes.now a.places (sym c.frame_within.ensures ∙ c.if-not-frame_within.true)

pub returns-then-not-all_within : goal.returns-then-not-all_within
returns-then-not-all_within c =
    let a = c.args in
    let framed = sym c.frame_within.ensures ∙ c.if-not-frame_within.false in
    guarantees_fail a.limit a.guarantees.now a.wishes.now a.places framed (sym c.all_within.ensures ∙ c.if-not-all_within.true)

pub returns-then-not-all_within-2 : goal.returns-then-not-all_within-2
returns-then-not-all_within-2 c =
    let a = c.args in
    let framed = sym c.frame_within.ensures ∙ c.if-not-frame_within.false in
    let guaranteed = sym c.all_within.ensures ∙ c.if-not-all_within.false in
    wishes_fail a.limit a.guarantees.now a.wishes.now a.places framed guaranteed (sym c.all_within-2.ensures ∙ c.if-not-all_within-2.true)

pub returns : goal.returns
returns c =
    let a = c.args in
    let framed = sym c.frame_within.ensures ∙ c.if-not-frame_within.false in
    let guaranteed = sym c.all_within.ensures ∙ c.if-not-all_within.false in
    let wished = sym c.all_within-2.ensures ∙ c.if-not-all_within-2.false in
    sum_decides a.limit a.guarantees.now a.wishes.now a.places framed guaranteed wished c.sum.ensures.0
