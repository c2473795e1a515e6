-- Each return follows from the test before it: the laws of the answer and of the grants, and `meets_contract` for the three clauses.
use Rattle.std.proofs.Common.{sym, ◌∙◌, length}
use Rattle.street.specs.StreetLaws.{ok_request, refused_answer, refused_grants, granted_answer, granted_grants}
use Rattle.street.proofs.Theorems.{meets_contract}
use Rattle.street.proofs.grant.Goals as goal

pub returns-then-not-request_within : goal.returns-then-not-request_within
returns-then-not-request_within c =
    let a = c.args in
    let n = sym c.request_within.ensures ∙ c.if-not-request_within.true in
    let answer = sym (refused_answer a.limit a.guarantees.now a.wishes.now a.grants.now n) in
    let grants = sym (refused_grants a.limit a.guarantees.now a.wishes.now a.grants.now n) in
    let m = meets_contract a.limit a.guarantees.now a.wishes.now a.grants.now answer grants in
    record { answer = m.0; grants = m.1.0; ends = m.1.1 }

pub share-requires : goal.share-requires
share-requires c =
    let a = c.args in
    ok_request a.limit a.guarantees.now a.wishes.now (length a.grants.now) (sym c.request_within.ensures ∙ c.if-not-request_within.false)

pub returns : goal.returns
returns c =
    let a = c.args in
    let accepted = sym c.request_within.ensures ∙ c.if-not-request_within.false in
    let answer = sym (granted_answer a.limit a.guarantees.now a.wishes.now a.grants.now accepted) in
    let grants = c.share.ensures ∙ sym (granted_grants a.limit a.guarantees.now a.wishes.now a.grants.now accepted) in
    let m = meets_contract a.limit a.guarantees.now a.wishes.now a.grants.now answer grants in
    record { answer = m.0; grants = m.1.0; ends = m.1.1 }
