-- `filling::entries_within`: both returns follow from the tests so far. Assumes nothing.
use Rattle.std.proofs.Common.{sym, arith}
use borrow.Author.Tests.{le-leb, lt-leb}
use Rattle.model.specs.Numbers.{at}
use Rattle.std.proofs.Common.{leb}
use Rattle.numbers.specs.FirstLaws.{all_true, all_fails}
use Rattle.filling.proofs.entries_within.Goals as goal

pub returns-then-held-i : goal.returns-then-held-i
returns-then-held-i c =
    let a = c.args in
    let i = c.loop-i.i in
    sym (all_fails (λ j. leb (at a.entries j) (at a.held j)) a.n i c.loop-i-test.true (lt-leb (at a.entries i) (at a.held i) c.if-held-i.true))

pub returns : goal.returns
returns c =
    let a = c.args in
    sym (all_true (λ j. leb (at a.entries j) (at a.held j)) a.n
    (λ j m. le-leb (at a.entries j) (at a.held j) (c.loop-i.invariant.below j (omega (arith, c.loop-i-test.false)))))
