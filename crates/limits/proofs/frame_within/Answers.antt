-- Each return follows from the tests before it.
use Rattle.std.proofs.Common.{rules, ◌+◌, le-leb}
use Rattle.std.proofs.lemmas.Bool.{lt-leb}
use Rattle.model.specs.Limits.{frame_ok}
use Rattle.limits.specs.LimitsLaws.{frame_is}
use Rattle.limits.proofs.frame_within.Goals as goal

pub returns-then-n-lt1 : goal.returns-then-n-lt1
unfolding frame_ok
returns-then-n-lt1 c = simp (lt-leb _ _ c.if-n-lt1.true)

pub returns-then-n-gt-CELLS : goal.returns-then-n-gt-CELLS
unfolding frame_ok
returns-then-n-gt-CELLS c = simp (le-leb _ _ c.if-n-lt1.false, lt-leb _ _ c.if-n-gt-CELLS.true)

pub returns-then-done-gt-STEPS : goal.returns-then-done-gt-STEPS
unfolding frame_ok
returns-then-done-gt-STEPS c = simp (le-leb _ _ c.if-n-lt1.false, le-leb _ _ c.if-n-gt-CELLS.false, lt-leb _ _ c.if-done-gt-STEPS.true)

pub returns : goal.returns
returns c =
    let a = c.args in
    frame_is a.n a.done (a.gate + a.road + a.ramp) a.numbers (search rules) (search rules) c.if-done-gt-STEPS.false c.times_within.ensures
