-- The line of the gate is put before the loop, and each turn puts the line of one cell.
use Rattle.std.proofs.Common.{arith}
use Rattle.listing.specs.ListingLaws.{listed_none, listed_more, listed_room, listed_end}
use Rattle.listing.proofs.lines.Goals as goal

pub loop-i-init : goal.loop-i-init
loop-i-init c = listed_none

pub line-end-requires-in-loop-i : goal.line-end-requires-in-loop-i
line-end-requires-in-loop-i c =
    let z = listed_room c.loop-i.invariant _ _ c.line-end.ensures in
    omega (arith, z.end, z.same)

pub loop-i-preserved : goal.loop-i-preserved
loop-i-preserved c = listed_more c.loop-i.invariant c.loop-i-test.true c.line-end-in-loop-i.ensures

pub returns : goal.returns
returns c = listed_end c.loop-i.invariant _ _ c.line-end.ensures c.loop-i-test.false
