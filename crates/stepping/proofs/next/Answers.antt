-- `stepping::next` meets its contract: the engine's row may be used for a move, and the state after it is the next state.
use Rattle.stepping.specs.Findings.{movable, next_by_outflows}
use Rattle.stepping.proofs.next.Goals as goal

pub next_by-requires : goal.next_by-requires
next_by-requires c = let p = c.requires.0 in (movable p c.fill_outflows.ensures, p.left)

pub returns-clause-state : goal.returns-clause-state
returns-clause-state c = next_by_outflows c.requires.0 c.fill_outflows.ensures c.next_by.ensures
