-- Laws of running and judging: their ends, and the limits in every state that they reach. Assumes nothing.
use Rattle.std.specs.Prelude.{List, ℕ}
use Rattle.model.specs.Schedules.{Study}
use Rattle.model.specs.Running.{run_fault, first_step, table_of}

-- the lent list after a run: the rows before its end are written
abbrev pub run_table : Study → List ℕ → List ℕ
run_table a list = table_of a list (first_step (run_fault a) a.steps)
