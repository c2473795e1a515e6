-- The longest queues of a run step by step: those of the steps before the first fault. Assumes nothing.
use Rattle.model.specs.Schedules.{Study, engine_after}
use Rattle.model.specs.Running.{run_fault, first_step}
use Rattle.model.specs.Longest.{Queues, longest_of}

-- the longest queues of a run step by step up to its end
abbrev pub longest_end : Study → Queues
longest_end a = longest_of a.road.n (engine_after a) (first_step (run_fault a) a.steps)
