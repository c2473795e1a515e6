-- docs/MODEL.md, 'The longest queues': those of the gate and of the on-ramps, over the states after each step done. Assumes nothing.
use Rattle.model.specs.Road.{zeros}
use Rattle.model.specs.Longest.{Queues, queues_of}

-- the longest queues if no step was done
abbrev pub no_queues : Queues
no_queues = queues_of 0 0 zeros
