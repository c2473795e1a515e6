-- docs/MODEL.md, 'The longest queues': those of the gate and of the on-ramps, over the states after each step done. Assumes nothing.
use Rattle.std.specs.Prelude.{List, ℕ, zero, suc, ◌-◌, max}
use Rattle.model.specs.declared.State.{State}
use Rattle.model.specs.declared.Law.{Law}
use Rattle.model.specs.declared.Longest.{Longest}
use Rattle.model.specs.Numbers.{at, fill_of}
use Rattle.model.specs.Road.{zeros}
use Rattle.model.specs.Schedules.{engine_after, Study}
use Rattle.model.specs.Reading.{study_of}
use Rattle.model.specs.Running.{steps_made, running_of}
use Rattle.model.specs.Filling.{metered_after, filling_of}

-- the greatest of the first k values of f, 0 if there is none
unfoldable pub maximum_of : (ℕ → ℕ) → ℕ → ℕ
maximum_of f zero = 0
maximum_of f (suc k) = max (maximum_of f k) (f k)

-- the queue that was at the gate before a step and did not leave in it: s is the state before the step, t the state after it
abbrev pub stayed_of : State → State → ℕ
stayed_of s t = s.gate_queue - (t.gate_cumulative - s.gate_cumulative)

-- the longest queues: of the gate, of the gate without the step's arrivals, and of each cell's ramp
pub record Queues : Type 0 where
  pub gate : ℕ
  pub waiting : ℕ
  pub ramps : List ℕ

abbrev pub queues_of : ℕ → ℕ → List ℕ → Queues
queues_of gate waiting ramps = record { gate = gate; waiting = waiting; ramps = ramps }

-- the code's answer, in the model's numbers
abbrev pub longest_queues : Longest → Queues
longest_queues e = queues_of e.gate e.waiting e.ramps

-- the longest queue of the gate, and of each of n ramps, is the greatest of its lengths after the first k steps; `after` gives the states.
-- The start does not count, because it is no state after a step
unfoldable pub longest_of : ℕ → (ℕ → State) → ℕ → Queues
longest_of n after k =
    queues_of
    (maximum_of (λ j. (after (suc j)).gate_queue) k)
    (maximum_of (λ j. stayed_of (after j) (after (suc j))) k)
    (fill_of (λ i. maximum_of (λ j. at (after (suc j)).queue i) k) n zeros)

-- a run with its longest queues gives those over the steps done
unfoldable pub longest_run : List ℕ → List ℕ → List ℕ → Queues
longest_run bytes lanes list =
    longest_of (study_of bytes lanes).road.n (engine_after (study_of bytes lanes)) (steps_made (study_of bytes lanes) (running_of bytes lanes list))

-- the states that filling goes through
abbrev pub filled_after : List Law → Study → ℕ → State
filled_after laws a k = (metered_after laws a k).state

-- filling with its longest queues gives those over the steps done: all T, or none
unfoldable pub longest_fill : List Law → List ℕ → List ℕ → List ℕ → Queues
longest_fill laws bytes lanes list =
    longest_of (study_of bytes lanes).road.n (filled_after laws (study_of bytes lanes)) (steps_made (study_of bytes lanes) (filling_of laws bytes lanes list))
