-- docs/MODEL.md, 'A run printed whole': its lines, and what is printed for a record. Assumes nothing.
use Rattle.std.specs.Prelude.{◌≡◌, cond, List, [], ◌∷◌, ◌++◌, ℕ, zero, suc, ◌+◌, ◌≤◌, ◌*◌, length, take, drop, eqb}
use Rattle.model.specs.declared.State.{State}
use Rattle.model.specs.declared.Road.{Road}
use Rattle.model.specs.Numbers.{at, unless}
use Rattle.model.specs.Road.{total_of}
use Rattle.model.specs.Move.{exits_of}
use Rattle.model.specs.Schedules.{Study, engine_after, outflows_at}
use Rattle.model.specs.Record.{second_version}
use Rattle.model.specs.Reading.{reading_within, study_of}
use Rattle.model.specs.Running.{EndAnswer, run_end}
use Rattle.model.specs.Words.{blank, newline, most_word, word_of, named_of, vehicle_seconds}

-- the greatest length of a line: it has at most five words
abbrev pub most_line : ℕ
most_line = 105

-- the greatest length of the line of the totals: five words and 27 bytes for their names
abbrev pub most_last : ℕ
most_last = most_line + 27

-- the greatest length of the line of the seconds: a word and 8 bytes for its name
abbrev pub most_time : ℕ
most_time = most_word + 8

-- `step place outflow held queue`
unfoldable pub header_line : List ℕ
header_line =
    115 ∷ 116 ∷ 101 ∷ 112 ∷ 32
    ∷ 112 ∷ 108 ∷ 97 ∷ 99 ∷ 101 ∷ 32
    ∷ 111 ∷ 117 ∷ 116 ∷ 102 ∷ 108 ∷ 111 ∷ 119 ∷ 32
    ∷ 104 ∷ 101 ∷ 108 ∷ 100 ∷ 32
    ∷ 113 ∷ 117 ∷ 101 ∷ 117 ∷ 101 ∷ 10 ∷ []

-- one line per place, separated by blanks: step, place, outflow in the step, held after the step, ramp queue after it
unfoldable pub line_of : ℕ → ℕ → ℕ → ℕ → ℕ → List ℕ
line_of step place outflow held queue =
    word_of step blank ++ (word_of place blank ++ (word_of outflow blank ++ (word_of held blank ++ word_of queue newline)))

-- the lines of a step's first cells, from its row of outflows and the state after the step
unfoldable pub cell_lines : ℕ → List ℕ → State → ℕ → List ℕ
cell_lines step y s zero = []
cell_lines step y s (suc i) = cell_lines step y s i ++ line_of step (suc i) (at y (suc i)) (at s.held i) (at s.queue i)

-- the lines of a step: the gate, whose queue is printed as held, and n cells
abbrev pub lines_of : ℕ → List ℕ → State → ℕ → List ℕ
lines_of step y s n = line_of step 0 (at y 0) s.gate_queue 0 ++ cell_lines step y s n

-- `total `
abbrev pub total_word : List ℕ
total_word = 116 ∷ 111 ∷ 116 ∷ 97 ∷ 108 ∷ 32 ∷ []

-- `gate `
abbrev pub gate_word : List ℕ
gate_word = 103 ∷ 97 ∷ 116 ∷ 101 ∷ 32 ∷ []

-- `road `
abbrev pub road_word : List ℕ
road_word = 114 ∷ 111 ∷ 97 ∷ 100 ∷ 32 ∷ []

-- `ramp `
abbrev pub ramp_word : List ℕ
ramp_word = 114 ∷ 97 ∷ 109 ∷ 112 ∷ 32 ∷ []

-- `exits `
abbrev pub exits_word : List ℕ
exits_word = 101 ∷ 120 ∷ 105 ∷ 116 ∷ 115 ∷ 32 ∷ []

-- `seconds `
abbrev pub seconds_word : List ℕ
seconds_word = 115 ∷ 101 ∷ 99 ∷ 111 ∷ 110 ∷ 100 ∷ 115 ∷ 32 ∷ []

-- `refused `
abbrev pub refused_word : List ℕ
refused_word = 114 ∷ 101 ∷ 102 ∷ 117 ∷ 115 ∷ 101 ∷ 100 ∷ 32 ∷ []

-- the line of the totals: `total` and the total time spent, `gate`, `road` and `ramp` with their times, `exits` and the exits
unfoldable pub total_line : ℕ → ℕ → ℕ → ℕ → ℕ → List ℕ
total_line total gate road ramp exits =
    named_of total_word total blank
    ++ (named_of gate_word gate blank ++ (named_of road_word road blank ++ (named_of ramp_word ramp blank ++ named_of exits_word exits newline)))

-- in version 2 one more line: `seconds` and the total in vehicle-seconds
unfoldable pub seconds_line : ℕ → List ℕ
seconds_line time = named_of seconds_word time newline

-- a refusal prints only `refused`, number, step, place
unfoldable pub refused_line : ℕ → ℕ → ℕ → List ℕ
refused_line number step place = refused_word ++ (word_of number blank ++ (word_of step blank ++ word_of place newline))

-- what a buffer holds after a text was put at its start: the text in its first `end` bytes, and the buffer's length is unchanged
pub record Holds (before text after : List ℕ) (end : ℕ) : Type 0 where
  pub first : take end after ≡ text
  pub within : end ≤ length after
  -- this follows from `first`; taking that part of the buffer requires it
  pub counted : end ≡ length (take end after)
  pub same : length after ≡ length before

-- the most outflows that a record that reads can have
abbrev pub most_outflows : ℕ
most_outflows = 8799

-- the lines of the first k steps of a run, each with its outflows and the state after it
unfoldable pub steps_lines : Study → ℕ → List ℕ
steps_lines a zero = []
steps_lines a (suc k) = steps_lines a k ++ lines_of k (outflows_at a k) (engine_after a (suc k)) a.road.n

-- the line of the seconds, only in version 2
unfoldable pub time_of : Road → State → List ℕ
time_of r s = cond (eqb r.version second_version) (seconds_line (vehicle_seconds (total_of s) r.seconds)) []

-- the last lines for a road and its final state: the total, the three times, the exits, and in version 2 the seconds
abbrev pub last_of : Road → State → List ℕ
last_of r s = total_line (total_of s) s.gate_time s.road_time s.ramp_time (exits_of r s) ++ time_of r s

-- the text for a run that ended as e: only a refusal's line, or the header, one line per place in each step, and the last lines
abbrev pub printed_end : Study → EndAnswer → List ℕ
printed_end a e =
    unless (eqb e.number 0) (refused_line e.number e.step e.place)
    (header_line ++ (steps_lines a a.steps ++ last_of e.road e.state))

-- the text for a study's run
unfoldable pub printed_run : Study → List ℕ
printed_run a = printed_end a (run_end a)

-- the text for a record and a caller with its own limits: a refusal of reading, or its run with all lanes open
unfoldable pub printed_within : ℕ → ℕ → List ℕ → List ℕ
printed_within cells most bytes =
    unless (eqb (reading_within cells most bytes).number 0) (refused_line (reading_within cells most bytes).number 0 (reading_within cells most bytes).place)
    (printed_run (study_of bytes []))

-- the greatest length of a text: a line for each outflow, a header, the line of the totals and that of the seconds
abbrev pub most_text : ℕ
most_text = most_line * most_outflows + most_line + (most_last + most_time)

-- what a buffer holds after a record was printed into it: the text at its start, and from index `most_text` on what it held before.
-- The bytes between are not specified: a refusal's line overwrites the lines that were put there first
pub record HoldsPrinted (before text after : List ℕ) (end : ℕ) : Type 0 where
  pub holds : Holds before text after end
  pub short : end ≤ most_text
  pub beyond : drop most_text after ≡ drop most_text before
