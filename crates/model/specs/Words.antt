-- docs/MODEL.md, 'A run printed whole': seconds, decimal numbers and words, byte by byte. Assumes nothing.
use Rattle.std.specs.Prelude.{cond, List, [], ◌∷◌, ◌++◌, ℕ, ◌*◌, ◌/◌, min, zero, suc, ◌+◌, ◌%◌, ltb}
use Rattle.model.specs.declared.State.{State}
use Rattle.model.specs.Road.{most_long, total_of}

-- a total of part-steps in vehicle-seconds, with so many seconds per step: total × seconds ÷ 1,000 rounded down
unfoldable pub vehicle_seconds : ℕ → ℕ → ℕ
vehicle_seconds total seconds = total * seconds / 1000

-- the same for any state: total and result are each at most the greatest number of 64 bits
abbrev pub vehicle_seconds_of : ℕ → State → ℕ
vehicle_seconds_of seconds state = min (vehicle_seconds (min (total_of state) most_long) seconds) most_long

-- the bytes between words, and after a line
abbrev pub blank : ℕ
blank = 32

abbrev pub newline : ℕ
newline = 10

-- the digit of a number below 10
abbrev pub digit_of : ℕ → ℕ
digit_of d = 48 + d

-- a number in decimal, highest digit first: as many digits as it has, at most `most`
unfoldable pub digits_of : ℕ → ℕ → List ℕ
digits_of zero n = []
digits_of (suc most) n = cond (ltb n 10) (digit_of n ∷ []) (digits_of most (n / 10) ++ (digit_of (n % 10) ∷ []))

-- 20 digits hold every number of 64 bits
abbrev pub decimal_of : ℕ → List ℕ
decimal_of n = digits_of 20 n

-- a number and the byte after it
abbrev pub word_of : ℕ → ℕ → List ℕ
word_of n after = decimal_of n ++ (after ∷ [])

-- a name, a number and the byte after it
abbrev pub named_of : List ℕ → ℕ → ℕ → List ℕ
named_of name n after = name ++ word_of n after

-- the greatest length of a word
abbrev pub most_word : ℕ
most_word = 21
