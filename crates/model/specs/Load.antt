-- docs/MODEL.md, 'A stated load': the generator, its arrivals, and what loading answers. Assumes nothing.
use Rattle.std.specs.Prelude.{◌≡◌, List, ℕ, zero, suc, ◌+◌, ◌*◌, ◌/◌, ◌%◌, ◌^◌, ◌≤◌, ◌<◌, leb, length}
use Rattle.model.specs.declared.Loaded.{Loaded}
use Rattle.model.specs.Numbers.{unless, list_of, at}
use Rattle.model.specs.Road.{most_rate}
use Rattle.model.specs.Refusals.{refusal_number}

-- how many numbers 32 bits can hold, and how many 16 bits
abbrev pub numbers : ℕ
numbers = 2 ^ 32

abbrev pub half : ℕ
half = 2 ^ 16

-- a 32-bit number becomes 1664525 × number + 1013904223, wrapping
abbrev pub next_number : ℕ → ℕ
next_number number = (1664525 * number + 1013904223) % numbers

-- an arrival is the number's upper 16 bits × (peak + 1) ÷ 65,536, rounded down
abbrev pub arrival_of : ℕ → ℕ → ℕ
arrival_of number peak = number / half * (peak + 1) / half

-- the number after n arrivals, the seed after none
unfoldable pub number_after : ℕ → ℕ → ℕ
number_after seed zero = seed
number_after seed (suc n) = next_number (number_after seed n)

-- the arrival of step k comes from the number after the update
abbrev pub arrival_at : ℕ → ℕ → ℕ → ℕ
arrival_at seed peak k = arrival_of (number_after seed (suc k)) peak

-- n arrivals, one after the other
unfoldable pub arrivals_of : ℕ → ℕ → ℕ → List ℕ
arrivals_of seed peak n = list_of (arrival_at seed peak) n

-- what loading answers: the refusal's number and the last number
pub record LoadAnswer : Type 0 where
  pub number : ℕ
  pub last : ℕ

-- the code's answer, in the model's numbers
abbrev pub load_answer : Loaded → LoadAnswer
load_answer a = record { number = refusal_number a.refusal; last = a.last }

abbrev pub load_with : ℕ → ℕ → LoadAnswer
load_with number last = record { number = number; last = last }

-- loading a list of n numbers: 25, a peak above 1,000,000, returns the seed
unfoldable pub loading_of : ℕ → ℕ → ℕ → LoadAnswer
loading_of seed peak n = unless (leb peak most_rate) (load_with 25 seed) (load_with 0 (number_after seed n))

-- the lent list afterwards; 25 leaves it unchanged
unfoldable pub loaded_list : ℕ → ℕ → List ℕ → List ℕ
loaded_list seed peak list = unless (leb peak most_rate) list (arrivals_of seed peak (length list))

-- a loaded list: its arrivals are those of the seed's numbers in their order, and none is above the peak
pub record Arrivals (seed peak : ℕ) (list filled : List ℕ) : Type 0 where
  pub same : length filled ≡ length list
  pub each : (k : ℕ) → k < length list → at filled k ≡ arrival_at seed peak k
  pub within : (k : ℕ) → k < length list → at filled k ≤ peak

-- both cases of the answer, with the lent list that each leaves
pub data LoadEnds (seed peak : ℕ) (list : List ℕ) : LoadAnswer → List ℕ → Type 0 where
  refused : most_rate < peak → LoadEnds seed peak list (load_with 25 seed) list
  filled : peak ≤ most_rate → {after : List ℕ} → Arrivals seed peak list after → LoadEnds seed peak list (load_with 0 (number_after seed (length list))) after
