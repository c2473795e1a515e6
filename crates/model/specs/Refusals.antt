-- docs/MODEL.md, 'The operations and their refusals': the number of each refusal. Assumes nothing.
use Rattle.std.specs.Prelude.{Bool, [], ◌∷◌, ℕ}
use Rattle.model.specs.declared.Refusal.{Refusal}
use Rattle.model.specs.declared.Fault.{Fault}
use Rattle.model.specs.declared.Refusal.TheVariants.{None, Length, Version, Counts, Size, Limits, Rates, StepInput, StepsDone, ReleaseAboveQueue, ReleaseAboveSupply}
use Rattle.model.specs.declared.Refusal.TheVariants.{ListLength, ScheduleLength, OutflowAboveDemand, EnteringAboveRoom, TargetLength, LawNumbers, LanesLength, Lanes}
use Rattle.model.specs.declared.Refusal.TheVariants.{Seconds, RoadsDiffer, SecondGate, JoinedSize, WantedInput, StreetInput, Peak, CallerLimits, ManyLengths}
use Rattle.model.specs.Numbers.{one_of}

-- the number of each refusal, 0 for none
abbrev pub refusal_number : Refusal → ℕ
-- no refusal applies
refusal_number None = 0
-- reading
refusal_number Length = 1
refusal_number Version = 2
refusal_number Counts = 3
refusal_number Size = 4
refusal_number Limits = 5
refusal_number Rates = 6
-- stepping
refusal_number StepInput = 7
refusal_number StepsDone = 8
refusal_number ReleaseAboveQueue = 9
refusal_number ReleaseAboveSupply = 10
-- running
refusal_number ListLength = 11
-- judging
refusal_number ScheduleLength = 12
refusal_number OutflowAboveDemand = 13
refusal_number EnteringAboveRoom = 14
-- writing
refusal_number TargetLength = 15
-- filling
refusal_number LawNumbers = 16
-- a table of lanes; 18 in stepping too
refusal_number LanesLength = 17
refusal_number Lanes = 18
-- reading and writing of version 2
refusal_number Seconds = 19
-- joining
refusal_number RoadsDiffer = 20
refusal_number SecondGate = 21
refusal_number JoinedSize = 22
-- releases for a wanted queue
refusal_number WantedInput = 23
-- granting
refusal_number StreetInput = 24
-- loading
refusal_number Peak = 25
-- reading, for a caller with its own limits
refusal_number CallerLimits = 26
-- the lists lent for many studies
refusal_number ManyLengths = 27

-- a run or a judgement began: it was not refused, or its refusal comes with a step, a place and the state before that step
unfoldable pub began : ℕ → Bool
began number = one_of (0 ∷ 9 ∷ 10 ∷ 13 ∷ 14 ∷ []) number

-- a refusal's number, 0 for none, and its place
pub record FaultAnswer : Type 0 where
  pub number : ℕ
  pub place : ℕ

abbrev pub fault : ℕ → ℕ → FaultAnswer
fault number place = record { number = number; place = place }

-- the code's answer, in the model's numbers
abbrev pub fault_answer : Fault → FaultAnswer
fault_answer q = fault (refusal_number q.refusal) q.place
