-- No two answers of the code have the same numbers, so a contract that states the numbers determines the answer. One law for each type of answer:
-- granting answers a refusal, a weighted run an `Ended` and a number, and every other operation one of these types. Assumes nothing.
use Rattle.std.specs.Prelude.{◌≡◌, refl, cond, List, [], ◌∷◌, ℕ, get_or}
use Rattle.std.proofs.Common.{sym, ap, ◌∙◌}
use Rattle.model.specs.declared.Refusal.{Refusal}
use Rattle.model.specs.declared.Refusal.TheVariants as refusal
use Rattle.model.specs.declared.Fault.{Fault}
use Rattle.model.specs.declared.Reading.{Reading}
use Rattle.model.specs.declared.Stepped.{Stepped}
use Rattle.model.specs.declared.Ended.{Ended}
use Rattle.model.specs.declared.Written.{Written}
use Rattle.model.specs.declared.Loaded.{Loaded}
use Rattle.model.specs.declared.Wanted.{Wanted}
use Rattle.model.specs.declared.Wanted.TheVariants as wanted
use Rattle.model.specs.Refusals.{refusal_number, FaultAnswer, fault_answer}
use Rattle.model.specs.Load.{LoadAnswer, load_answer}
use Rattle.model.specs.Wanted.{WantedAnswer, wanted_answer}
use Rattle.model.specs.Stepping.{Answer, step_answer}
use Rattle.model.specs.Reading.{ReadAnswer, read_answer}
use Rattle.model.specs.Writing.{WriteAnswer, write_answer}
use Rattle.model.specs.Running.{EndAnswer, end_answer}

-- if a map can be read back, no two things are mapped to the same
same : {A B : Type 0} (numbers : A → B) (back : B → A) → ((x : A) → back (numbers x) ≡ x) → (x y : A) → numbers x ≡ numbers y → x ≡ y
same numbers back reads x y e = sym (reads x) ∙ ap back e ∙ reads y

-- the refusals in the order of their numbers
abbrev refusals : List Refusal
refusals =
    refusal.None ∷ refusal.Length ∷ refusal.Version ∷ refusal.Counts ∷ refusal.Size ∷ refusal.Limits ∷ refusal.Rates
    ∷ refusal.StepInput ∷ refusal.StepsDone ∷ refusal.ReleaseAboveQueue ∷ refusal.ReleaseAboveSupply ∷ refusal.ListLength
    ∷ refusal.ScheduleLength ∷ refusal.OutflowAboveDemand ∷ refusal.EnteringAboveRoom ∷ refusal.TargetLength ∷ refusal.LawNumbers
    ∷ refusal.LanesLength ∷ refusal.Lanes ∷ refusal.Seconds ∷ refusal.RoadsDiffer ∷ refusal.SecondGate ∷ refusal.JoinedSize
    ∷ refusal.WantedInput ∷ refusal.StreetInput ∷ refusal.Peak ∷ refusal.CallerLimits
    ∷ refusal.ManyLengths ∷ []

abbrev refusal_with : ℕ → Refusal
refusal_with number = get_or refusals number refusal.None

read_back : (q : Refusal) → refusal_with (refusal_number q) ≡ q
read_back refusal.None = refl
read_back refusal.Length = refl
read_back refusal.Version = refl
read_back refusal.Counts = refl
read_back refusal.Size = refl
read_back refusal.Limits = refl
read_back refusal.Rates = refl
read_back refusal.StepInput = refl
read_back refusal.StepsDone = refl
read_back refusal.ReleaseAboveQueue = refl
read_back refusal.ReleaseAboveSupply = refl
read_back refusal.ListLength = refl
read_back refusal.ScheduleLength = refl
read_back refusal.OutflowAboveDemand = refl
read_back refusal.EnteringAboveRoom = refl
read_back refusal.TargetLength = refl
read_back refusal.LawNumbers = refl
read_back refusal.LanesLength = refl
read_back refusal.Lanes = refl
read_back refusal.Seconds = refl
read_back refusal.RoadsDiffer = refl
read_back refusal.SecondGate = refl
read_back refusal.JoinedSize = refl
read_back refusal.WantedInput = refl
read_back refusal.StreetInput = refl
read_back refusal.Peak = refl
read_back refusal.CallerLimits = refl
read_back refusal.ManyLengths = refl

-- two refusals with the same number are the same refusal
pub refusal_same : (q p : Refusal) → refusal_number q ≡ refusal_number p → q ≡ p
refusal_same = same refusal_number refusal_with read_back

-- the answer of putting a release
pub fault_same : (x y : Fault) → fault_answer x ≡ fault_answer y → x ≡ y
fault_same =
    same fault_answer (λ (a : FaultAnswer). record { refusal = refusal_with a.number; place = a.place })
    (λ x. ap (λ (q : Refusal). record { refusal = q; place = x.place }) (read_back x.refusal))

pub reading_same : (x y : Reading) → read_answer x ≡ read_answer y → x ≡ y
reading_same =
    same read_answer
    (λ (a : ReadAnswer). record { refusal = refusal_with a.number; place = a.place; steps = a.steps; road = a.road; state = a.state })
    (λ x. ap (λ (q : Refusal). record { refusal = q; place = x.place; steps = x.steps; road = x.road; state = x.state }) (read_back x.refusal))

pub stepped_same : (x y : Stepped) → step_answer x ≡ step_answer y → x ≡ y
stepped_same =
    same step_answer (λ (a : Answer). record { refusal = refusal_with a.number; step = a.step; place = a.place; state = a.state })
    (λ x. ap (λ (q : Refusal). record { refusal = q; step = x.step; place = x.place; state = x.state }) (read_back x.refusal))

-- the answer of running, filling, judging and history
pub ended_same : (x y : Ended) → end_answer x ≡ end_answer y → x ≡ y
ended_same =
    same end_answer
    (λ (a : EndAnswer). record { refusal = refusal_with a.number; step = a.step; place = a.place; road = a.road; state = a.state })
    (λ x. ap (λ (q : Refusal). record { refusal = q; step = x.step; place = x.place; road = x.road; state = x.state }) (read_back x.refusal))

-- the answer of writing and joining
pub written_same : (x y : Written) → write_answer x ≡ write_answer y → x ≡ y
written_same =
    same write_answer (λ (a : WriteAnswer). record { refusal = refusal_with a.number; place = a.place; count = a.count })
    (λ x. ap (λ (q : Refusal). record { refusal = q; place = x.place; count = x.count }) (read_back x.refusal))

pub loaded_same : (x y : Loaded) → load_answer x ≡ load_answer y → x ≡ y
loaded_same =
    same load_answer (λ (a : LoadAnswer). record { refusal = refusal_with a.number; last = a.last })
    (λ x. ap (λ (q : Refusal). record { refusal = q; last = x.last }) (read_back x.refusal))

-- the answer of the search for a wanted queue: the answer none is not a refusal without a number
pub wanted_same : (x y : Wanted) → wanted_answer x ≡ wanted_answer y → x ≡ y
wanted_same = same wanted_answer back reads
  where
    back : WantedAnswer → Wanted
    back a = cond a.searched (cond a.found wanted.Found wanted.None) (wanted.Refused (refusal_with a.number))

    reads : (x : Wanted) → back (wanted_answer x) ≡ x
    reads (wanted.Refused q) = ap wanted.Refused (read_back q)
    reads wanted.None = refl
    reads wanted.Found = refl
