-- Laws of the answers that C receives: the struct that the code makes from a refusal's number and the other parts, and that it determines the answer.
-- Assumes nothing.
use Rattle.std.specs.Prelude.{◌≡◌, refl, List, ℕ}
use Rattle.std.proofs.Common.{ap, ◌∙◌, arith}
use Rattle.model.specs.declared.Fault.{Fault}
use Rattle.model.specs.declared.Stepped.{Stepped}
use Rattle.model.specs.declared.Written.{Written}
use Rattle.model.specs.declared.Loaded.{Loaded}
use Rattle.model.specs.Refusals.{refusal_number, FaultAnswer, fault_answer}
use Rattle.model.specs.Load.{LoadAnswer, load_answer}
use Rattle.model.specs.Wanted.{WantedAnswer, WantedEnds}
use Rattle.model.specs.Stepping.{Answer, step_answer}
use Rattle.model.specs.Writing.{WriteAnswer, write_answer}
use Rattle.model.specs.Running.{EndAnswer}
use Rattle.model.specs.Longest.{Queues}
use Rattle.exports.specs.declared.NobyalukLongest.{NobyalukLongest}
use Rattle.exports.specs.declared.NobyalukStepped.{NobyalukStepped}
use Rattle.exports.specs.declared.NobyalukWritten.{NobyalukWritten}
use Rattle.exports.specs.declared.NobyalukLoaded.{NobyalukLoaded}
use Rattle.exports.specs.declared.NobyalukWanted.{NobyalukWanted}
use Rattle.exports.specs.declared.NobyalukReleased.{NobyalukReleased}
use Rattle.exports.specs.declared.NobyalukMany.{NobyalukMany}
use Rattle.model.specs.declared.State.{State}
use Rattle.model.specs.Filling.{MeterState, meter_state}
use Rattle.exports.specs.declared.NobyalukFilled.{NobyalukFilled}
use Rattle.exports.specs.Answers.{filled_for, longest_for, stepped_for, written_for, loaded_for, wanted_for, released_for, many_for}

-- the answer of running and filling with their longest queues
pub longest_is : {r : NobyalukLongest} (e f : EndAnswer) (q p : Queues) → r ≡ longest_for e q → e ≡ f → q ≡ p → r ≡ longest_for f p
longest_is e f q p h x y = h ∙ ap (λ (a : EndAnswer). longest_for a q) x ∙ ap (longest_for f) y

-- the answer of filling that goes on; s is the state in it
pub filled_is : {r : NobyalukLongest} {f : EndAnswer} {q : Queues} {s : State} {releases entries : List ℕ} {p : MeterState} → r ≡ longest_for f q
    → meter_state s releases entries ≡ p
    → ◌≡◌ {A = NobyalukFilled} (record { longest = r; releases = releases; entries = entries }) (filled_for f q p)
filled_is {f = f} {q} {releases = releases} {entries} h e =
    ap (λ (x : NobyalukLongest). record { longest = x; releases = releases; entries = entries }) h ∙ ap (filled_for f q) e

-- the answer of writing and joining
pub written_is : (w : Written) {number : ℕ} {a : WriteAnswer} → number ≡ refusal_number w.refusal → write_answer w ≡ a
    → ◌≡◌ {A = NobyalukWritten} (record { number = number; place = w.place; count = w.count }) (written_for a)
written_is w n e = ap (λ (k : ℕ). record { number = k; place = w.place; count = w.count }) n ∙ ap written_for e

pub released_is : (q : Fault) {number : ℕ} {a : FaultAnswer} → number ≡ refusal_number q.refusal → fault_answer q ≡ a
    → ◌≡◌ {A = NobyalukReleased} (record { number = number; place = q.place }) (released_for a)
released_is q n e = ap (λ (k : ℕ). record { number = k; place = q.place }) n ∙ ap released_for e

pub many_is : (q : Fault) {number : ℕ} → number ≡ refusal_number q.refusal
    → ◌≡◌ {A = NobyalukMany} (record { number = number; place = q.place }) (many_for (fault_answer q))
many_is q n = ap (λ (k : ℕ). record { number = k; place = q.place }) n

pub loaded_is : (x : Loaded) {number : ℕ} {a : LoadAnswer} → number ≡ refusal_number x.refusal → load_answer x ≡ a
    → ◌≡◌ {A = NobyalukLoaded} (record { number = number; last = x.last }) (loaded_for a)
loaded_is x n e = ap (λ (k : ℕ). record { number = k; last = x.last }) n ∙ ap loaded_for e

pub stepped_is : (x : Stepped) {number : ℕ} {a : Answer} → number ≡ refusal_number x.refusal → step_answer x ≡ a
    → ◌≡◌ {A = NobyalukStepped} (record { number = number; place = x.place; state = x.state }) (stepped_for a)
stepped_is x n e = ap (λ (k : ℕ). record { number = k; place = x.place; state = x.state }) n ∙ ap stepped_for e

-- What C receives determines the operation's answer. `reading_for`, `ended_for`, `written_for`, `loaded_for`, `released_for` and `many_for` keep every part;
-- `stepped_for` leaves out the step, which is always 0. `wanted_for` leaves out whether there was a search, which the other parts determine:
-- none, a table found and 23 give different structs, whatever the arguments
pub wanted_apart : {s c r z d q : ℕ} {arrivals table comes lent : List ℕ} {a b : WantedAnswer} {left kept : List ℕ} → WantedEnds s c r arrivals table a left
    → WantedEnds z d q comes lent b kept → wanted_for a ≡ wanted_for b → a ≡ b
wanted_apart (WantedEnds.refused h) (WantedEnds.refused k) e = refl
wanted_apart (WantedEnds.refused h) (WantedEnds.none q k) e = absurd (let n = ap (λ (x : NobyalukWanted). x.number) e in omega arith)
wanted_apart (WantedEnds.refused h) (WantedEnds.found q k) e = absurd (let n = ap (λ (x : NobyalukWanted). x.number) e in omega arith)
wanted_apart (WantedEnds.none p h) (WantedEnds.refused k) e = absurd (let n = ap (λ (x : NobyalukWanted). x.number) e in omega arith)
wanted_apart (WantedEnds.none p h) (WantedEnds.none q k) e = refl
wanted_apart (WantedEnds.none p h) (WantedEnds.found q k) e = absurd (let n = ap (λ (x : NobyalukWanted). x.found) e in omega arith)
wanted_apart (WantedEnds.found p h) (WantedEnds.refused k) e = absurd (let n = ap (λ (x : NobyalukWanted). x.number) e in omega arith)
wanted_apart (WantedEnds.found p h) (WantedEnds.none q k) e = absurd (let n = ap (λ (x : NobyalukWanted). x.found) e in omega arith)
wanted_apart (WantedEnds.found p h) (WantedEnds.found q k) e = refl
