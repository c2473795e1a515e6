-- The answers of opening a record to go on from a state, from the results of its code. Assumes nothing.
use Rattle.std.specs.Prelude.{◌≡◌, Bool, List, ℕ, ◌+◌, ◌≤◌, leb}
use Rattle.std.proofs.Common.{sym, ◌∙◌}
use Rattle.std.proofs.Math.Path.{ap}
use Rattle.model.specs.Numbers.{unless}
use Rattle.model.specs.declared.State.{State}
use Rattle.model.specs.Road.{most_cells, most_steps}
use Rattle.model.specs.Limits.{state_ok}
use Rattle.model.specs.Reading.{ReadAnswer, refused_of, accepted_of, reading_of}
use Rattle.model.specs.Running.{opening_of}
use Rattle.model.specs.GoingOn.{study_from, state_fault}
use Rattle.theory.specs.RulesLaws.{Sized}
use Rattle.theory.specs.Opening.{opened_reads}
use Rattle.theory.specs.StartingState.{starting_of, starting_unopened, starting_refused, starting_starts, found_readable}
use Rattle.opening.specs.OpenedStudy.{OpenedReadable}

-- the state has an entry for each cell, and x is opening's answer
module _ (bytes lanes : List ℕ) (s : State) (sized : (reading_of bytes).road.n ≤ most_cells → Sized (reading_of bytes).road s)
    {x : ReadAnswer} (ex : x ≡ opening_of bytes lanes) where
  abbrev Promise : ReadAnswer → Type 0
  Promise y = (y ≡ starting_of bytes lanes s) × OpenedReadable bytes lanes y

  promise : {y : ReadAnswer} → y ≡ starting_of bytes lanes s → Promise y
  promise ey = (ey, λ z. found_readable bytes lanes s ey z sized)

  pub started_unopened : (x.number ≡ 0 → ⊥) → Promise x
  started_unopened h = promise (ex ∙ sym (starting_unopened bytes lanes s (rw ex at h)))

  -- the record is opened, and m is the code's refusal of its start
  module _ (z : x.number ≡ 0) {t : Bool} {m : ℕ} (et : t ≡ state_ok x.road s) (em : m ≡ unless t 7 (unless (leb (s.done + x.steps) most_steps) 8 0)) where
    found : m ≡ state_fault (study_from bytes lanes s)
    unfolding state_fault
    found =
        em ∙ ap (λ (b : Bool). unless b 7 (unless (leb (s.done + x.steps) most_steps) 8 0)) et
        ∙ ap (λ (y : ReadAnswer). unless (state_ok y.road s) 7 (unless (leb (s.done + y.steps) most_steps) 8 0)) (opened_reads bytes lanes ex z)

    pub started_refused : (m ≡ 0 → ⊥) → {y : ReadAnswer} → y ≡ refused_of m 0 → Promise y
    started_refused n ey = promise (ey ∙ ap (λ (q : ℕ). refused_of q 0) found ∙ sym (starting_refused bytes lanes s (rw ex at z) (rw found at n)))

    pub started_whole : m ≡ 0 → {y : ReadAnswer} → y ≡ accepted_of x.steps x.road s → Promise y
    started_whole n ey =
        promise
        (ey ∙ ap (λ (q : ReadAnswer). accepted_of q.steps q.road s) (opened_reads bytes lanes ex z)
        ∙ sym (starting_starts bytes lanes s (rw ex at z) (sym found ∙ n)))
