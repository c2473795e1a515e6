-- A record that goes on from a state: if 7 and 8 do not apply, its study is within the limits; and the ends of running and judging. Assumes nothing.
use Rattle.std.specs.Prelude.{◌≡◌, List, ℕ, ◌+◌, ◌≤◌, leb, eqb}
use Rattle.std.proofs.Math.Path.{refl, subst⁻¹}
use Rattle.std.proofs.Common.{sym, ap, ◌∙◌, arith}
use borrow.Author.Tests.{leb-true, eq-eqb, ne_eqb}
use Rattle.model.specs.Numbers.{unless}
use Rattle.numbers.specs.Tests.{unless_elim, fault_elim}
use Rattle.model.specs.declared.State.{State}
use Rattle.model.specs.Road.{most_cells, most_steps}
use Rattle.model.specs.Limits.{state_ok}
use Rattle.limits.specs.LimitsLaws.{StateOk, state_facts}
use Rattle.model.specs.Schedules.{Study, study, road_at}
use Rattle.model.specs.Reading.{ReadAnswer, refused_of, accepted_of, reading_of, study_by}
use Rattle.model.specs.Running.{EndAnswer, no_state, opening_of}
use Rattle.model.specs.Demand.{Openable}
use Rattle.model.specs.GoingOn.{study_from, state_fault, unless_started}
use Rattle.theory.specs.RulesLaws.{Sized}
use Rattle.theory.specs.Readable.{Readable, readable}
use Rattle.theory.specs.Opening.{opening_opens}

-- the study with another start
abbrev pub with_start : Study → State → Study
with_start a s = study a.road s a.steps a.rows a.lanes

-- the roads of its steps are the same
pub same_roads : (a : Study) (s : State) (k : ℕ) → road_at a k ≡ road_at (with_start a s) k
unfolding road_at
same_roads a s k = refl

-- neither 7 nor 8 applies
pub record StartOk (a : Study) : Type 0 where
  pub state : StateOk a.road a.start
  pub steps : a.start.done + a.steps ≤ most_steps

pub start_ok : (a : Study) → state_fault a ≡ 0 → StartOk a
unfolding state_fault
start_ok a = unless_elim (λ (x : ℕ). x ≡ 0 → StartOk a) (state_ok a.road a.start) (λ _ z. absurd (omega arith)) (λ s.
    unless_elim (λ (x : ℕ). x ≡ 0 → StartOk a) (leb (a.start.done + a.steps) most_steps) (λ _ z. absurd (omega arith)) (λ l z.
    record { state = state_facts a.road a.start s; steps = leb-true _ _ l }))

-- so the study is within the limits if it was from the record's own start
pub readable_from : {bytes : List ℕ} {a : Study} (s : State) → Readable bytes a → Sized a.road s → StartOk (with_start a s) → Readable bytes (with_start a s)
readable_from {a = a} s h sized b = record {
  ok = record {
    road = h.ok.road;
    roads = λ k. rw (← same_roads a s k) (h.ok.roads k);
    start = b.state;
    sized = sized;
    steps = b.steps;
    row = h.ok.row;
  };
  row = h.row;
  outflows = h.outflows;
  table = h.table;
  seconds = h.seconds;
}

-- a record opened to go on from s: the refusals of opening, then 7 and 8; otherwise road and T, with that state
unfoldable pub starting_of : List ℕ → List ℕ → State → ReadAnswer
starting_of bytes lanes s =
    let f = state_fault (study_from bytes lanes s) in
    unless (eqb (opening_of bytes lanes).number 0) (opening_of bytes lanes)
    (unless (eqb f 0) (refused_of f 0)
    (accepted_of (reading_of bytes).steps (reading_of bytes).road s))

module _ (bytes lanes : List ℕ) (s : State) where
  abbrev a : Study
  a = study_from bytes lanes s

  -- starting refuses what opening refuses
  pub starting_unopened : ((opening_of bytes lanes).number ≡ 0 → ⊥) → starting_of bytes lanes s ≡ opening_of bytes lanes
  unfolding starting_of
  starting_unopened h = rw (ne_eqb (opening_of bytes lanes).number 0 h) refl

  -- starting reports 7 or 8
  pub starting_refused : (opening_of bytes lanes).number ≡ 0 → (state_fault (study_from bytes lanes s) ≡ 0 → ⊥)
      → starting_of bytes lanes s ≡ refused_of (state_fault (study_from bytes lanes s)) 0
  unfolding starting_of
  starting_refused z h = rw (eq-eqb (opening_of bytes lanes).number 0 z, ne_eqb (state_fault a) 0 h) refl

  pub starting_starts : (opening_of bytes lanes).number ≡ 0 → state_fault (study_from bytes lanes s) ≡ 0
      → starting_of bytes lanes s ≡ accepted_of (reading_of bytes).steps (reading_of bytes).road s
  unfolding starting_of
  starting_starts z h = rw (eq-eqb (opening_of bytes lanes).number 0 z, eq-eqb (state_fault a) 0 h) refl

  -- running, judging and history have the same refusals
  pub refuses : (e : EndAnswer) → ((starting_of bytes lanes s).number ≡ 0 → ⊥)
      → unless_started bytes lanes s e ≡ no_state (starting_of bytes lanes s).number (starting_of bytes lanes s).place
  refuses e n = fault_elim (opening_of bytes lanes).number
      (λ h. rw (starting_unopened h, ne_eqb (opening_of bytes lanes).number 0 h) refl)
      (λ z. fault_elim (state_fault a)
      (λ h. rw (starting_refused z h, eq-eqb (opening_of bytes lanes).number 0 z, ne_eqb (state_fault a) 0 h) refl)
      (λ h. absurd (n (rw (starting_starts z h) refl))))

  -- without a refusal
  module _ (n : (starting_of bytes lanes s).number ≡ 0) where
    opens : (opening_of bytes lanes).number ≡ 0
    opens = fault_elim (opening_of bytes lanes).number (λ h. absurd (h (rw (starting_unopened h) at n))) (λ z. z)

    unfaulted : state_fault (study_from bytes lanes s) ≡ 0
    unfaulted = fault_elim (state_fault a) (λ h. absurd (h (rw (starting_refused opens h) at n))) (λ z. z)

    pub starts : (e : EndAnswer) → unless_started bytes lanes s e ≡ e
    starts e = rw (eq-eqb (opening_of bytes lanes).number 0 opens, eq-eqb (state_fault a) 0 unfaulted) refl

    pub starting_openable : Openable bytes lanes
    starting_openable = opening_opens bytes lanes opens

    pub starting_reads : starting_of bytes lanes s ≡ accepted_of (reading_of bytes).steps (reading_of bytes).road s
    starting_reads = starting_starts opens unfaulted

    -- the study is within the limits
    pub starting_readable : ((reading_of bytes).road.n ≤ most_cells → Sized (reading_of bytes).road s) → Readable bytes (study_from bytes lanes s)
    starting_readable sized =
        let t = starting_openable in
        let h = readable bytes lanes (reading_of bytes) refl t.reads t.opens in
        readable_from s h (sized h.ok.road.cells) (start_ok a unfaulted)

-- the same for the code's answer
module _ (bytes lanes : List ℕ) (s : State) {x : ReadAnswer} (ex : x ≡ starting_of bytes lanes s) where
  pub found_refuses : (e : EndAnswer) → (x.number ≡ 0 → ⊥) → no_state x.number x.place ≡ unless_started bytes lanes s e
  found_refuses e n = rw ex (sym (refuses bytes lanes s e (rw ex at n)))

  module _ (n : x.number ≡ 0) where
    pub found_starts : (e : EndAnswer) → e ≡ unless_started bytes lanes s e
    found_starts e = sym (starts bytes lanes s (rw ex at n) e)

    pub found_study : study_by bytes lanes x.road x.state x.steps ≡ study_from bytes lanes s
    found_study = ap (λ (y : ReadAnswer). study_by bytes lanes y.road y.state y.steps) (ex ∙ starting_reads bytes lanes s (rw ex at n))

    pub found_readable : ((reading_of bytes).road.n ≤ most_cells → Sized (reading_of bytes).road s)
        → Readable bytes (study_by bytes lanes x.road x.state x.steps)
    found_readable sized = subst⁻¹ (Readable bytes) found_study (starting_readable bytes lanes s (rw ex at n) sized)
