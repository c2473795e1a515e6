-- Two records that read alike and have the same arrivals are filled alike, whatever their releases: answer, longest queues and list are
-- the same. Assumes nothing.
use Rattle.std.specs.Prelude.{◌≡◌, List, ℕ, zero, suc, ◌+◌, ◌*◌, ◌≤◌, ◌<◌, leb, eqb, length}
use Rattle.std.proofs.Math.Path.{refl, ap}
use Rattle.std.proofs.Common.{sym, ◌∙◌, le_refl}
use Rattle.std.proofs.Math.Bool.{cond}
use native.Mathlib.Omega.{arith}
use borrow.Author.Tests.{eqb-true, eq-eqb, ne_eqb}
use Rattle.model.specs.Numbers.{at, unless}
use Rattle.numbers.specs.Tests.{unless_elim, unless_same, fault_elim}
use Rattle.numbers.specs.RowsLaws.{fill_same}
use Rattle.model.specs.declared.Law.{Law}
use Rattle.model.specs.declared.State.{State}
use Rattle.model.specs.Road.{zeros}
use Rattle.model.specs.Reading.{ReadAnswer, reading_of, study_by, study_of}
use Rattle.model.specs.Stepping.{table_fault}
use Rattle.model.specs.Meter.{law_fault_of}
use Rattle.model.specs.Demand.{Openable}
use Rattle.theory.specs.Readable.{readable}
use Rattle.theory.specs.RunsLaws.{StudyOk}
use Rattle.model.specs.Filling.{MeterState}
use Rattle.model.specs.Running.{EndAnswer, end_with, no_state, lanes_fault, steps_made}
use Rattle.model.specs.Longest.{maximum_of, stayed_of, longest_of, filled_after, longest_fill}
use Rattle.model.specs.Filling.{metered_after, metered_from, filled_bytes, filling_of, record_after, filled_list}
use Rattle.filling.specs.FillingAgain.{SameArrivals, metered_same, filled_alike_by, filled_openable_by}

-- what filling answers, from reading's answer and the state after all steps
abbrev end_by : List Law → List ℕ → ℕ → ReadAnswer → State → EndAnswer
end_by laws lanes room x q =
    let f = table_fault lanes x.road.n x.steps in
    let p = law_fault_of laws x.road.ramp x.road.n in
    unless (eqb x.number 0) (no_state x.number x.place)
    (unless (eqb p 0) (no_state 16 p)
    (unless (eqb f.number 0) (no_state f.number f.place)
    (unless (leb (x.steps * (x.road.n + 1)) room) (no_state 11 0)
    (end_with 0 0 0 x.road q))))

-- the state after all steps of a record
abbrev last_of : List Law → List ℕ → List ℕ → State
last_of laws lanes s = (metered_after laws (study_of s lanes) (reading_of s).steps).state

fills_by : (laws : List Law) (s lanes list : List ℕ) → filling_of laws s lanes list ≡ end_by laws lanes (length list) (reading_of s) (last_of laws lanes s)
unfolding filling_of
fills_by laws s lanes list = refl

-- no refusal of filling names a step
fills_step : (laws : List Law) (s lanes list : List ℕ) → (filling_of laws s lanes list).step ≡ 0
fills_step laws s lanes list =
    let x = reading_of s in
    let f = table_fault lanes x.road.n x.steps in
    let p = law_fault_of laws x.road.ramp x.road.n in
    ap (λ (e : EndAnswer). e.step) (fills_by laws s lanes list)
    ∙ unless_elim (λ (e : EndAnswer). e.step ≡ 0) (eqb x.number 0) (λ _. refl) (λ _.
    unless_elim (λ (e : EndAnswer). e.step ≡ 0) (eqb p 0) (λ _. refl) (λ _.
    unless_elim (λ (e : EndAnswer). e.step ≡ 0) (eqb f.number 0) (λ _. refl) (λ _.
    unless_elim (λ (e : EndAnswer). e.step ≡ 0) (leb (x.steps * (x.road.n + 1)) (length list)) (λ _. refl) (λ _. refl))))

-- the longest queues depend on the states of the steps
greatest_same : (f g : ℕ → ℕ) (k : ℕ) → ((j : ℕ) → j < k → f j ≡ g j) → maximum_of f k ≡ maximum_of g k
unfolding maximum_of
greatest_same f g zero h = refl
greatest_same f g (suc k) h = rw (greatest_same f g k (λ j l. h j (omega arith)), h k (le_refl (suc k)))

longest_same : (n : ℕ) (f g : ℕ → State) (k : ℕ) → ((j : ℕ) → j ≤ k → f j ≡ g j) → longest_of n f k ≡ longest_of n g k
unfolding longest_of
longest_same n f g k h =
    let at_gate_lem = greatest_same (λ j. (f (suc j)).gate_queue) (λ j. (g (suc j)).gate_queue) k (λ j l. ap (λ (s : State). s.gate_queue) (h (suc j) l)) in
    let stayed =
    greatest_same (λ j. stayed_of (f j) (f (suc j))) (λ j. stayed_of (g j) (g (suc j))) k
    (λ j l. ap (λ (s : State). stayed_of s (f (suc j))) (h j (omega arith)) ∙ ap (stayed_of (g j)) (h (suc j) l)) in
    let ramps =
    fill_same (λ i. maximum_of (λ j. at (f (suc j)).queue i) k) (λ i. maximum_of (λ j. at (g (suc j)).queue i) k) n zeros
    (λ i _. greatest_same (λ j. at (f (suc j)).queue i) (λ j. at (g (suc j)).queue i) k (λ j l. ap (λ (s : State). at s.queue i) (h (suc j) l))) in
    rw (at_gate_lem, stayed, ramps) refl

-- two records that read alike and have the same arrivals
module _ (laws : List Law) (lanes s u : List ℕ) (alike : reading_of u ≡ reading_of s)
    (same : (reading_of s).number ≡ 0 → SameArrivals (study_of s lanes) (study_of u lanes)) where
  openable_on : Openable s lanes → Openable u lanes
  openable_on h = record {
    reads = ap (λ (x : ReadAnswer). x.number) alike ∙ h.reads;
    opens = ap (λ (x : ReadAnswer). (lanes_fault (study_by u lanes x.road x.state x.steps)).number) alike ∙ h.opens;
  }

  -- they have the same states if no refusal applies
  states : Openable s lanes → (k : ℕ) → k ≤ (reading_of s).steps → filled_after laws (study_of u lanes) k ≡ filled_after laws (study_of s lanes) k
  states h k l =
      let ok : StudyOk (study_of s lanes) = (readable s lanes (reading_of s) refl h.reads h.opens).ok in
      ap (λ (m : MeterState). m.state) (metered_same laws ok (same h.reads) k l)

  last_same : Openable s lanes → last_of laws lanes u ≡ last_of laws lanes s
  last_same h =
      ap (λ (x : ReadAnswer). filled_after laws (study_of u lanes) x.steps) alike ∙ states h (reading_of s).steps (le_refl (reading_of s).steps)

  -- so filling answers alike
  pub fills_alike : (list : List ℕ) → filling_of laws u lanes list ≡ filling_of laws s lanes list
  fills_alike list =
      let x = reading_of s in
      let f = table_fault lanes x.road.n x.steps in
      let p = law_fault_of laws x.road.ramp x.road.n in
      fills_by laws u lanes list
      ∙ ap (λ (y : ReadAnswer). end_by laws lanes (length list) y (last_of laws lanes u)) alike
      ∙ unless_same (eqb x.number 0) (no_state x.number x.place) (λ r.
      unless_same (eqb p 0) (no_state 16 p) (λ _.
      unless_same (eqb f.number 0) (no_state f.number f.place) (λ o.
      unless_same (leb (x.steps * (x.road.n + 1)) (length list)) (no_state 11 0) (λ _.
      ap (end_with 0 0 0 x.road) (last_same (record { reads = eqb-true x.number 0 r; opens = eqb-true f.number 0 o }))))))
      ∙ sym (fills_by laws s lanes list)

  -- the longest queues are the same
  pub queues_alike : (list : List ℕ) → longest_fill laws u lanes list ≡ longest_fill laws s lanes list
  unfolding longest_fill metered_from
  queues_alike list =
      let a = study_of s lanes in
      let b = study_of u lanes in
      let e = filling_of laws s lanes list in
      let k = steps_made a e in
      let made : steps_made b (filling_of laws u lanes list) ≡ k =
      ap (steps_made b) (fills_alike list) ∙ ap (λ (x : ReadAnswer). cond (eqb e.number 0) x.steps e.step) alike in
      let begin : b.start ≡ a.start = ap (λ (x : ReadAnswer). x.state) alike in
      ap (λ (j : ℕ). longest_of b.road.n (filled_after laws b) j) made
      ∙ ap (λ (x : ReadAnswer). longest_of x.road.n (filled_after laws b) k) alike
      ∙ longest_same a.road.n (filled_after laws b) (filled_after laws a) k
      (fault_elim e.number
      (λ h j l.
      let none : k ≡ 0 = rw (ne_eqb e.number 0 h) (fills_step laws s lanes list) in
      let z : j ≡ 0 = omega arith in
      rw z begin)
      (λ h j l.
      let all : k ≡ a.steps = rw (eq-eqb e.number 0 h) refl in
      states (filled_openable_by laws s lanes list h) j (omega arith)))

  -- the lists are the same
  pub lists_alike : (list : List ℕ) → filled_list laws u lanes list ≡ filled_list laws s lanes list
  unfolding filled_list
  lists_alike list =
      let e = filling_of laws s lanes list in
      let d : (filling_of laws u lanes list).number ≡ e.number = ap (λ (x : EndAnswer). x.number) (fills_alike list) in
      fault_elim e.number
      (λ h. rw (d, ne_eqb e.number 0 h) refl)
      (λ h. let openable = filled_openable_by laws s lanes list h in (filled_alike_by laws s u lanes list openable (openable_on openable) (same openable.reads)).written)

-- filling uses only the length of the list
module _ (laws : List Law) (s lanes list out : List ℕ) (e : length out ≡ length list) where
  pub room_same : filling_of laws s lanes out ≡ filling_of laws s lanes list
  room_same = fills_by laws s lanes out ∙ ap (λ (m : ℕ). end_by laws lanes m (reading_of s) (last_of laws lanes s)) e ∙ sym (fills_by laws s lanes list)

  pub room_queues : longest_fill laws s lanes out ≡ longest_fill laws s lanes list
  unfolding longest_fill
  room_queues = ap (λ (x : EndAnswer). longest_of (study_of s lanes).road.n (filled_after laws (study_of s lanes)) (steps_made (study_of s lanes) x)) room_same

  pub room_record : record_after laws s lanes out ≡ record_after laws s lanes list
  unfolding record_after
  room_record = ap (λ (x : EndAnswer). unless (eqb x.number 0) s (filled_bytes laws s lanes)) room_same
