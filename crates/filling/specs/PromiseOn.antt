-- The answers of filling that goes on, from the results of its code. Assumes nothing.
use Rattle.std.specs.Prelude.{◌≡◌, Bool, ◌&&◌, List, ℕ, ◌+◌, ◌≤◌, ◌<◌}
use Rattle.std.proofs.Math.Path.{refl, sym, ap}
use Rattle.std.proofs.Common.{◌∙◌, arith}
use Rattle.std.proofs.Math.Dec.{leb}
use Rattle.std.proofs.Math.ListN.{length}
use borrow.Author.Tests.{leb-true, eq-eqb, ne_eqb, le-leb, lt-leb}
use Rattle.numbers.specs.Tests.{and_true, unless_elim}
use Rattle.numbers.specs.FirstLaws.{all_at}
use Rattle.model.specs.Numbers.{at, unless, all_of}
use Rattle.model.specs.Road.{most_steps, zeros, empty_state}
use Rattle.model.specs.declared.State.{State}
use Rattle.model.specs.declared.Law.{Law}
use Rattle.model.specs.Limits.{state_ok}
use Rattle.limits.specs.LimitsLaws.{state_facts}
use Rattle.model.specs.Schedules.{Study, table_size}
use Rattle.model.specs.Reading.{ReadAnswer, reading_of, study_by}
use Rattle.model.specs.Running.{EndAnswer, end_with, no_state, steps_made, table_of}
use Rattle.model.specs.Filling.{MeterState, meter_state, meter_start}
use Rattle.model.specs.Put.{put_table}
use Rattle.model.specs.Filling.{metered_from, granted_from, filled_from}
use Rattle.model.specs.Longest.{Queues, longest_of}
use Rattle.model.specs.GoingOn.{study_after, entries_ok, progress_fault, filling_on, progress_on, record_on, filled_list_on, longest_fill_on}
use Rattle.theory.specs.StartingState.{StartOk}
use Rattle.counts.specs.Longest.{no_queues}
use Rattle.counts.specs.LongestLaws.{longest_none}
use Rattle.filling.specs.FillReading.{NoRefusal, FillReading}
use Rattle.filling.specs.LongestFill.{longest_from}

-- after a refusal the progress is all zero
pub nothing : {s : State} {releases entries : List ℕ} → s ≡ empty_state → releases ≡ zeros → entries ≡ zeros
    → meter_state s releases entries ≡ meter_start empty_state
nothing {s} {releases} {entries} es er ee =
    ap (λ (x : State). meter_state x releases entries) es ∙ ap (λ (x : List ℕ). meter_state empty_state x entries) er ∙ ap (meter_state empty_state zeros) ee

module _ (laws : List Law) (bytes lanes : List ℕ) (m : MeterState) (list : List ℕ) where
  abbrev a : Study
  a = study_after bytes lanes m

  abbrev finished : EndAnswer
  finished = end_with 0 0 0 a.road (metered_from laws a m a.steps).state

  -- the answer, the record and the list afterwards, the longest queues, and what a further record goes on from
  abbrev pub PromiseOn : EndAnswer → List ℕ → List ℕ → Queues → MeterState → Type 0
  PromiseOn e after out q p =
      (e ≡ filling_on laws bytes lanes m list) × ((after ≡ record_on laws bytes lanes m list) × ((out ≡ filled_list_on laws bytes lanes m list)
      × ((q ≡ longest_fill_on laws bytes lanes m list) × (p ≡ progress_on laws bytes lanes m list))))

  -- a refusal leaves record and list unchanged, and no step is done
  refusal : {e : EndAnswer} {q : Queues} {p : MeterState} (number place : ℕ) → (number ≡ 0 → ⊥) → filling_on laws bytes lanes m list ≡ no_state number place
      → e ≡ no_state number place → q ≡ no_queues → p ≡ meter_start empty_state → PromiseOn e bytes list q p
  unfolding record_on filled_list_on longest_fill_on progress_on
  refusal number place d ef ee eq ep =
      let none : steps_made a (filling_on laws bytes lanes m list) ≡ 0 = rw (ef, ne_eqb number 0 d) refl in (
        ee ∙ sym ef,
        (
          rw (ef, ne_eqb number 0 d) refl,
          (
            rw (ef, ne_eqb number 0 d) refl,
            (
              eq ∙ sym (ap (longest_of a.road.n (λ k. (metered_from laws a m k).state)) none ∙ longest_none a.road.n (λ k. (metered_from laws a m k).state)),
              ep ∙ rw (ef, ne_eqb number 0 d) refl,
            ),
          ),
        ),
      )

  module _ {x : ReadAnswer} (h : FillReading laws bytes lanes x) where
    pub on_refused : {e : EndAnswer} {q : Queues} {p : MeterState} → (x.number ≡ 0 → ⊥) → e ≡ no_state x.number x.place → q ≡ no_queues
        → p ≡ meter_start empty_state → PromiseOn e bytes list q p
    unfolding filling_on
    on_refused n ee eq ep = refusal x.number x.place n (h.refused n _) ee eq ep

    -- nothing is refused so far, and g is the code's refusal of the start
    module _ (well : x.number ≡ 0) {t u : Bool} {g : ℕ} (et : t ≡ state_ok x.road m.state)
        (eu : u ≡ all_of (λ i. leb (at m.entries i) (at m.state.held i)) x.road.n)
        (eg : g ≡ unless (t && u) 7 (unless (leb (m.state.done + x.steps) most_steps) 8 0)) where
      w : NoRefusal laws bytes lanes x
      w = h.passed well

      start_is : g ≡ progress_fault (study_after bytes lanes m) m
      unfolding progress_fault entries_ok
      start_is =
          eg ∙ ap (λ (b : Bool). unless (b && u) 7 (unless (leb (m.state.done + x.steps) most_steps) 8 0)) et
          ∙ ap (λ (b : Bool). unless (state_ok x.road m.state && b) 7 (unless (leb (m.state.done + x.steps) most_steps) 8 0)) eu
          ∙ ap (λ (y : ReadAnswer). unless (state_ok y.road m.state && all_of (λ i. leb (at m.entries i) (at m.state.held i)) y.road.n) 7
          (unless (leb (m.state.done + y.steps) most_steps) 8 0)) w.same

      pub on_start : {e : EndAnswer} {q : Queues} {p : MeterState} → (g ≡ 0 → ⊥) → e ≡ no_state g 0 → q ≡ no_queues
          → p ≡ meter_start empty_state → PromiseOn e bytes list q p
      unfolding filling_on
      on_start d ee eq ep =
          let n : progress_fault a m ≡ 0 → ⊥ = λ z. d (start_is ∙ z) in
          refusal (progress_fault a m) 0 n
          (w.none _ ∙ rw (ne_eqb (progress_fault a m) 0 n) refl)
          (ee ∙ ap (λ (k : ℕ). no_state k 0) start_is) eq ep

      module _ (z : g ≡ 0) where
        starts : progress_fault (study_after bytes lanes m) m ≡ 0
        starts = sym start_is ∙ z

        -- the start is within its limits, and so are the last entries
        begins_on : StartOk (study_after bytes lanes m) × ((i : ℕ) → i < (reading_of bytes).road.n → at m.entries i ≤ at m.state.held i)
        unfolding progress_fault entries_ok
        begins_on =
            let P = StartOk a × ((i : ℕ) → i < (reading_of bytes).road.n → at m.entries i ≤ at m.state.held i) in
            let test = state_ok a.road m.state && all_of (λ i. leb (at m.entries i) (at m.state.held i)) a.road.n in
            unless_elim (λ (k : ℕ). k ≡ 0 → P) test (λ _ e. absurd (omega arith)) (λ y.
            unless_elim (λ (k : ℕ). k ≡ 0 → P) (leb (a.start.done + a.steps) most_steps) (λ _ e. absurd (omega arith)) (λ l e.
            let b = and_true _ _ y in (
              record { state = state_facts a.road m.state b.0; steps = leb-true _ _ l },
              λ i less. leb-true _ _ (all_at (λ j. leb (at m.entries j) (at m.state.held j)) a.road.n b.1 i less),
            ))) starts

        pub starts_found : StartOk (study_by bytes lanes x.road m.state x.steps)
            × ((i : ℕ) → i < x.road.n → at m.entries i ≤ at m.state.held i)
        starts_found = rw w.same begins_on

        pub on_short : {e : EndAnswer} {q : Queues} {p : MeterState} → length list < table_size (study_by bytes lanes x.road m.state x.steps)
            → e ≡ no_state 11 0 → q ≡ no_queues → p ≡ meter_start empty_state → PromiseOn e bytes list q p
        unfolding filling_on
        on_short l ee eq ep =
            let n : length list < table_size a = rw w.same at l in
            refusal 11 0 (λ z. omega arith)
            (w.none _ ∙ rw (eq-eqb (progress_fault a m) 0 starts)
            (ap (λ (b : Bool). unless b (no_state 11 0) finished) (lt-leb (table_size a) (length list) n)))
            ee eq ep

        pub on_all : {e : EndAnswer} {after out : List ℕ} {q : Queues} {p : MeterState} → table_size (study_by bytes lanes x.road m.state x.steps) ≤ length list
            → e ≡ end_with 0 0 0 x.road (metered_from laws (study_by bytes lanes x.road m.state x.steps) m x.steps).state
            → after ≡ put_table bytes x.road.n (granted_from laws (study_by bytes lanes x.road m.state x.steps) m) x.steps
            → out ≡ table_of (filled_from laws (study_by bytes lanes x.road m.state x.steps) m) list x.steps
            → q ≡ longest_from laws (study_by bytes lanes x.road m.state x.steps) m
            → p ≡ metered_from laws (study_by bytes lanes x.road m.state x.steps) m x.steps → PromiseOn e after out q p
        unfolding filling_on record_on filled_list_on longest_fill_on progress_on
        on_all l ee ea eo eq ep =
            let n : table_size a ≤ length list = rw w.same at l in
            let all : filling_on laws bytes lanes m list ≡ finished =
            w.none _ ∙ rw (eq-eqb (progress_fault a m) 0 starts, le-leb (table_size a) (length list) n) in (
              rw w.same at ee ∙ sym all,
              (
                rw w.same at ea ∙ rw all,
                (
                  rw w.same at eo ∙ rw all,
                  (
                    rw w.same at eq ∙ sym (ap (λ (y : EndAnswer). longest_of a.road.n (λ k. (metered_from laws a m k).state) (steps_made a y)) all),
                    rw w.same at ep ∙ rw all,
                  ),
                ),
              ),
            )
