-- What reading gives, as a study: it is within the limits and begins with the state of its start. Assumes nothing.
use Rattle.std.specs.Prelude.{◌≡◌, refl, Bool, true, false, List, ℕ, eqb, length}
use Rattle.std.proofs.Common.{sym, ap, subst, ◌∙◌, arith, eqb-true}
use Rattle.std.proofs.lemmas.Bool.{eqb-false}
use Rattle.model.specs.declared.Road.{Road}
use Rattle.model.specs.declared.State.{State}
use Rattle.model.specs.Road.{zeros, start_state, start_in}
use Rattle.model.specs.Record.{second_version}
use Rattle.limits.specs.LimitsLaws.{StateOk}
use Rattle.model.specs.Reading.{size_of, reading_of, study_of}
use Rattle.reading.specs.Numbers.{read_numbers}
use Rattle.reading.specs.Versions.{read_untimed}
use Rattle.reading.specs.Within.{read_within_lem}
use Rattle.model.specs.Writing.{kept_seconds}
use Rattle.writing.specs.CutLaws.{kept_second, kept_none}
use Rattle.writing.specs.ReadBack.{Recordable}

-- a state before step 0 is that of its start
start_state_lem : (q : State) → q.done ≡ 0 → q.gate_time ≡ 0 → q.road_time ≡ 0 → q.ramp_time ≡ 0
    → q.gate_cumulative ≡ 0 → q.cumulative ≡ zeros
    → start_state (start_in q) ≡ q
start_state_lem q d u v w g c =
    sym (ap (λ (x : ℕ). made x q.gate_time q.road_time q.ramp_time q.gate_cumulative q.cumulative) d
    ∙ ap (λ (x : ℕ). made 0 x q.road_time q.ramp_time q.gate_cumulative q.cumulative) u
    ∙ ap (λ (x : ℕ). made 0 0 x q.ramp_time q.gate_cumulative q.cumulative) v
    ∙ ap (λ (x : ℕ). made 0 0 0 x q.gate_cumulative q.cumulative) w
    ∙ ap (λ (x : ℕ). made 0 0 0 0 x q.cumulative) g
    ∙ ap (λ (l : List ℕ). made 0 0 0 0 0 l) c)
  where
    made : ℕ → ℕ → ℕ → ℕ → ℕ → List ℕ → State
    made done gate road ramp out cumulative = record {
      done = done;
      gate_time = gate;
      road_time = road;
      ramp_time = ramp;
      gate_queue = q.gate_queue;
      gate_cumulative = out;
      held = q.held;
      queue = q.queue;
      cumulative = cumulative;
    }

module _ (s : List ℕ) (reads : (reading_of s).number ≡ 0) where
  abbrev r : Road
  r = (reading_of s).road

  pub read_start : start_state (start_in (reading_of s).state) ≡ (reading_of s).state
  read_start =
      let n = read_numbers s (reading_of s) refl reads in
      start_state_lem (reading_of s).state n.done n.gate_time n.road_time n.ramp_time n.gate_cumulative n.cumulative

  -- the size for the version read is the record's length
  pub read_size : size_of (reading_of s).road.version (reading_of s).road.n (reading_of s).steps ≡ length s
  read_size =
      ap (λ (v : ℕ). size_of v r.n (reading_of s).steps) (read_numbers s (reading_of s) refl reads).version
      ∙ sym (read_within_lem s (reading_of s) refl reads).size

  pub read_recordable : (lanes : List ℕ) → Recordable (study_of s lanes)
  read_recordable lanes =
      let w = read_within_lem s (reading_of s) refl reads in
      record {
        version = w.version;
        counts = record { some_cells = w.road.some; cells = w.road.cells; some_steps = w.some_steps; steps = w.steps };
        seconds = w.seconds;
        size = omega (arith, read_size, w.bytes);
        road = w.road;
        start = subst (λ (q : State). StateOk (reading_of s).road q) (sym read_start) w.state;
        row = w.row;
      }

  -- if the version has no seconds they are 0
  pub read_kept : kept_seconds (reading_of s).road.version (reading_of s).road.seconds ≡ (reading_of s).road.seconds
  read_kept = go (eqb r.version second_version) refl
    where
      go : (b : Bool) → eqb r.version second_version ≡ b → kept_seconds r.version r.seconds ≡ r.seconds
      go true e = kept_second r.version r.seconds (eqb-true r.version second_version e)
      go false e =
          let first = eqb-false r.version second_version e in
          kept_none r.version r.seconds first ∙ sym (read_untimed s (reading_of s) refl reads first)
