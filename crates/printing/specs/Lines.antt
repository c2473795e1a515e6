-- What printing requires, and the invariant of its loop over the steps. Assumes nothing.
use Rattle.std.specs.Prelude.{◌≡◌, Bool, true, false, cond, eqb, length, drop, set}
use Rattle.std.proofs.Math.Path.{refl, sym, ap, subst}
use Rattle.std.proofs.Common.{◌∙◌, mul-le-mul, add-one, length-append, length-take-le, drop-set-lt}
use mathlib.Core.List.{List, [], ◌∷◌, ◌++◌, append-nil}
use Prim.Native.Nat.{ℕ, suc, ◌+◌, ◌*◌, ◌/◌, min, ◌≤◌, ◌<◌}
use native.Mathlib.Omega.{arith}
use Rattle.std.proofs.lemmas.Grind.{common_steps}
use Rattle.std.proofs.lemmas.List.Edits.{sets}
use borrow.Author.Tests.{eq-eqb, ne_eqb}
use Rattle.numbers.specs.TablesLaws.{row_ends, mul_more}
use Rattle.model.specs.Refusals.{FaultAnswer}
use Rattle.model.specs.declared.Road.{Road}
use Rattle.model.specs.declared.State.{State}
use Rattle.model.specs.Road.{most_steps, most_seconds, most_long, total_of}
use Rattle.model.specs.Schedules.{Study, places, table_size, outflows_of, engine_after, outflows_at}
use Rattle.model.specs.Words.{vehicle_seconds, vehicle_seconds_of}
use Rattle.model.specs.Record.{second_version, record_row}
use Rattle.model.specs.Limits.{most_total}
use Rattle.model.specs.Move.{next_of, exits_of}
use Rattle.model.specs.Stepping.{releases_of}
use Rattle.theory.specs.RunsLaws.{StudyOk}
use Rattle.outflows.specs.declared.Ledger.{Ledger}
use Rattle.outflows.specs.Columns.{ledger_of}
use Rattle.passes.specs.declared.columns.Size.{Size}
use Rattle.passes.specs.Tables.{Table, road_in, state_in, cell_col, RoadTables}
use Rattle.passes.specs.Supplies.{NoRamp}
use Rattle.passes.specs.RampList.{Listed}
use Rattle.passes.specs.Step.{Arrays, StepGives}
use Rattle.model.specs.Reading.{ReadAnswer, reading_within, reading_of, study_by}
use Rattle.reading.specs.Caller.{within_accepted}
use Rattle.model.specs.Listing.{most_outflows, most_line, most_last, most_time, header_line, lines_of, total_line}
use Rattle.model.specs.Listing.{seconds_line, refused_line, steps_lines, time_of, last_of, printed_end}
use Rattle.model.specs.Listing.{printed_run, printed_within, most_text, HoldsPrinted}
use Rattle.model.specs.Running.{EndAnswer, end_with, run_end}
use Rattle.theory.specs.Readable.{Readable}
use Rattle.running.specs.Arrays.{start_table, empty_table, arrays_start}
use Rattle.running.specs.Steps.{FaultlessSteps, RunTurn, ran_reached, ran_none, ran_more, row_is, ends_ran, all_ran}
use Rattle.model.specs.Numbers.{placed}
use Rattle.numbers.specs.PlacedText.{Puts, placed_none, placed_more, puts_first, puts_more, Room, room}
use Rattle.listing.specs.ListingLaws.{header_room, lines_room, total_length, total_room, seconds_length, refused_room}

-- a record that reads, and a buffer that is long enough
pub record Printable (bytes : List ℕ) (a : Study) (buffer : List ℕ) : Type 0 where
  pub readable : Readable bytes a
  pub enough : most_text ≤ length buffer

-- room for the last lines, with a total and seconds within their limits
pub record LastLinesRequire (r : Road) (u : State) (buffer : List ℕ) (at : ℕ) : Type 0 where
  pub enough : at + (most_last + most_time) ≤ length buffer
  pub total : total_of u ≤ most_total most_steps
  pub seconds : r.seconds ≤ most_seconds

-- within these limits the vehicle-seconds are exact
pub exact_seconds : (total seconds : ℕ) → total ≤ most_total most_steps → seconds ≤ most_seconds
    → min (vehicle_seconds (min total most_long) seconds) most_long ≡ vehicle_seconds total seconds
unfolding vehicle_seconds
exact_seconds total seconds h s =
    let e : min total most_long ≡ total = omega arith in
    rw e (small (mul-le-mul h s))
  where
    small : total * seconds ≤ most_total most_steps * most_seconds → min (total * seconds / 1000) most_long ≡ total * seconds / 1000
    small l = omega arith

-- the line of the seconds, by the test of the version
module _ (r : Road) (u : State) where
  pub time_timed : r.version ≡ second_version → time_of r u ≡ seconds_line (vehicle_seconds (total_of u) r.seconds)
  unfolding time_of
  time_timed k = rw (eq-eqb r.version second_version k) refl

  pub time_untimed : (r.version ≡ second_version → ⊥) → time_of r u ≡ []
  unfolding time_of
  time_untimed k = rw (ne_eqb r.version second_version k) refl

-- what the search needs for the last lines
pub ruleset last_steps = (common_steps, exact_seconds, time_timed, time_untimed, placed_more)

module _ {r : Road} {u : State} {buffer : List ℕ} {at : ℕ} (h : LastLinesRequire r u buffer at) {total : ℕ} (e : total ≡ min (total_of u) most_long) where
  -- the total is within its limit, so the number returned is the total itself
  pub total_is : total ≡ total_of u
  total_is = omega (arith, e, h.total)

  -- its product with the seconds is at most 2.592 × 10^17, which fits a machine number
  pub time_small : total * r.seconds ≤ most_total most_steps * most_seconds
  time_small = let l : total ≤ most_total most_steps = omega (arith, total_is, h.total) in mul-le-mul l h.seconds

  -- so the vehicle-seconds are exact
  time_is : {time : ℕ} → time ≡ vehicle_seconds_of r.seconds u → time ≡ vehicle_seconds (total_of u) r.seconds
  time_is et = et ∙ exact_seconds (total_of u) r.seconds h.total h.seconds

  module _ {exits : ℕ} (x : exits ≡ exits_of r u) {after : List ℕ} {m : ℕ}
      (p : Puts buffer at (total_line total u.gate_time u.road_time u.ramp_time exits) after m) where
    -- there is room for the line of the seconds
    pub time_fits : m + most_time ≤ length after
    time_fits = let z = total_room buffer at _ _ _ _ _ after m p in omega (arith, z.end, z.same, h.enough)

    last_line : Puts buffer at (total_line (total_of u) u.gate_time u.road_time u.ramp_time (exits_of r u)) after m
    last_line = rw (total_is, x) at p

    -- only the line of the totals, and both lines
    pub ends_untimed : (r.version ≡ second_version → ⊥) → Puts buffer at (last_of r u) after m
    ends_untimed k = rw (time_untimed r u k, append-nil (total_line (total_of u) u.gate_time u.road_time u.ramp_time (exits_of r u))) last_line

    pub ends_timed : r.version ≡ second_version → {time : ℕ} → time ≡ vehicle_seconds_of r.seconds u
        → {end : List ℕ} {to : ℕ} → Puts after m (seconds_line time) end to → Puts buffer at (last_of r u) end to
    ends_timed k et {end} {to} q =
        rw (time_timed r u k) (puts_more buffer at _ after m _ end to last_line (rw (time_is et) at q))

-- the length of the last lines
last_length : (r : Road) (u : State) → length (last_of r u) ≤ most_last + most_time
unfolding time_of
last_length r u =
    omega (
      arith,
      length-append (total_line (total_of u) u.gate_time u.road_time u.ramp_time (exits_of r u)) (time_of r u),
      total_length (total_of u) u.gate_time u.road_time u.ramp_time (exits_of r u),
      go (eqb r.version second_version),
    )
  where
    go : (b : Bool) → length (cond b (seconds_line (vehicle_seconds (total_of u) r.seconds)) []) ≤ most_time
    go true = seconds_length (vehicle_seconds (total_of u) r.seconds)
    go false = omega arith

-- the tables before the first step, of a road and a state
module _ {r : Road} (s : State) {z : Size} {rates sizes state : Table} {cell : List ℕ} (h : RoadTables r z rates sizes cell)
    (columns : state ≡ start_table r s) (bytes : List ℕ) (steps : ℕ) where
  -- their study is that of the road and the state
  pub study_is : {l : Ledger} → l ≡ ledger_of s → study_by bytes [] (road_in r z rates sizes) (state_in l state) steps ≡ study_by bytes [] r s steps
  study_is {l} e =
      ap (λ (q : Road). study_by bytes [] q (state_in l state) steps) h.road
      ∙ ap (λ (t : Table). study_by bytes [] r (state_in l t) steps) columns
      ∙ ap (λ (m : Ledger). study_by bytes [] r (state_in m (start_table r s)) steps) e

  pub arrays_first : {ramps : ℕ} → StudyOk (study_by bytes [] r s steps) → Listed (NoRamp r.ramp) r.n ramps cell
      → Arrays (road_in r z rates sizes) ramps (cell_col sizes) state empty_table
  arrays_first {ramps} ok listed =
      subst (λ (q : Road). Arrays q ramps (cell_col sizes) state empty_table) (sym h.road)
      (subst (λ (c : List ℕ). Arrays r ramps c state empty_table) (sym h.cells) (arrays_start s ok listed columns))

-- a step was tested: with a fault the buffer is unchanged; without one the step is made and its lines are put
pub record StepLinesGive (bytes : List ℕ) (k : ℕ) (q : Road) (u : State) (ramps : ℕ) (cell before : List ℕ) (at : ℕ) (f : FaultAnswer)
    (l : Ledger) (state work : Table) (after : List ℕ) (end : ℕ) : Type 0 where
  pub found : f ≡ releases_of q u (record_row bytes q.n k)
  pub same : (f.number ≡ 0 → ⊥) → after ≡ before
  pub next : f.number ≡ 0 → state_in l state ≡ next_of q u (record_row bytes q.n k) (outflows_of q u (record_row bytes q.n k))
  pub lines : f.number ≡ 0 → Puts before at (lines_of k (outflows_of q u (record_row bytes q.n k)) (state_in l state) q.n) after end
  pub arrays : f.number ≡ 0 → Arrays q ramps cell state work

module _ {bytes : List ℕ} {k : ℕ} {q : Road} {ramps : ℕ} {cell : List ℕ} {l₀ : Ledger} {state₀ : Table} {y₀ : List ℕ} {f : FaultAnswer} {l : Ledger}
    {state work : Table} {y : List ℕ} (h : StepGives bytes k q ramps cell l₀ state₀ y₀ f l state work y) where
  pub put_none : (f.number ≡ 0 → ⊥) → (before : List ℕ) (at : ℕ) → StepLinesGive bytes k q (state_in l₀ state₀) ramps cell before at f l state work before at
  put_none n before at = record {
    found = h.found;
    same = λ _. refl;
    next = h.next;
    lines = λ z. absurd (n z);
    arrays = h.arrays;
  }

  pub put_lines : f.number ≡ 0 → {before after : List ℕ} {at end : ℕ} → Puts before at (lines_of k y (state_in l state) q.n) after end
      → StepLinesGive bytes k q (state_in l₀ state₀) ramps cell before at f l state work after end
  put_lines z p = record {
    found = h.found;
    same = λ n. absurd (n z);
    next = h.next;
    lines = λ _. rw (h.outflows z) at p;
    arrays = h.arrays;
  }

-- k steps are made: their lines are in the buffer after the header, which ends at `start`
pub record LinesInBuffer (a : Study) (before : List ℕ) (start : ℕ) (buffer : List ℕ) (u : State) (end k : ℕ) : Type 0 where
  pub ran : FaultlessSteps a u k
  pub top : start ≤ most_line
  pub enough : most_text ≤ length before
  pub puts : Puts before start (steps_lines a k) buffer end
  pub room : Room before start buffer end (most_line * (k * places a))

-- the same for a buffer with equal bytes
pub lined_same : {a : Study} {before : List ℕ} {start : ℕ} {buffer other : List ℕ} {u : State} {end k : ℕ} → other ≡ buffer
    → LinesInBuffer a before start buffer u end k
    → LinesInBuffer a before start other u end k
lined_same {a} {before} {start} {u = u} {end} {k} e h = subst (λ (b : List ℕ). LinesInBuffer a before start b u end k) (sym e) h

module _ {a : Study} {before : List ℕ} {start : ℕ} where
  pub lined_none : start ≤ most_line → most_text ≤ length before → LinesInBuffer a before start before a.start start 0
  unfolding steps_lines
  lined_none t e = record {
    ran = ran_none;
    top = t;
    enough = e;
    puts = (omega arith, sym (placed_none before start));
    room = record { end = omega arith; same = refl };
  }

  module _ {buffer : List ℕ} {u : State} {end k : ℕ} (h : LinesInBuffer a before start buffer u end k) where
    -- there is room for the lines of the next step, and for a refusal's line
    pub lines_fit : table_size a ≤ most_outflows → k < a.steps → end + most_line * places a ≤ length buffer
    lines_fit m l = omega (arith, h.room.end, h.room.same, h.top, h.enough, row_ends k a.steps (places a) l)

    pub line_fits : 0 + most_line ≤ length buffer
    line_fits = omega (arith, h.room.same, h.enough)

    -- after all steps there is room for the last lines
    pub lines_end : StudyOk a → table_size a ≤ most_outflows → a.road.seconds ≤ most_seconds → a.steps ≤ k → {r : Road} → r ≡ a.road → {v : State} → v ≡ u
        → LastLinesRequire r v buffer end
    lines_end ok m seconds l er ev =
        let e : k ≡ a.steps = all_ran h.ran l in
        let f : k * places a ≡ a.steps * places a = rw e in
        let z = (ran_reached ok h.ran).state in
        rw (er, ev) (record {
          enough = omega (arith, h.room.end, h.room.same, h.top, h.enough, f);
          total = omega (arith, z.total, z.done);
          seconds = seconds;
        })

    module _ {q : Road} {row : List ℕ} (t : RunTurn a u k q row) {f : FaultAnswer} (e : f ≡ releases_of q u row) (z : f.number ≡ 0) where
      -- one more step is made, and its lines are put
      pub lined_more : {v : State} {y c : List ℕ} {m : ℕ} → v ≡ next_of q u row (outflows_of q u row) → y ≡ outflows_of q u row
          → Puts buffer end (lines_of k y v a.road.n) c m → LinesInBuffer a before start c v m (k + 1)
      unfolding steps_lines
      lined_more {v} {y} {c} {m} ev ey p =
          let w = ran_more t e z ev in
          let s : v ≡ engine_after a (suc k) = rw (add-one k) at w.state in
          let g : Puts buffer end (lines_of k (outflows_at a k) (engine_after a (suc k)) a.road.n) c m = rw (row_is t ey, s) at p in
          let x = lines_room buffer end k y v a.road.n c m p in
          record {
            ran = w;
            top = h.top;
            enough = h.enough;
            puts = rw (add-one k) (puts_more before start (steps_lines a k) buffer end _ c m h.puts g);
            room = record { end = omega (arith, x.end, h.room.end, mul_more k (places a)); same = x.same ∙ h.room.same };
          }

-- bytes past the text are unchanged
sets_beyond : (text list : List ℕ) (at k : ℕ) → at + length text ≤ k → drop k (sets list at text) ≡ drop k list
sets_beyond [] list at k l = refl
sets_beyond (x ∷ text) list at k l = sets_beyond text (set list at x) (suc at) k (omega arith) ∙ drop-set-lt k list at x (omega arith)

puts_beyond : (before : List ℕ) (at : ℕ) (text after : List ℕ) (end k : ℕ) → Puts before at text after end → end ≤ k → drop k after ≡ drop k before
unfolding placed
puts_beyond before at text after end k p l = ap (drop k) p.1 ∙ sets_beyond text before at k (omega (arith, p.0))

-- a text put at the start of a buffer
printed : (before text after : List ℕ) (end k : ℕ) → Puts before 0 text after end → Room before 0 after end k → k ≤ most_text → most_text ≤ length before
    → HoldsPrinted before text after end
printed before text after end k p z l m = record {
  holds = record {
    first = puts_first before text after end p (omega (arith, p.0, z.end));
    within = omega (arith, z.end, z.same);
    counted = sym (length-take-le end after (omega (arith, z.end, z.same)));
    same = z.same;
  };
  short = omega (arith, z.end);
  beyond = puts_beyond before 0 text after end most_text p (omega (arith, z.end));
}

-- after the header, which ends at `start`, and the lines of k steps
module _ {a : Study} {before start_buffer : List ℕ} {start : ℕ} {buffer : List ℕ} {u : State} {end k : ℕ} (p : Puts before 0 header_line start_buffer start)
    (h : LinesInBuffer a start_buffer start buffer u end k) (most : table_size a ≤ most_outflows) where
  -- a refusal's line, instead of what was put before
  pub holds_fault : k < a.steps → {e : EndAnswer} {after : List ℕ} {m : ℕ} → e ≡ run_end a → (e.number ≡ 0 → ⊥)
      → Puts buffer 0 (refused_line e.number e.step e.place) after m → HoldsPrinted before (printed_run a) after m
  unfolding printed_run
  holds_fault l {e} {after} {m} ee n q =
      let y = header_room before 0 start_buffer start p in
      let z = refused_room buffer 0 e.number e.step e.place after m q in
      let w = printed buffer (refused_line e.number e.step e.place) after m most_line q z (omega arith) (omega (arith, h.room.same, h.enough)) in
      let t : printed_end a (run_end a) ≡ refused_line e.number e.step e.place = rw (← ee, ne_eqb e.number 0 n) refl in
      let lines : end ≤ most_text = omega (arith, h.room.end, h.top, row_ends k a.steps (places a) l) in
      let held = w.holds in
      record {
        holds = record { first = held.first ∙ sym t; within = held.within; counted = held.counted; same = held.same ∙ h.room.same ∙ y.same };
        short = w.short;
        beyond =
            w.beyond ∙ puts_beyond start_buffer start (steps_lines a k) buffer end most_text h.puts lines
            ∙ puts_beyond before 0 header_line start_buffer start most_text p (omega (arith, h.top));
      }

  -- the last lines, if all steps are made
  pub holds_run : a.steps ≤ k → {r : Road} → r ≡ a.road → {v : State} → v ≡ u → {after : List ℕ} {m : ℕ} → Puts buffer end (last_of r v) after m
      → HoldsPrinted before (printed_run a) after m
  unfolding printed_run
  holds_run l er ev {after} {m} put =
      let q : Puts buffer end (last_of a.road u) after m = rw (er, ev) at put in
      let e : end_with 0 0 0 a.road u ≡ run_end a = ends_ran h.ran l refl in
      let i : k ≡ a.steps = all_ran h.ran l in
      let j : k * places a ≡ a.steps * places a = rw i in
      let lines : Puts start_buffer start (steps_lines a a.steps) buffer end = rw i at h.puts in
      let y = header_room before 0 start_buffer start p in
      let w = room buffer end (last_of a.road u) after m (most_last + most_time) q (last_length a.road u) in
      let t : header_line ++ (steps_lines a a.steps ++ last_of a.road u) ≡ printed_end a (run_end a) = rw (← e) refl in
      let all = puts_more before 0 header_line start_buffer start _ after m p (puts_more start_buffer start (steps_lines a a.steps) buffer end _ after m lines q) in
      subst (λ (text : List ℕ). HoldsPrinted before text after m) t
      (printed before _ after m most_text all
      (record { end = omega (arith, w.end, h.room.end, h.top, most, j); same = w.same ∙ h.room.same ∙ y.same })
      (omega arith) (omega (arith, h.enough, y.same)))

-- an accepted record is read as without the caller's limits
pub read_same : (cells most : ℕ) (bytes : List ℕ) {x : ReadAnswer} → x ≡ reading_within cells most bytes → x.number ≡ 0 → x ≡ reading_of bytes
read_same cells most bytes ex z = ex ∙ within_accepted bytes cells most (rw ex at z)

-- what is printed for a record, from reading's answer
module _ (cells most : ℕ) (bytes : List ℕ) {x : ReadAnswer} (ex : x ≡ reading_within cells most bytes) {before after : List ℕ} {m : ℕ} where
  pub holds_refused : (x.number ≡ 0 → ⊥) → most_text ≤ length before → Puts before 0 (refused_line x.number 0 x.place) after m
      → HoldsPrinted before (printed_within cells most bytes) after m
  unfolding printed_within
  holds_refused n l p =
      let z = refused_room before 0 x.number 0 x.place after m p in
      rw (← ex, ne_eqb x.number 0 n) (printed before (refused_line x.number 0 x.place) after m most_line p z (omega arith) l)

  pub holds_read : x.number ≡ 0 → HoldsPrinted before (printed_run (study_by bytes [] x.road x.state x.steps)) after m
      → HoldsPrinted before (printed_within cells most bytes) after m
  unfolding printed_within
  holds_read z h = rw (← ex, eq-eqb x.number 0 z, ← read_same cells most bytes ex z) h
