-- The invariant of the loop over the steps, and its end. Assumes nothing.
use Rattle.std.specs.Prelude.{◌≡◌, refl, List, [], ◌∷◌, ◌++◌, ℕ, ◌+◌, ◌-◌, ◌*◌, ◌≤◌, ◌<◌, Float, length, take, drop, replicate}
use Rattle.std.proofs.Math.Path.{sym, ap}
use Rattle.std.proofs.Common.{subst, ◌∙◌, add-one, arith}
use Rattle.std.proofs.lemmas.List.{length-replicate}
use Rattle.model.specs.Numbers.{at, fill_of}
use Rattle.numbers.specs.RowsLaws.{fill_at, length_fill}
use Rattle.numbers.specs.Zeros.{length_zeros}
use Rattle.model.specs.Road.{zeros}
use Rattle.outflows.specs.declared.Ledger.{Ledger}
use Rattle.passes.specs.Tables.{Table, state_in}
use Rattle.passes.specs.Rest.{rest_in}
use Rattle.passes.specs.Supplies.{NoRamp}
use Rattle.passes.specs.RampList.{Listed, AtRamps}
use Rattle.ramps.specs.Grants.{meter_in}
use Rattle.ramps.specs.LastStep.{came_in, CameRequires, lasts_known}
use Rattle.numbers.specs.TablesLaws.{row_ends, mul_more}
use Rattle.model.specs.declared.Road.{Road}
use Rattle.model.specs.declared.State.{State}
use Rattle.model.specs.Schedules.{Study, road_at, places, table_size, outflows_of, outflows_at}
use Rattle.model.specs.Record.{record_row}
use Rattle.model.specs.declared.Law.{Law}
use Rattle.meter.specs.LawColumns.{InColumns}
use Rattle.theory.specs.Roads.{StepRoad, step_row}
use Rattle.theory.specs.RunsLaws.{ReachedState, StepOf}
use Rattle.theory.proofs.RunsLaws.{step_input, step_sized, step_left}
use Rattle.model.specs.Filling.{MeterState, meter_state, granted_at, filled_row, metered_of}
use Rattle.model.specs.Put.{put_releases, put_table}
use Rattle.put.specs.ReleasesLaws.{PutTable, put_table_lem}
use Rattle.model.specs.Running.{table_of}
use Rattle.theory.proofs.TableLaws.{length_table, table_none, table_more}
use Rattle.theory.specs.Readable.{Readable}
use Rattle.model.specs.Filling.{metered_from, granted_from, rows_from, filled_from}
use Rattle.filling.specs.FillingFrom.{filled_road, filled_run, releases_small, filled_ok, filled_released, filled_reached}
use Rattle.filling.specs.Turn.{ArraysOk, kept_on, FillRequires, FillGives}

-- what filling step by step requires: a record that reads, whose rows are the study's, and a list that is long enough
pub record Fillable (bytes : List ℕ) (a : Study) (list : List ℕ) : Type 0 where
  pub readable : Readable bytes a
  pub rows : (k : ℕ) → a.rows k ≡ record_row bytes a.road.n k
  pub long : table_size a ≤ length list

-- k steps are filled: their releases are in the bytes and their outflows in the list, l and `table` hold the state after them, and the next row goes to `to`
pub record FilledSteps (laws : List Law) (bytes : List ℕ) (a : Study) (m₀ : MeterState) (list now out : List ℕ) (l : Ledger) (table : Table) (ramps : ℕ)
    (cell : List ℕ) (work : Table) (k to : ℕ) : Type 0 where
  pub within : k ≤ a.steps
  pub releases : now ≡ put_table bytes a.road.n (granted_from laws a m₀) k
  pub state : state_in l table ≡ (metered_from laws a m₀ k).state
  pub kept : ArraysOk a.road.n a.road.share a.road.ramp (metered_from laws a m₀ k) ramps cell table work
  pub place : to ≡ k * places a
  pub written : out ≡ table_of (filled_from laws a m₀) list k

-- the same with the last step's entries: one for each cell, none above what the cell holds
pub record FillableFrom (bytes : List ℕ) (a : Study) (m : MeterState) (list : List ℕ) : Type 0 where
  pub fillable : Fillable bytes a list
  pub entered : (i : ℕ) → i < a.road.n → at m.entries i ≤ at a.start.held i
  pub long_releases : a.road.n ≤ length m.releases
  pub long_entries : a.road.n ≤ length m.entries

pub came_ready : {bytes : List ℕ} {a : Study} {m : MeterState} {list : List ℕ} → FillableFrom bytes a m list
    → CameRequires a.road.n a.start.held a.start.cumulative m.entries
came_ready h =
    let ok = h.fillable.readable.ok in
    record {
      cells = ok.road.cells;
      helds = λ i l. omega (arith, ok.start.held i l, ok.road.jam i l);
      cumulatives = λ i l. omega (arith, ok.start.cumulative i l, ok.start.done);
      entered = h.entered;
    }

-- what the passes fill, before the first step: the last releases, and what had come into each cell
abbrev empty_column : List ℕ
empty_column = replicate 65 0

abbrev pub work_from : ℕ → ℕ → List ℕ → MeterState → Table
work_from n ramps cell m =
    empty_column ∷ fill_of (λ j. at m.releases (at cell j)) ramps empty_column ∷ empty_column ∷ empty_column
    ∷ fill_of (came_in m.state.held m.state.cumulative m.entries) n empty_column ∷ []

-- the tables before the first step
pub kept_start : (r : Road) {m : MeterState} {ramps : ℕ} {cell : List ℕ} {state work : Table} → CameRequires r.n m.state.held m.state.cumulative m.entries
    → r.n ≤ length m.releases → r.n ≤ length m.entries → Listed (NoRamp r.ramp) r.n ramps cell × AtRamps r.ramp ramps cell
    → state ≡ m.state.held ∷ m.state.queue ∷ m.state.cumulative ∷ fill_of (rest_in r.share m.state.cumulative) r.n zeros ∷ []
    → work ≡ work_from r.n ramps cell m → ArraysOk r.n r.share r.ramp m ramps cell state work
kept_start r {m} {ramps} {cell} ready long_r long_e at_ramps_lem es ew =
    let short : r.n ≤ length zeros = omega (arith, length_zeros, ready.cells) in
    let long : r.n ≤ length empty_column = omega (arith, length-replicate {A = ℕ} 65 0, ready.cells) in
    let f = rest_in r.share m.state.cumulative in
    let came = came_in m.state.held m.state.cumulative m.entries in
    rw (es, ew) (record {
      listed = at_ramps_lem.0;
      ramped = at_ramps_lem.1;
      lasts = lasts_known empty_column empty_column at_ramps_lem.0 ready refl long refl long;
      columns = refl;
      rests = record { are = λ i l. fill_at f r.n zeros i l short; long = omega (arith, length_fill f r.n zeros, short) };
      long_releases = long_r;
      long_entries = long_e;
      long = record {
        columns = refl;
        room = long;
        release = omega (arith, length_fill (λ j. at m.releases (at cell j)) ramps empty_column, long);
        waiting = long;
        demand = long;
        came = omega (arith, length_fill came r.n empty_column, long);
      };
    })

module _ {laws : List Law} {bytes : List ℕ} {a : Study} {m₀ : MeterState} {list : List ℕ} where
  pub filled_none : {l : Ledger} {state : Table} {ramps : ℕ} {cell : List ℕ} {work : Table} → state_in l state ≡ m₀.state
      → ArraysOk a.road.n a.road.share a.road.ramp m₀ ramps cell state work → FilledSteps laws bytes a m₀ list bytes list l state ramps cell work 0 0
  unfolding put_table metered_from
  filled_none starts kept = record {
    within = omega arith;
    releases = refl;
    state = starts;
    kept = kept;
    place = omega arith;
    written = sym (table_none (filled_from laws a m₀) list);
  }

  module _ {now out : List ℕ} {u : Ledger} {state : Table} {ramps : ℕ} {cell : List ℕ} {work : Table} {k to : ℕ} (ok : Fillable bytes a list)
      (starts : a.start ≡ m₀.state) (h : FilledSteps laws bytes a m₀ list now out u state ramps cell work k to) where
    -- what the wishes of step k are computed from, with the code's state
    pub goes_by : meter_in u state (metered_from laws a m₀ k).releases (metered_from laws a m₀ k).entries ≡ metered_from laws a m₀ k
    goes_by = ap (λ (s : State). meter_state s (metered_from laws a m₀ k).releases (metered_from laws a m₀ k).entries) h.state

    -- the rows of the filled steps are filled, and the others are unchanged
    put : PutTable bytes now a.road.n (granted_from laws a m₀) k
    put =
        rw h.releases
        (put_table_lem bytes a.road.n (granted_from laws a m₀) k (λ t l. ok.readable.row t (omega (arith, h.within))) (λ t i l j. releases_small laws a m₀ starts t i))

    pub same_bytes : length now ≡ length bytes
    same_bytes = put.size

    pub same_list : length out ≡ length list
    same_list = ap length h.written ∙ length_table (filled_from laws a m₀) (filled_ok laws a m₀ starts ok.readable.ok) list k h.within ok.long

    -- the next row of outflows is within every bound of the table
    pub row_ends_by : (most : ℕ) → table_size a ≤ most → k < a.steps → to + places a ≤ most
    row_ends_by most l e = omega (arith, row_ends k a.steps (places a) e, h.place)

    pub row_fits : k < a.steps → to + places a ≤ length out
    row_fits l = omega (arith, row_ends_by (length list) ok.long l, same_list)

    -- a turn: q is the road of step k, and its wishes are computed from the last releases and entries
    module _ {q : Road} {releases entries : List ℕ} (l : k < a.steps) (e : q ≡ road_at a k)
        (em : meter_state (state_in u state) releases entries ≡ metered_from laws a m₀ k) where
      abbrev m : MeterState
      m = meter_in u state releases entries

      roads : StepRoad a.road q
      roads = rw e (ok.readable.ok.roads k)

      -- the row of the step is still the record's
      row_now : record_row now q.n k ≡ a.rows k
      row_now = rw (roads.n, ok.rows k) (put.later k (omega arith))

      reached : ReachedState (filled_from laws a m₀) m.state k
      reached = subst (λ (s : State). ReachedState (filled_from laws a m₀) s k) (filled_run laws a m₀ starts k ∙ sym h.state)
          (filled_reached laws a m₀ starts ok.readable.ok k h.within)

      this_step : StepOf (filled_from laws a m₀) q m.state (rows_from laws a m₀ k) k
      this_step = record {
        ok = filled_ok laws a m₀ starts ok.readable.ok;
        left = l;
        road = e ∙ sym (filled_road laws a m₀ starts k);
        numbers = refl;
        reached = reached;
      }

      row_is : filled_row laws q m (record_row now q.n k) ≡ rows_from laws a m₀ k
      row_is = rw (row_now, em, e)

      pub fills : {kinds : List ℕ} {numbers : List Float} {y : List ℕ} → InColumns laws kinds numbers → length y ≡ places a
          → FillRequires laws now q u state releases entries k kinds numbers ramps cell work y
      fills columns p = record {
        held = record {
          cells = omega (arith, roads.n, (ok.readable.row k l).cells);
          row = rw (roads.n, put.version) (omega (arith, (ok.readable.row k l).row, same_bytes));
        };
        row = rw (row_now, e) (step_row (ok.readable.ok.roads k) (a.rows k) (ok.readable.ok.row k l));
        step = rw row_is (record {
          input = step_input this_step;
          sized = step_sized this_step;
          released = rw (e, h.state) (filled_released laws a m₀ starts ok.readable.ok k l);
          left = step_left this_step;
        });
        columns = columns;
        kept = kept_on roads.n roads.share roads.ramp em h.kept;
        places = omega (arith, roads.n);
      }

      -- one more step is filled
      after : metered_of laws q m (record_row now q.n k) ≡ metered_from laws a m₀ (k + 1)
      unfolding metered_from
      after = rw (add-one k, row_now, em, e)

      puts : put_releases now q.n k (granted_at laws q m (record_row now q.n k)) q.n
          ≡ put_releases (put_table bytes a.road.n (granted_from laws a m₀) k) a.road.n k (granted_from laws a m₀ k) a.road.n
      puts =
          ap (λ (row : List ℕ). put_releases now q.n k (granted_at laws q m row) q.n) row_now
          ∙ ap (λ (n : ℕ). put_releases now n k (granted_at laws q m (a.rows k)) n) roads.n
          ∙ rw (h.releases, em, e)

      outflows : {part : List ℕ} → part ≡ outflows_of q m.state (filled_row laws q m (record_row now q.n k)) → part ≡ outflows_at (filled_from laws a m₀) k
      outflows ey = ey ∙ rw (row_is, e, h.state, filled_run laws a m₀ starts k, filled_road laws a m₀ starts k)

      pub filled_more : {next : List ℕ} {t : Ledger} {state₁ work₁ : Table} {part : List ℕ}
          → FillGives laws now q u state releases entries k next t state₁ ramps cell work₁ part
          → FilledSteps laws bytes a m₀ list next (take to out ++ (part ++ drop (to + places a - to) (drop to out))) t state₁ ramps cell work₁ (k + 1) (to + places a)
      unfolding put_table
      filled_more {part = part} f = record {
        within = omega arith;
        releases = rw (add-one k) (f.releases ∙ puts);
        state = f.state ∙ ap (λ (x : MeterState). x.state) after;
        kept = kept_on (sym roads.n) (sym roads.share) (sym roads.ramp) (sym after) f.kept;
        place = omega (arith, h.place, mul_more k (places a));
        written = table_more (filled_from laws a m₀) (filled_ok laws a m₀ starts ok.readable.ok) list k out part to h.written (outflows f.row) h.place;
      }

    -- all steps are filled
    module _ (end : a.steps ≤ k) where
      pub all_filled : k ≡ a.steps
      all_filled = omega (arith, h.within)

      pub filled_bytes_lem : now ≡ put_table bytes a.road.n (granted_from laws a m₀) a.steps
      filled_bytes_lem = h.releases ∙ ap (put_table bytes a.road.n (granted_from laws a m₀)) all_filled

      pub filled_list_lem : out ≡ table_of (filled_from laws a m₀) list a.steps
      filled_list_lem = h.written ∙ ap (table_of (filled_from laws a m₀) list) all_filled

      pub filled_state : {t : State} → t ≡ state_in u state → t ≡ (metered_from laws a m₀ a.steps).state
      filled_state e = e ∙ h.state ∙ ap (λ (j : ℕ). (metered_from laws a m₀ j).state) all_filled
