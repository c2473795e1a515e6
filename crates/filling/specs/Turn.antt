-- One step of filling: what it requires, what it gives, and what is kept from step to step. Assumes nothing.
use Rattle.std.specs.Prelude.{◌≡◌, List, ℕ, suc, ◌+◌, ◌*◌, ◌≤◌, ◌<◌, Float, set}
use Rattle.std.proofs.Math.Path.{sym, ap}
use Rattle.std.proofs.Common.{◌∙◌, le_refl, add-one}
use native.Mathlib.Omega.{arith}
use Rattle.std.proofs.Math.ListN.{length}
use Rattle.model.specs.Numbers.{at, fill_of}
use Rattle.numbers.specs.RowsLaws.{fill_at, length_fill}
use Rattle.model.specs.declared.Road.{Road}
use Rattle.limits.specs.LimitsLaws.{RowOk}
use Rattle.model.specs.Record.{number_size, number_of, version_of, row_start, record_row}
use Rattle.fields.specs.FieldsLaws.{HoldsRow, row_at_lem}
use Rattle.model.specs.declared.Law.{Law}
use Rattle.meter.specs.LawColumns.{InColumns}
use Rattle.model.specs.Flow.{gate_arrivals, entering_at}
use Rattle.model.specs.Move.{held_of, cumulative_of, moved_to, counted_of}
use Rattle.model.specs.Schedules.{outflows_of}
use Rattle.theory.specs.RulesLaws.{outflows_obey, demand_at_cell}
use Rattle.outflows.specs.declared.Ledger.{Ledger}
use Rattle.stepping.specs.StepNeeds.{Steppable}
use Rattle.passes.specs.declared.columns.Size.{Size}
use Rattle.passes.specs.Tables.{Table, road_in, state_in, cell_col, held_col, room_col, demand_col, came_col, LongColumns}
use Rattle.passes.specs.Tables.{StoredRooms, store_rooms, StoredDemands, store_demands}
use Rattle.passes.specs.Rest.{Remainders}
use Rattle.passes.specs.Supplies.{NoRamp, SuppliesRequire, supply_in, supply_model, demand_in}
use Rattle.passes.specs.RampList.{Listed, AtRamps}
use Rattle.passes.specs.Next.{NextRequires, demands_are, NextGives}
use Rattle.model.specs.Filling.{MeterState, granted_at, filled_row, metered_of}
use Rattle.model.specs.Put.{put_releases}
use Rattle.put.specs.ReleasesLaws.{PutRow, put_releases_lem}
use Rattle.ramps.specs.RampsLaws.{granted_small, filled_release, last_release_lem, last_entry_lem}
use Rattle.ramps.specs.Grants.{meter_in, Lasts, GrantRequires, GrantGives}

-- what is kept from step to step: the cells with a ramp are listed, with what the last step left there; the remainders are those of b × F; each
-- column has an entry per cell
pub record ArraysOk (n : ℕ) (share ramp : List ℕ) (m : MeterState) (ramps : ℕ) (cell : List ℕ) (state work : Table) : Type 0 where
  pub listed : Listed (NoRamp ramp) n ramps cell
  pub ramped : AtRamps ramp ramps cell
  pub lasts : Lasts m ramps cell work
  pub columns : length state ≡ 4
  pub rests : Remainders n share state
  pub long_releases : n ≤ length m.releases
  pub long_entries : n ≤ length m.entries
  pub long : LongColumns n work

pub kept_on : {n n' : ℕ} {share share' ramp ramp' : List ℕ} {m m' : MeterState} {ramps : ℕ} {cell : List ℕ} {state work : Table}
    → n' ≡ n → share' ≡ share → ramp' ≡ ramp → m' ≡ m → ArraysOk n share ramp m ramps cell state work
    → ArraysOk n' share' ramp' m' ramps cell state work
kept_on en es er em h = rw (en, es, er, em) h

-- what filling a step requires: the bytes hold its row, which is within its limits; a step with the filled row may be made; the laws are in
-- columns; y has room for its outflows
pub record FillRequires (laws : List Law) (bytes : List ℕ) (q : Road) (l : Ledger) (state : Table) (releases entries : List ℕ) (k : ℕ) (kinds : List ℕ)
    (numbers : List Float) (ramps : ℕ) (cell : List ℕ) (work : Table) (y : List ℕ) : Type 0 where
  pub held : HoldsRow bytes q.n k
  pub row : RowOk q (record_row bytes q.n k)
  pub step : Steppable q (state_in l state) (filled_row laws q (meter_in l state releases entries) (record_row bytes q.n k))
  pub columns : InColumns laws kinds numbers
  pub kept : ArraysOk q.n q.share q.ramp (meter_in l state releases entries) ramps cell state work
  pub places : length y ≡ q.n + 1

-- the same for some laws and some road with these columns
pub record FillLent (bytes : List ℕ) (k : ℕ) (z : Size) (rates sizes : Table) (kinds : List ℕ) (numbers : List Float) (l : Ledger) (state work : Table)
    (y : List ℕ) : Type 0 where
  pub laws : List Law
  pub road : Road
  pub releases : List ℕ
  pub entries : List ℕ
  pub ready : FillRequires laws bytes (road_in road z rates sizes) l state releases entries k kinds numbers z.ramps (cell_col sizes) work y

-- what filling a step gives: the bytes with its releases, the state after it, its outflows, and what is kept
pub record FillGives (laws : List Law) (bytes : List ℕ) (q : Road) (l₀ : Ledger) (state₀ : Table) (releases₀ entries₀ : List ℕ) (k : ℕ) (put : List ℕ)
    (l : Ledger) (table : Table) (ramps : ℕ) (cell : List ℕ) (work : Table) (y : List ℕ) : Type 0 where
  pub releases : put ≡ put_releases bytes q.n k (granted_at laws q (meter_in l₀ state₀ releases₀ entries₀) (record_row bytes q.n k)) q.n
  pub state : state_in l table ≡ (metered_of laws q (meter_in l₀ state₀ releases₀ entries₀) (record_row bytes q.n k)).state
  pub row : y ≡ outflows_of q (state_in l₀ state₀) (filled_row laws q (meter_in l₀ state₀ releases₀ entries₀) (record_row bytes q.n k))
  pub kept : ArraysOk q.n q.share q.ramp (metered_of laws q (meter_in l₀ state₀ releases₀ entries₀) (record_row bytes q.n k)) ramps cell table work

module _ {laws : List Law} {bytes : List ℕ} {q : Road} {l₀ : Ledger} {state₀ : Table} {releases₀ entries₀ : List ℕ} {k : ℕ} {kinds : List ℕ}
    {numbers : List Float} {ramps : ℕ} {cell : List ℕ} {work₀ : Table} {y₀ : List ℕ}
    (f : FillRequires laws bytes q l₀ state₀ releases₀ entries₀ k kinds numbers ramps cell work₀ y₀) where
  abbrev m : MeterState
  m = meter_in l₀ state₀ releases₀ entries₀

  abbrev row : List ℕ
  row = record_row bytes q.n k

  abbrev filled : List ℕ
  filled = filled_row laws q m row

  abbrev y : List ℕ
  y = outflows_of q m.state filled

  -- the supplies, and then granting, have no further precondition
  pub supplies_ready : SuppliesRequire q.n q.wave q.jam m.state.held
  supplies_ready = record {
    cells = f.step.input.road.cells;
    waves = f.step.input.road.wave;
    jams = f.step.input.road.jam;
    helds = f.step.input.state.held;
  }

  module _ {room₁ : List ℕ} {start : ℕ} (er : room₁ ≡ fill_of (supply_in q.wave q.jam q.capacity (held_col state₀)) q.n (room_col work₀))
      (es : start ≡ row_start (version_of bytes) q.n k) where
    abbrev supply : ℕ → ℕ
    supply = supply_in q.wave q.jam q.capacity (held_col state₀)

    supplied : StoredRooms work₀ (set work₀ 0 room₁) room₁
    supplied = store_rooms work₀ f.kept.long.columns room₁

    pub grant_ready : GrantRequires laws q (meter_in l₀ state₀ releases₀ entries₀) bytes k start ramps cell kinds numbers (set work₀ 0 room₁)
    grant_ready =
        let w = f.kept.long in
        record {
          step = f.step;
          row = f.row;
          held = f.held;
          starts = es;
          listed = f.kept.listed;
          ramped = f.kept.ramped;
          columns = f.columns;
          lasts = record { releases = rw supplied.releases f.kept.lasts.releases; entries = rw supplied.came f.kept.lasts.entries };
          supplies = λ i l.
              ap (λ (x : List ℕ). at x i) (supplied.rooms ∙ er) ∙ fill_at supply q.n (room_col work₀) i l w.room ∙ supply_model q m.state i;
          long = record {
            columns = supplied.columns;
            room = omega (arith, ap length (supplied.rooms ∙ er), length_fill supply q.n (room_col work₀), w.room);
            release = omega (arith, ap length supplied.releases, w.release);
            waiting = omega (arith, ap length supplied.waits, w.waiting);
            demand = omega (arith, ap length supplied.demands, w.demand);
            came = omega (arith, ap length supplied.came, w.came);
          };
        }

    -- the releases are granted
    module _ {put : List ℕ} {work₁ : Table} (g : GrantGives laws q (meter_in l₀ state₀ releases₀ entries₀) bytes k ramps cell put work₁) where
      changed : PutRow bytes put q.n k (granted_at laws q m row) q.n
      changed =
          rw g.puts (put_releases_lem bytes q.n k (granted_at laws q m row) q.n (le_refl q.n) f.held (λ i _. granted_small laws q m row i))

      -- the bytes hold the filled row, and its gate arrivals
      pub gate_there : start + number_size ≤ length put
      gate_there = omega (arith, es, f.held.row, changed.size)

      gate_is : number_of put start number_size ≡ gate_arrivals filled
      unfolding filled_row
      gate_is =
          let e : start ≡ row_start (version_of put) q.n k + number_size * 0 = omega (arith, es, ap (λ (v : ℕ). row_start v q.n k) changed.version) in
          ap (λ (p : ℕ). number_of put p number_size) e ∙ sym (row_at_lem put q.n k 0 (omega arith)) ∙ ap gate_arrivals changed.row

      -- all that has come into a cell, with its release and with what enters, is the cell's held count plus F afterwards
      entered : (j : ℕ) → j < ramps →
          at (came_col work₁) (at cell j) + at (metered_of laws q m row).entries (at cell j)
          ≡ at (metered_of laws q m row).state.held (at cell j) + at (metered_of laws q m row).state.cumulative (at cell j)
      unfolding metered_of counted_of moved_to
      entered j l =
          let i = at cell j in
          let inside = f.kept.listed.within j l in
          let s = f.step.sized in
          let hold = fill_at (held_of q m.state filled y) q.n m.state.held i inside s.held in
          let sent = fill_at (cumulative_of m.state y) q.n m.state.cumulative i inside s.cumulative in
          let one : at y (i + 1) ≡ at y (suc i) = ap (at y) (add-one i) in
          omega (
            arith,
            g.reached j l,
            last_entry_lem laws q m row f.kept.long_entries i inside,
            hold,
            sent,
            one,
            filled_release laws q m row f.row.numbers i inside,
            (outflows_obey q m.state filled f.step.released).demand (suc i) inside,
            demand_at_cell q f.step.input.road m.state i inside,
          )

      -- so with the demands the step is ready
      module _ {demand : List ℕ} (ed : demand ≡ fill_of (demand_in q.speed q.capacity (held_col state₀)) q.n (demand_col work₁)) where
        abbrev work : Table
        work = set work₁ 3 demand

        demanded : StoredDemands work₁ work demand
        demanded = store_demands work₁ g.long.columns demand

        pub step_ready : {arrivals : ℕ} → arrivals ≡ number_of put start number_size
            → NextRequires q l₀ state₀ (filled_row laws q (meter_in l₀ state₀ releases₀ entries₀) (record_row bytes q.n k)) ramps arrivals cell (set work₁ 3 demand)
        step_ready e = record {
          columns = f.kept.columns;
          steppable = f.step;
          listed = f.kept.listed;
          releases = rw demanded.releases
              (λ j l. g.releases j l ∙ sym (filled_release laws q m row f.row.numbers (at cell j) (f.kept.listed.within j l)));
          waits = rw demanded.waits g.waiting;
          rooms = rw demanded.rooms g.rooms;
          rests = f.kept.rests;
          demands = demands_are q m.state (demand_col work₁) g.long.demand (demanded.demands ∙ ed);
          gate = e ∙ gate_is;
        }

        -- after it the step is filled
        pub row_filled : {t : Ledger} {state : Table} {y : List ℕ}
            → NextGives q (state_in l₀ state₀) (filled_row laws q (meter_in l₀ state₀ releases₀ entries₀) (record_row bytes q.n k)) t state y
            → FillGives laws bytes q l₀ state₀ releases₀ entries₀ k put t state ramps cell (set work₁ 3 demand) y
        unfolding metered_of
        row_filled st = record {
          releases = g.puts;
          state = st.next;
          row = st.outflows;
          kept = record {
            listed = f.kept.listed;
            ramped = f.kept.ramped;
            lasts = record {
              releases = rw demanded.releases
                  (λ j l. g.releases j l ∙ sym (last_release_lem laws q m row f.kept.long_releases (at cell j) (f.kept.listed.within j l)));
              entries = rw demanded.came entered;
            };
            columns = st.columns;
            rests = st.rests;
            long_releases = omega (arith, length_fill (granted_at laws q m row) q.n releases₀, f.kept.long_releases);
            long_entries = omega (arith, length_fill (entering_at q m.state y) q.n entries₀, f.kept.long_entries);
            long = record {
              columns = demanded.columns;
              room = omega (arith, ap length demanded.rooms, g.long.room);
              release = omega (arith, ap length demanded.releases, g.long.release);
              waiting = omega (arith, ap length demanded.waits, g.long.waiting);
              demand = omega (
                arith,
                ap length (demanded.demands ∙ ed),
                length_fill (demand_in q.speed q.capacity (held_col state₀)) q.n (demand_col work₁),
                g.long.demand,
              );
              came = omega (arith, ap length demanded.came, g.long.came);
            };
          };
        }
