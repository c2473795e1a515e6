-- Granting the releases of the listed cells: what it requires, the invariant of its loop, and what it gives. Assumes nothing.
use Rattle.std.specs.Prelude.{◌≡◌, refl, Float, set}
use Rattle.std.proofs.Math.Path.{sym, ap}
use Rattle.std.proofs.Common.{◌∙◌, eq-or-lt_of_le, le_of_suc-le-suc, le_refl, length-set, get_or-set_same, get_or-set_other}
use Rattle.std.proofs.Math.Logic.{⊎_elim}
use mathlib.Core.List.{List}
use Prim.Native.Nat.{ℕ, zero, suc, ◌+◌, ◌-◌, ◌*◌, min, ◌≤◌, ◌<◌}
use Rattle.std.proofs.Math.Numerals.{add-one}
use native.Mathlib.Omega.{arith}
use Rattle.std.proofs.Math.ListN.{length}
use Rattle.model.specs.Numbers.{at, fill_of, placed}
use Rattle.model.specs.Flow.{room_of}
use Rattle.numbers.specs.RowsLaws.{fill_at, fill_past, length_fill}
use Rattle.model.specs.declared.Road.{Road}
use Rattle.model.specs.Road.{most_cells, most_rate, most_steps}
use Rattle.model.specs.Limits.{most_queue, most_cumulative}
use Rattle.limits.specs.LimitsLaws.{RowOk}
use Rattle.model.specs.Record.{number_size, bytes_of, number_of, version_of, row_size, row_start, record_row}
use Rattle.fields.specs.FieldsLaws.{HoldsRow, row_at_lem}
use Rattle.fields.specs.BytesStored.{StoredBytes}
use Rattle.model.specs.declared.Law.{Law}
use Rattle.model.specs.Meter.{wish_of, whole_below, law_at}
use Rattle.meter.specs.LawColumns.{law_in, InColumns}
use Rattle.model.specs.Flow.{arrivals_at, release_at, most_release_at, supply_at}
use Rattle.model.specs.Move.{queue_of}
use Rattle.outflows.specs.declared.Ledger.{Ledger}
use Rattle.stepping.specs.StepNeeds.{Steppable}
use Rattle.outflows.specs.Rooms.{Rooms}
use Rattle.model.specs.Filling.{MeterState, meter_state, wish_at, cap_at, granted_at, filled_row}
use Rattle.model.specs.Put.{release_number, put_entry, put_releases}
use Rattle.put.specs.ReleasesLaws.{PutRow, put_releases_lem, put_to, released_arrivals}
use Rattle.passes.specs.Tables.{Table, state_in, room_col, release_col, waiting_col, demand_col, came_col, LongColumns, five_columns}
use Rattle.passes.specs.Supplies.{NoRamp, FilledTo, filled_none, filled_more, filled_end}
use Rattle.passes.specs.RampList.{start_of, start_more, AtRamps, Listed, listed_here, listed_more, listed_end}
use Rattle.ramps.specs.RampsLaws.{granted_release, granted_bounds, granted_small, filled_release, filled_arrivals}

-- what the wishes of a step are computed from, with the state in a table
abbrev pub meter_in : Ledger → Table → List ℕ → List ℕ → MeterState
meter_in l state releases entries = meter_state (state_in l state) releases entries

-- for the listed cells: the last release, and all that has come into the cell except what entered in the last step; together these two are held + F
pub record Lasts (m : MeterState) (ramps : ℕ) (cell : List ℕ) (work : Table) : Type 0 where
  pub releases : (j : ℕ) → j < ramps → at (release_col work) j ≡ at m.releases (at cell j)
  pub entries : (j : ℕ) → j < ramps
      → at (came_col work) (at cell j) + at m.entries (at cell j) ≡ at m.state.held (at cell j) + at m.state.cumulative (at cell j)

-- what granting requires: a step with the filled row may be made; the bytes hold the row, which is within its limits; the laws are in columns;
-- the rooms are the supplies
pub record GrantRequires (laws : List Law) (q : Road) (m : MeterState) (bytes : List ℕ) (k start ramps : ℕ) (cell kinds : List ℕ) (numbers : List Float)
    (work : Table) : Type 0 where
  pub step : Steppable q m.state (filled_row laws q m (record_row bytes q.n k))
  pub row : RowOk q (record_row bytes q.n k)
  pub held : HoldsRow bytes q.n k
  pub starts : start ≡ row_start (version_of bytes) q.n k
  pub listed : Listed (NoRamp q.ramp) q.n ramps cell
  pub ramped : AtRamps q.ramp ramps cell
  pub columns : InColumns laws kinds numbers
  pub lasts : Lasts m ramps cell work
  pub supplies : (i : ℕ) → i < q.n → at (room_col work) i ≡ supply_at q m.state i
  pub long : LongColumns q.n work

-- the same for some road, laws and last step with these columns
pub record GrantLent (bytes : List ℕ) (start ramps : ℕ) (cell kinds : List ℕ) (numbers : List Float) (state work : Table) : Type 0 where
  pub laws : List Law
  pub road : Road
  pub ledger : Ledger
  pub releases : List ℕ
  pub entries : List ℕ
  pub step : ℕ
  pub ready : GrantRequires laws road (meter_in ledger state releases entries) bytes step start ramps cell kinds numbers work

-- all that has come into the cell at i, with a release; and the queue at its ramp afterwards
abbrev pub came_at : MeterState → (ℕ → ℕ) → ℕ → ℕ
came_at m give i = at m.state.held i + at m.state.cumulative i + give i

abbrev wait_at : MeterState → List ℕ → (ℕ → ℕ) → ℕ → ℕ
wait_at m row give i = at m.state.queue i + arrivals_at row i - give i

-- what granting gives: the releases are in the bytes and subtracted from the supplies; for each listed cell its release, its queue after it and what has come in
pub record GrantGives (laws : List Law) (q : Road) (m : MeterState) (bytes : List ℕ) (k ramps : ℕ) (cell put : List ℕ) (work : Table) : Type 0 where
  pub puts : put ≡ put_releases bytes q.n k (granted_at laws q m (record_row bytes q.n k)) q.n
  pub rooms : Rooms q m.state (filled_row laws q m (record_row bytes q.n k)) (room_col work)
  pub releases : (j : ℕ) → j < ramps → at (release_col work) j ≡ granted_at laws q m (record_row bytes q.n k) (at cell j)
  pub waiting : (j : ℕ) → j < ramps → at (waiting_col work) j ≡ queue_of m.state (filled_row laws q m (record_row bytes q.n k)) (at cell j)
  pub reached : (j : ℕ) → j < ramps → at (came_col work) (at cell j) ≡ came_at m (granted_at laws q m (record_row bytes q.n k)) (at cell j)
  pub long : LongColumns q.n work

-- the releases of the first j listed cells are granted
pub record GrantSoFar (give : ℕ → ℕ) (q : Road) (m : MeterState) (bytes : List ℕ) (k ramps : ℕ) (cell : List ℕ) (work₀ : Table) (put : List ℕ) (work : Table)
    (j : ℕ) : Type 0 where
  pub puts : put ≡ put_releases bytes q.n k give (start_of cell j)
  pub rooms : room_col work ≡ fill_of (λ i. at (room_col work₀) i - give i) (start_of cell j) (room_col work₀)
  pub releases : FilledTo (λ i. give (at cell i)) ramps (release_col work₀) (release_col work) j
  pub waiting : FilledTo (λ i. wait_at m (record_row bytes q.n k) give (at cell i)) ramps (waiting_col work₀) (waiting_col work) j
  pub reached : (i : ℕ) → i < j → at (came_col work) (at cell i) ≡ came_at m give (at cell i)
  pub later : (i : ℕ) → start_of cell j ≤ i → at (came_col work) i ≡ at (came_col work₀) i
  pub same_came : length (came_col work) ≡ length (came_col work₀)
  pub columns : length work ≡ 5
  pub demands : demand_col work ≡ demand_col work₀

-- a turn's stores: the room of cell i, the release and the queue of entry k of the list, and what has come into cell i
abbrev store_granted : Table → ℕ → ℕ → ℕ → ℕ → ℕ → ℕ → Table
store_granted work i room k release waiting came =
    let a = set work 0 (set (room_col work) i room) in
    let b = set a 1 (set (release_col a) k release) in
    let c = set b 2 (set (waiting_col b) k waiting) in
    set c 4 (set (came_col c) i came)

record Stored (work work₁ : Table) (i room k release waiting into : ℕ) : Type 0 where
  columns : length work₁ ≡ 5
  rooms : room_col work₁ ≡ set (room_col work) i room
  releases : release_col work₁ ≡ set (release_col work) k release
  waits : waiting_col work₁ ≡ set (waiting_col work) k waiting
  demands : demand_col work₁ ≡ demand_col work
  came : came_col work₁ ≡ set (came_col work) i into

store_granted_lem : (work : Table) → length work ≡ 5 → (i room k release waiting came : ℕ)
    → Stored work (store_granted work i room k release waiting came) i room k release waiting came
store_granted_lem work e i room k release waiting came = five_columns
    (λ w. Stored w (store_granted w i room k release waiting came) i room k release waiting came)
    (λ a b c d e. record { columns = refl; rooms = refl; releases = refl; waits = refl; demands = refl; came = refl })
    work e

-- the facts about a turn's numbers and about the release that it grants
pub record GrantTurn (start i size queue arrivals held cumulative came n : ℕ) : Type 0 where
  pub within : i < n
  pub cells : n ≤ most_cells
  pub row : start + row_size n ≤ size
  pub queues : queue ≤ most_queue most_steps
  pub arrive : arrivals ≤ most_rate
  pub helds : held ≤ most_rate
  pub cumulatives : cumulative ≤ most_cumulative most_steps
  pub comes : came ≤ held + cumulative

pub record TurnRelease (x coming room : ℕ) : Type 0 where
  pub there : x ≤ coming
  pub taken : x ≤ room
  pub rate : x ≤ most_rate

module _ {laws : List Law} {q : Road} {m : MeterState} {bytes : List ℕ} {k start ramps : ℕ} {cell kinds : List ℕ} {numbers : List Float}
    {work₀ : Table} (g : GrantRequires laws q m bytes k start ramps cell kinds numbers work₀) where
  abbrev room₀ : List ℕ
  room₀ = room_col work₀

  abbrev row : List ℕ
  row = record_row bytes q.n k

  abbrev give : ℕ → ℕ
  give = granted_at laws q m row

  -- a cell without a ramp releases nothing, as in the row
  idle : (i : ℕ) → i < q.n → NoRamp q.ramp i → (give i ≡ 0) × (release_at row i ≡ 0)
  idle i l p =
      let z : at q.ramp i ≡ 0 = omega (arith, g.step.input.road.ramp i l, p) in
      ((granted_release laws q m row i).no_ramp z, g.row.no_release i l z)

  less : (i : ℕ) → i < q.n → NoRamp q.ramp i → at room₀ i - give i ≡ at room₀ i
  less i l p = omega (arith, (idle i l p).0)

  starts_most : (j : ℕ) → j ≤ ramps → start_of cell j ≤ q.n
  unfolding start_of
  starts_most zero l = omega arith
  starts_most (suc j) l = omega (arith, g.listed.within j l)

  -- the cells listed before it are lower
  lower : (j : ℕ) → j ≤ ramps → (i : ℕ) → i < j → at cell i < start_of cell j
  unfolding start_of
  lower zero l i p = absurd (omega arith)
  lower (suc j) l i p = ⊎_elim
      (λ (e : i ≡ j). rw e (omega arith))
      (λ (h : i < j). omega (arith, lower j (omega arith) i h, g.listed.rises j l))
      (eq-or-lt_of_le (le_of_suc-le-suc p))

  put_up : (a b : ℕ) → a ≤ b → b ≤ q.n → ((i : ℕ) → a ≤ i → i < b → NoRamp q.ramp i)
      → put_releases bytes q.n k give b ≡ put_releases bytes q.n k give a
  put_up a b h l z =
      put_to bytes q.n k give g.held (granted_small laws q m row) a b h l (λ i x y. idle i (omega arith) (z i x y))

  pub grant_none : GrantSoFar (granted_at laws q m (record_row bytes q.n k)) q m bytes k ramps cell work₀ bytes work₀ 0
  unfolding put_releases fill_of start_of
  grant_none = record {
    puts = refl;
    rooms = refl;
    releases = filled_none;
    waiting = filled_none;
    reached = λ i l. absurd (omega arith);
    later = λ i l. refl;
    same_came = refl;
    columns = g.long.columns;
    demands = refl;
  }

  module _ {put : List ℕ} {work : Table} {j : ℕ}
      (h : GrantSoFar (granted_at laws q m (record_row bytes q.n k)) q m bytes k ramps cell work₀ put work j) where
    abbrev room : List ℕ
    room = room_col work

    abbrev came : List ℕ
    came = came_col work

    changed : PutRow bytes put q.n k give (start_of cell j)
    changed =
        rw h.puts (put_releases_lem bytes q.n k give (start_of cell j) (starts_most j h.releases.within) g.held (λ i _. granted_small laws q m row i))

    pub same_size : length put ≡ length bytes
    same_size = changed.size

    same_start : row_start (version_of put) q.n k ≡ row_start (version_of bytes) q.n k
    same_start = ap (λ (v : ℕ). row_start v q.n k) changed.version

    module _ (l : j < ramps) where
      abbrev i : ℕ
      i = at cell j

      inside : i < q.n
      inside = g.listed.within j l

      -- what the arrays hold for the cell
      pub arrives_here : number_of put (start + 4 + 8 * at cell j) number_size ≡ arrivals_at (record_row bytes q.n k) (at cell j)
      arrives_here =
          let e : start + 4 + 8 * i ≡ row_start (version_of put) q.n k + number_size * (2 * i + 1) = omega (arith, g.starts, same_start) in
          ap (λ (p : ℕ). number_of put p number_size) e
          ∙ sym (row_at_lem put q.n k (2 * i + 1) (omega (arith, inside)))
          ∙ ap (λ (x : List ℕ). at x (2 * i + 1)) changed.row
          ∙ released_arrivals give (start_of cell j) row i

      room_here : at room (at cell j) ≡ at room₀ (at cell j)
      room_here = listed_here (λ i. at room₀ i - give i) room₀ g.listed less l h.rooms

      came_here : at came (at cell j) ≡ at (came_col work₀) (at cell j)
      came_here = h.later i (g.listed.rises j l)

      last_here : at (release_col work) j ≡ at m.releases (at cell j)
      last_here =
          ap (λ (x : List ℕ). at x j) h.releases.filled ∙ fill_past (λ i. give (at cell i)) j (release_col work₀) j (le_refl j) ∙ g.lasts.releases j l

      -- the facts about a turn
      pub grant_turn : GrantTurn start (at cell j) (length put) (at m.state.queue (at cell j)) (arrivals_at (record_row bytes q.n k) (at cell j))
          (at m.state.held (at cell j)) (at m.state.cumulative (at cell j)) (at (came_col work) (at cell j)) q.n
      grant_turn =
          let s = g.step.input.state in
          record {
            within = inside;
            cells = g.step.input.road.cells;
            row = omega (arith, g.starts, g.held.row, same_size);
            queues = omega (arith, s.queue i inside, s.done);
            arrive = g.row.arrivals i inside;
            helds = omega (arith, s.held i inside, g.step.input.road.jam i inside);
            cumulatives = omega (arith, s.cumulative i inside, s.done);
            comes = omega (arith, came_here, g.lasts.entries j l);
          }

      -- where its release is put, and what the bytes hold before it
      place : start + 4 + 8 * i + 4 ≡ row_start (version_of put) q.n k + number_size * release_number i
      place = omega (arith, g.starts, same_start)

      before : put ≡ put_releases bytes q.n k give i
      before = h.puts ∙ sym (put_up (start_of cell j) i (g.listed.rises j l) (omega (arith, inside)) (g.listed.gap j l))

      -- the code's release is the one granted
      module _ {law : Law} {arrivals entered cap x : ℕ} (el : law ≡ law_in kinds numbers (at cell j))
          (ea : arrivals ≡ number_of put (start + 4 + 8 * at cell j) number_size)
          (ee : entered ≡ at m.state.held (at cell j) + at m.state.cumulative (at cell j) - at (came_col work) (at cell j))
          (ec : cap ≡ min (at m.state.queue (at cell j) + arrivals) (min (at (room_col work) (at cell j)) most_rate))
          (ex : x ≡ whole_below (wish_of law (at (release_col work) j) entered (at m.state.held (at cell j))) cap) where
        found : x ≡ granted_at laws q m (record_row bytes q.n k) (at cell j)
        unfolding most_release_at
        found =
            let lawful : law ≡ law_at laws i = el ∙ g.columns i (omega (arith, inside, g.step.input.road.cells)) in
            let entry : entered ≡ at m.entries i = omega (arith, came_here, g.lasts.entries j l) in
            let come : arrivals ≡ arrivals_at row i = ea ∙ arrives_here in
            let supply : at room i ≡ supply_at q m.state i = room_here ∙ g.supplies i inside in
            let wished : x ≡ whole_below (wish_at laws m i) (cap_at q m.state row i) = ex ∙ rw (lawful, last_here, entry, ec, come, supply) in
            wished ∙ sym ((granted_release laws q m row i).ramped (λ z. omega (arith, g.ramped j l)))

        pub turn_release : TurnRelease x (at m.state.queue (at cell j) + arrivals) (at (room_col work) (at cell j))
        unfolding most_release_at
        turn_release =
            let c = granted_bounds laws q m row i in
            record {
              there = omega (arith, found, c.there, ea, arrives_here);
              taken = omega (arith, found, c.taken, room_here, g.supplies i inside);
              rate = omega (arith, found, c.rate);
            }

        puts_more : {next : List ℕ} {end : ℕ} → StoredBytes put (start + 4 + 8 * at cell j + 4) number_size x next end
            → next ≡ put_releases bytes q.n k give (start_of cell (j + 1))
        unfolding put_releases
        puts_more p =
            p.bytes
            ∙ ap (λ (a : ℕ). placed put a (bytes_of number_size x)) place
            ∙ ap (put_entry put q.n k (release_number i)) found
            ∙ ap (λ (u : List ℕ). put_entry u q.n k (release_number i) (give i)) before
            ∙ sym (ap (put_releases bytes q.n k give) (start_more cell j ∙ add-one i))

        -- one more release is granted
        pub grant_more : {next : List ℕ} {end : ℕ} → StoredBytes put (start + 4 + 8 * at cell j + 4) number_size x next end
            → GrantSoFar (granted_at laws q m (record_row bytes q.n k)) q m bytes k ramps cell work₀ next
            (store_granted work (at cell j) (at (room_col work) (at cell j) - x) j x (at m.state.queue (at cell j) + arrivals - x)
            (at m.state.held (at cell j) + at m.state.cumulative (at cell j) + x)) (j + 1)
        grant_more {next} p =
            let st = store_granted_lem work h.columns i (at room i - x) j x (at m.state.queue i + arrivals - x)
            (at m.state.held i + at m.state.cumulative i + x) in
            record {
              puts = puts_more p;
              rooms = st.rooms ∙ listed_more (λ i. at room₀ i - give i) room₀ g.listed less l h.rooms (omega (arith, room_here, found));
              releases = rw st.releases (filled_more h.releases l found);
              waiting = rw st.waits (filled_more h.waiting l (omega (arith, found, ea, arrives_here)));
              reached = λ y less. ap (λ (x : List ℕ). at x (at cell y)) st.came ∙ ⊎_elim
                  (λ (e : y ≡ j).
                  rw e (get_or-set_same came i _ 0 (omega (arith, h.same_came, g.long.came, inside)) ∙ ap (λ (x : ℕ). came_at m (λ _. x) i) found))
                  (λ (d : y < j).
                  get_or-set_other came i (at cell y) _ 0 (λ e. omega (arith, lower j (omega arith) y d, g.listed.rises j l)) ∙ h.reached y d)
                  (eq-or-lt_of_le (let z : y ≤ j = omega arith in z));
              later = λ y past.
                  let above : i + 1 ≤ y = omega (arith, start_more cell j) in
                  ap (λ (x : List ℕ). at x y) st.came ∙ get_or-set_other came i y _ 0 (λ e. omega arith) ∙ h.later y (omega (arith, g.listed.rises j l));
              same_came = ap length st.came ∙ simp length-set h.same_came;
              columns = st.columns;
              demands = st.demands ∙ h.demands;
            }

    -- all releases are granted
    pub grant_end : ramps ≤ j → GrantGives laws q m bytes k ramps cell put work
    unfolding room_of
    grant_end l =
        let e : j ≡ ramps = omega (arith, h.releases.within) in
        record {
          puts =
              h.puts
              ∙ ap (λ (c : ℕ). put_releases bytes q.n k give (start_of cell c)) e
              ∙ sym (put_up (start_of cell ramps) q.n g.listed.last (le_refl q.n) g.listed.past);
          rooms = λ i less_n.
              let there =
              ap (λ (x : List ℕ). at x i) (listed_end (λ i. at room₀ i - give i) room₀ g.listed less e h.rooms)
              ∙ fill_at (λ i. at room₀ i - give i) q.n room₀ i less_n g.long.room in
              omega (arith, there, g.supplies i less_n, filled_release laws q m row g.row.numbers i less_n);
          releases = λ y d. ap (λ (x : List ℕ). at x y) (filled_end h.releases l)
              ∙ fill_at (λ i. give (at cell i)) ramps (release_col work₀) y d (omega (arith, g.long.release, g.listed.most));
          waiting = λ y d.
              let there =
              ap (λ (x : List ℕ). at x y) (filled_end h.waiting l)
              ∙ fill_at (λ i. wait_at m row give (at cell i)) ramps (waiting_col work₀) y d (omega (arith, g.long.waiting, g.listed.most)) in
              omega (arith, there, filled_arrivals laws q m row (at cell y), filled_release laws q m row g.row.numbers (at cell y) (g.listed.within y d));
          reached = λ y d. h.reached y (omega arith);
          long = record {
            columns = h.columns;
            room = omega (arith, ap length h.rooms, length_fill (λ i. at room₀ i - give i) (start_of cell j) room₀, g.long.room);
            release = omega (arith, h.releases.same, g.long.release);
            waiting = omega (arith, h.waiting.same, g.long.waiting);
            demand = omega (arith, ap length h.demands, g.long.demand);
            came = omega (arith, h.same_came, g.long.came);
          };
        }
