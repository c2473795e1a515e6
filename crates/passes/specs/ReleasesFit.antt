-- The test of a row's releases is the model's: its answer is true exactly if they fit, and then the rooms are the model's. Assumes nothing.
use Rattle.std.specs.Prelude.{◌≡◌, Bool, true, false, ℕ, ◌+◌, ◌≤◌, ◌<◌, set}
use Rattle.std.proofs.Math.Path.{ap}
use Rattle.std.proofs.Common.{◌∙◌, arith}
use mathlib.Core.List.{List}
use Rattle.std.proofs.Math.ListN.{length}
use Rattle.model.specs.Flow.{room_of}
use Rattle.model.specs.Numbers.{fill_of, at}
use Rattle.numbers.specs.RowsLaws.{fill_at, length_fill}
use Rattle.model.specs.declared.Road.{Road}
use Rattle.model.specs.declared.State.{State}
use Rattle.limits.specs.LimitsLaws.{InputOk}
use Rattle.model.specs.Record.{row_size}
use Rattle.model.specs.Flow.{arrivals_at, release_at, supply_at, most_release_at}
use Rattle.model.specs.Schedules.{ReleasesFit}
use Rattle.theory.specs.RulesLaws.{Sized}
use Rattle.model.specs.Move.{queue_of}
use Rattle.outflows.specs.Rooms.{Rooms}
use Rattle.passes.specs.Tables.{Table, room_col, release_col, waiting_col, LongColumns, StoredRooms, store_rooms}
use Rattle.passes.specs.Supplies.{NoRamp, supply_in, supply_model, SuppliesRequire}
use Rattle.passes.specs.RampList.{Listed, listed_map}
use Rattle.passes.specs.TakeReleases.{arrive_in, give_in, less_at, Fits, TakeRequires, TakeGives, TakeAnswer}

-- what the test requires: everything is within the limits, the bytes hold the row, and the cells with a ramp are listed
pub record FitRequires (bytes : List ℕ) (start : ℕ) (q : Road) (s : State) (row : List ℕ) (ramps : ℕ) (cell : List ℕ) (work : Table) : Type 0 where
  pub input : InputOk q s row
  pub sized : Sized q s
  pub listed : Listed (NoRamp q.ramp) q.n ramps cell
  pub held : start + row_size q.n ≤ length bytes
  pub arrivals : (i : ℕ) → i < q.n → arrive_in bytes start i ≡ arrivals_at row i
  pub releases : (i : ℕ) → i < q.n → give_in bytes start i ≡ release_at row i
  pub long : LongColumns q.n work

-- the results if they fit
pub record FitGives (q : Road) (s : State) (row : List ℕ) (ramps : ℕ) (cell : List ℕ) (work : Table) : Type 0 where
  pub released : ReleasesFit q s row
  pub rooms : Rooms q s row (room_col work)
  pub releases : (k : ℕ) → k < ramps → at (release_col work) k ≡ release_at row (at cell k)
  pub waits : (k : ℕ) → k < ramps → at (waiting_col work) k ≡ queue_of s row (at cell k)
  pub long : LongColumns q.n work

-- the results of the test
pub record FitAnswer (ok : Bool) (q : Road) (s : State) (row : List ℕ) (ramps : ℕ) (cell : List ℕ) (work : Table) : Type 0 where
  pub yes : ok ≡ true → FitGives q s row ramps cell work
  pub no : ok ≡ false → ReleasesFit q s row → ⊥

module _ {bytes : List ℕ} {start : ℕ} {q : Road} {s : State} {row : List ℕ} {ramps : ℕ} {cell : List ℕ} {work₀ : Table}
    (k : FitRequires bytes start q s row ramps cell work₀) where
  pub supplies_ready : SuppliesRequire q.n q.wave q.jam s.held
  supplies_ready = record {
    cells = k.input.road.cells;
    waves = k.input.road.wave;
    jams = k.input.road.jam;
    helds = k.input.state.held;
  }

  -- the supplies are stored
  module _ {room₁ : List ℕ} (e : room₁ ≡ fill_of (supply_in q.wave q.jam q.capacity s.held) q.n (room_col work₀)) where
    abbrev work₁ : Table
    work₁ = set work₀ 0 room₁

    stored : StoredRooms work₀ work₁ room₁
    stored = store_rooms work₀ k.long.columns room₁

    supply_is : (i : ℕ) → i < q.n → at (room_col work₁) i ≡ supply_at q s i
    supply_is i l =
        ap (λ (x : List ℕ). at x i) (stored.rooms ∙ e)
        ∙ fill_at (supply_in q.wave q.jam q.capacity s.held) q.n (room_col work₀) i l k.long.room
        ∙ supply_model q s i

    room_length : length (room_col work₁) ≡ length (room_col work₀)
    room_length = ap length (stored.rooms ∙ e) ∙ length_fill (supply_in q.wave q.jam q.capacity s.held) q.n (room_col work₀)

    pub take_ready : TakeRequires bytes start q.n ramps cell s.queue work₁
    take_ready = record {
      columns = stored.columns;
      cells = k.input.road.cells;
      row = k.held;
      long_room = omega (arith, room_length, k.long.room);
      long_release = omega (arith, ap length stored.releases, k.long.release, k.listed.most);
      long_waiting = omega (arith, ap length stored.waits, k.long.waiting, k.listed.most);
      listed = listed_map (λ i l p. k.releases i l ∙ k.input.row.no_release i l (omega (arith, p, k.input.road.ramp i l))) k.listed;
      queues = λ i l. omega (arith, k.input.state.queue i l, k.input.state.done);
      arrivals = λ i l. omega (arith, k.arrivals i l, k.input.row.arrivals i l);
    }

    module _ {ok : Bool} {work : Table}
        (h : TakeAnswer ok bytes start q.n ramps cell s.queue work₁ work) where
      fit_gives : TakeGives bytes start q.n ramps cell s.queue work₁ work
          → FitGives q s row ramps cell work
      unfolding most_release_at room_of
      fit_gives t = record {
        released = record {
          queue = λ i l. omega (arith, (t.fits i l).ramp, k.arrivals i l, k.releases i l);
          supply = λ i l. omega (arith, (t.fits i l).supply, supply_is i l, k.releases i l);
        };
        rooms = λ i l.
            let there =
            ap (λ (x : List ℕ). at x i) t.rooms
            ∙ fill_at (less_at bytes start (room_col work₁)) q.n (room_col work₁) i l (omega (arith, room_length, k.long.room)) in
            omega (arith, there, supply_is i l, k.releases i l);
        releases = λ j l. t.releases j l ∙ k.releases (at cell j) (k.listed.within j l);
        waits = λ j l.
            let inside = k.listed.within j l in
            omega (arith, t.waits j l, k.arrivals (at cell j) inside, k.releases (at cell j) inside);
        long = record {
          columns = t.kept.columns;
          room = omega (arith, ap length t.rooms, length_fill (less_at bytes start (room_col work₁)) q.n (room_col work₁), room_length, k.long.room);
          release = omega (arith, t.same_release, ap length stored.releases, k.long.release);
          waiting = omega (arith, t.same_waiting, ap length stored.waits, k.long.waiting);
          demand = omega (arith, ap length t.kept.demands, ap length stored.demands, k.long.demand);
          came = omega (arith, ap length t.kept.came, ap length stored.came, k.long.came);
        };
      }

      fits_all : ReleasesFit q s row → (i : ℕ) → i < q.n → Fits bytes start s.queue (room_col work₁) i
      unfolding most_release_at
      fits_all r i l = record {
        ramp = omega (arith, r.queue i l, k.arrivals i l, k.releases i l);
        supply = omega (arith, r.supply i l, supply_is i l, k.releases i l);
      }

      pub fit_answer : FitAnswer ok q s row ramps cell work
      fit_answer = record { yes = λ y. fit_gives (h.yes y); no = λ z r. h.no z (fits_all r) }
