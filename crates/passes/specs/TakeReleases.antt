-- The releases of the listed cells, from a row's bytes: whether they fit, and the rooms that they leave. Assumes nothing.
use Rattle.std.specs.Prelude.{◌≡◌, Bool, true, false, List, ℕ, ◌+◌, ◌-◌, ◌*◌, ◌≤◌, ◌<◌, length, set}
use Rattle.std.proofs.Math.Path.{refl}
use Rattle.std.proofs.Common.{ap, subst, ◌∙◌, ⊎_elim, arith}
use Rattle.model.specs.Numbers.{fill_of, at}
use Rattle.numbers.specs.RowsLaws.{fill_at}
use Rattle.model.specs.Road.{most_cells, most_rate, most_steps}
use Rattle.model.specs.Limits.{most_queue}
use Rattle.numbers.specs.Tests.{order}
use Rattle.model.specs.Record.{number_of, row_size}
use Rattle.passes.specs.Tables.{Table, room_col, release_col, waiting_col, demand_col, came_col, five_columns}
use Rattle.passes.specs.Supplies.{FilledTo, filled_none, filled_more, filled_end}
use Rattle.passes.specs.RampList.{start_of, start_more, Listed, Upto, listed_here, listed_more, listed_end}

-- the columns that taking leaves as they are
pub record OtherKept (work₀ work : Table) : Type 0 where
  pub columns : length work ≡ 5
  pub demands : demand_col work ≡ demand_col work₀
  pub came : came_col work ≡ came_col work₀

-- a turn's stores: the room of cell i, and the release and the queue of entry k of the list
abbrev pub store_taken : Table → ℕ → ℕ → ℕ → ℕ → ℕ → Table
store_taken work i room k release waiting =
    let a = set work 0 (set (room_col work) i room) in
    let b = set a 1 (set (release_col a) k release) in
    set b 2 (set (waiting_col b) k waiting)

record Stored (work work₁ : Table) (i room k release waiting : ℕ) : Type 0 where
  columns : length work₁ ≡ 5
  rooms : room_col work₁ ≡ set (room_col work) i room
  releases : release_col work₁ ≡ set (release_col work) k release
  waits : waiting_col work₁ ≡ set (waiting_col work) k waiting
  demands : demand_col work₁ ≡ demand_col work
  came : came_col work₁ ≡ came_col work

store_taken_lem : (work : Table) → length work ≡ 5 → (i room k release waiting : ℕ)
    → Stored work (store_taken work i room k release waiting) i room k release waiting
store_taken_lem work e i room k release waiting = five_columns
    (λ w. Stored w (store_taken w i room k release waiting) i room k release waiting)
    (λ a b c d e. record { columns = refl; rooms = refl; releases = refl; waits = refl; demands = refl; came = refl })
    work e

-- the arrivals and the release of the cell at i in the row that starts at `start`
unfoldable pub arrive_in : List ℕ → ℕ → ℕ → ℕ
arrive_in bytes start i = number_of bytes (start + 4 + 8 * i) 4

unfoldable pub give_in : List ℕ → ℕ → ℕ → ℕ
give_in bytes start i = number_of bytes (start + 4 + 8 * i + 4) 4

-- the release fits
pub record Fits (bytes : List ℕ) (start : ℕ) (queue room : List ℕ) (i : ℕ) : Type 0 where
  pub ramp : give_in bytes start i ≤ at queue i + arrive_in bytes start i
  pub supply : give_in bytes start i ≤ at room i

-- what taking them requires
pub record TakeRequires (bytes : List ℕ) (start n ramps : ℕ) (cell queue : List ℕ) (work₀ : Table) : Type 0 where
  pub columns : length work₀ ≡ 5
  pub cells : n ≤ most_cells
  pub row : start + row_size n ≤ length bytes
  pub long_room : n ≤ length (room_col work₀)
  pub long_release : ramps ≤ length (release_col work₀)
  pub long_waiting : ramps ≤ length (waiting_col work₀)
  pub listed : Listed (λ i. give_in bytes start i ≡ 0) n ramps cell
  pub queues : (i : ℕ) → i < n → at queue i ≤ most_queue most_steps
  pub arrivals : (i : ℕ) → i < n → arrive_in bytes start i ≤ most_rate

-- a room less the release; and a queue with its arrivals less the release
abbrev pub less_at : List ℕ → ℕ → List ℕ → ℕ → ℕ
less_at bytes start room i = at room i - give_in bytes start i

abbrev pub wait_in : List ℕ → ℕ → List ℕ → ℕ → ℕ
wait_in bytes start queue i = at queue i + arrive_in bytes start i - give_in bytes start i

-- all releases fit: the rooms that they leave, and for each listed cell its release and its queue after it
pub record TakeGives (bytes : List ℕ) (start n ramps : ℕ) (cell queue : List ℕ) (work₀ work : Table) : Type 0 where
  pub rooms : room_col work ≡ fill_of (less_at bytes start (room_col work₀)) n (room_col work₀)
  pub fits : (i : ℕ) → i < n → Fits bytes start queue (room_col work₀) i
  pub releases : (k : ℕ) → k < ramps → at (release_col work) k ≡ give_in bytes start (at cell k)
  pub waits : (k : ℕ) → k < ramps → at (waiting_col work) k ≡ wait_in bytes start queue (at cell k)
  pub same_release : length (release_col work) ≡ length (release_col work₀)
  pub same_waiting : length (waiting_col work) ≡ length (waiting_col work₀)
  pub kept : OtherKept work₀ work

-- the answer
pub record TakeAnswer (ok : Bool) (bytes : List ℕ) (start n ramps : ℕ) (cell queue : List ℕ) (work₀ work : Table) : Type 0 where
  pub yes : ok ≡ true → TakeGives bytes start n ramps cell queue work₀ work
  pub no : ok ≡ false → ((i : ℕ) → i < n → Fits bytes start queue (room_col work₀) i) → ⊥

-- the loop over the listed cells
pub record TakeSoFar (bytes : List ℕ) (start ramps : ℕ) (cell queue : List ℕ) (work₀ work : Table) (k : ℕ) : Type 0 where
  pub rooms : room_col work ≡ fill_of (less_at bytes start (room_col work₀)) (start_of cell k) (room_col work₀)
  pub fits : (i : ℕ) → i < start_of cell k → Fits bytes start queue (room_col work₀) i
  pub releases : FilledTo (λ j. give_in bytes start (at cell j)) ramps (release_col work₀) (release_col work) k
  pub waits : FilledTo (λ j. wait_in bytes start queue (at cell j)) ramps (waiting_col work₀) (waiting_col work) k
  pub kept : OtherKept work₀ work

-- the facts about the numbers of a turn
pub record TakeTurn (start i size q come n : ℕ) : Type 0 where
  pub within : i < n
  pub cells : n ≤ most_cells
  pub row : start + row_size n ≤ size
  pub queue : q ≤ most_queue most_steps
  pub arrivals : come ≤ most_rate

module _ {bytes : List ℕ} {start n ramps : ℕ} {cell queue : List ℕ} {work₀ : Table}
    (t : TakeRequires bytes start n ramps cell queue work₀) where
  pub take_none : TakeSoFar bytes start ramps cell queue work₀ work₀ 0
  unfolding fill_of start_of
  take_none = record {
    rooms = refl;
    fits = λ i l. absurd (omega arith);
    releases = filled_none;
    waits = filled_none;
    kept = record { columns = t.columns; demands = refl; came = refl };
  }

  pub take_turn : {k : ℕ} → k < ramps → TakeTurn start (at cell k) (length bytes) (at queue (at cell k)) (arrive_in bytes start (at cell k)) n
  take_turn {k} l =
      let inside = t.listed.within k l in
      record { within = inside; cells = t.cells; row = t.row; queue = t.queues (at cell k) inside; arrivals = t.arrivals (at cell k) inside }

  same : (i : ℕ) → i < n → give_in bytes start i ≡ 0 → less_at bytes start (room_col work₀) i ≡ at (room_col work₀) i
  same i l e = omega arith

  module _ {work : Table} {k : ℕ} (h : TakeSoFar bytes start ramps cell queue work₀ work k) (l : k < ramps) where
    pub room_here : at (room_col work) (at cell k) ≡ at (room_col work₀) (at cell k)
    room_here = listed_here (less_at bytes start (room_col work₀)) (room_col work₀) t.listed same l h.rooms

    -- a release does not fit
    pub take_stop : (Fits bytes start queue (room_col work₀) (at cell k) → ⊥) → ((i : ℕ) → i < n → Fits bytes start queue (room_col work₀) i) → ⊥
    take_stop bad all = bad (all (at cell k) (t.listed.within k l))

    pub take_more : {most given : ℕ} → most ≡ at queue (at cell k) + arrive_in bytes start (at cell k) → given ≡ give_in bytes start (at cell k)
        → given ≤ most → given ≤ at (room_col work) (at cell k)
        → TakeSoFar bytes start ramps cell queue work₀ (store_taken work (at cell k) (at (room_col work) (at cell k) - given) k given (most - given)) (k + 1)
    take_more {most} {given} ec eg a b =
        let i = at cell k in
        let there = room_here in
        let fit : Fits bytes start queue (room_col work₀) i = record { ramp = omega arith; supply = omega arith } in
        let st = store_taken_lem work h.kept.columns i (at (room_col work) i - given) k given (most - given) in
        record {
          rooms = st.rooms ∙ listed_more (less_at bytes start (room_col work₀)) (room_col work₀) t.listed same l h.rooms (omega arith);
          fits = λ j m. go j (subst (λ (q : ℕ). j < q) (start_more cell k) m) fit;
          releases = rw st.releases (filled_more h.releases l eg);
          waits = rw st.waits (filled_more h.waits l (omega arith));
          kept = record { columns = st.columns; demands = st.demands ∙ h.kept.demands; came = st.came ∙ h.kept.came };
        }
      where
        idle : (j : ℕ) → start_of cell k ≤ j → j < at cell k → Fits bytes start queue (room_col work₀) j
        idle j x y = let z = t.listed.gap k l j x y in record { ramp = omega arith; supply = omega arith }

        go : (j : ℕ) → j < at cell k + 1 → Fits bytes start queue (room_col work₀) (at cell k) → Fits bytes start queue (room_col work₀) j
        go j m fit = ⊎_elim
            (λ (p : start_of cell k ≤ j).
            ⊎_elim
            (λ (q : at cell k ≤ j).
            let e : at cell k ≡ j = omega arith in
            subst (λ (x : ℕ). Fits bytes start queue (room_col work₀) x) e fit)
            (λ (q : j < at cell k). idle j p q)
            (order (at cell k) j))
            (λ (p : j < start_of cell k). h.fits j p)
            (order (start_of cell k) j)

  pub take_end : {work : Table} {k : ℕ} → TakeSoFar bytes start ramps cell queue work₀ work k
      → Upto ramps k → ramps ≤ k → TakeGives bytes start n ramps cell queue work₀ work
  take_end {k = k} h b l =
      let e : k ≡ ramps = omega (arith, b.within) in
      let big = b.cells in
      record {
        rooms = listed_end (less_at bytes start (room_col work₀)) (room_col work₀) t.listed same e h.rooms;
        fits = λ i m. ⊎_elim
            (λ (p : start_of cell k ≤ i).
            let z = t.listed.past i (subst (λ (q : ℕ). start_of cell q ≤ i) e p) m in
            record { ramp = omega arith; supply = omega arith })
            (λ (p : i < start_of cell k). h.fits i p)
            (order (start_of cell k) i);
        releases = λ j m. ap (λ (x : List ℕ). at x j) (filled_end h.releases l)
            ∙ fill_at (λ j. give_in bytes start (at cell j)) ramps (release_col work₀) j m (omega (arith, t.long_release));
        waits = λ j m. ap (λ (x : List ℕ). at x j) (filled_end h.waits l)
            ∙ fill_at (λ j. wait_in bytes start queue (at cell j)) ramps (waiting_col work₀) j m (omega (arith, t.long_waiting));
        same_release = h.releases.same;
        same_waiting = h.waits.same;
        kept = h.kept;
      }
