-- Tables of columns, as the passes take them, and what a turn's stores leave of a table. Assumes nothing.
use Rattle.std.specs.Prelude.{◌≡◌, refl, List, [], ◌∷◌, ℕ, suc, ◌≤◌, length, get_or, set}
use Rattle.std.proofs.Common.{arith}
use Rattle.model.specs.declared.Road.{Road}
use Rattle.model.specs.declared.State.{State}
use Rattle.model.specs.Schedules.{with_capacity}
use Rattle.outflows.specs.declared.Ledger.{Ledger}
use Rattle.outflows.specs.Columns.{road_of, state_of}
use Rattle.passes.specs.declared.columns.Size.{Size}

abbrev pub Table : Type 0
Table = List (List ℕ)

abbrev column : Table → ℕ → List ℕ
column t c = get_or t c []

-- the counts of a road and the list of its cells with a ramp
abbrev pub jam_col : Table → List ℕ
jam_col sizes = column sizes 0

abbrev pub capacity_col : Table → List ℕ
capacity_col sizes = column sizes 1

abbrev pub cell_col : Table → List ℕ
cell_col sizes = column sizes 2

-- a road with the columns of two tables; everything else is r's
abbrev pub road_in : Road → Size → Table → Table → Road
road_in r z rates sizes = road_of r z.n z.gate_capacity (column rates 0) (column rates 1) (column rates 2) (jam_col sizes) (capacity_col sizes)

-- the columns of a state, and the remainders of b × F
abbrev pub held_col : Table → List ℕ
held_col state = column state 0

abbrev pub queue_col : Table → List ℕ
queue_col state = column state 1

abbrev pub cumulative_col : Table → List ℕ
cumulative_col state = column state 2

abbrev pub rest_col : Table → List ℕ
rest_col state = column state 3

abbrev pub state_in : Ledger → Table → State
state_in l state = state_of l (held_col state) (queue_col state) (cumulative_col state)

-- what the passes fill
abbrev pub room_col : Table → List ℕ
room_col work = column work 0

abbrev pub release_col : Table → List ℕ
release_col work = column work 1

abbrev pub waiting_col : Table → List ℕ
waiting_col work = column work 2

abbrev pub demand_col : Table → List ℕ
demand_col work = column work 3

abbrev pub came_col : Table → List ℕ
came_col work = column work 4

-- a table with a known number of columns is a list of them
one_more : {m : ℕ} (P : Table → Type 0) → ((x : List ℕ) (t : Table) → length t ≡ m → P (x ∷ t)) → (t : Table) → length t ≡ suc m → P t
one_more P f [] e = absurd (omega arith)
one_more P f (x ∷ t) e = f x t (omega arith)

no_more : (P : Table → Type 0) → P [] → (t : Table) → length t ≡ 0 → P t
no_more P p [] e = p
no_more P p (x ∷ t) e = absurd (omega arith)

pub three_columns : (P : Table → Type 0) → ((a b c : List ℕ) → P (a ∷ b ∷ c ∷ [])) → (t : Table) → length t ≡ 3 → P t
three_columns P f =
    one_more P (λ a. one_more (λ t. P (a ∷ t)) (λ b. one_more (λ t. P (a ∷ b ∷ t)) (λ c. no_more (λ t. P (a ∷ b ∷ c ∷ t)) (f a b c))))

pub four_columns : (P : Table → Type 0) → ((a b c d : List ℕ) → P (a ∷ b ∷ c ∷ d ∷ [])) → (t : Table) → length t ≡ 4 → P t
four_columns P f = one_more P (λ a. three_columns (λ t. P (a ∷ t)) (f a))

pub five_columns : (P : Table → Type 0) → ((a b c d e : List ℕ) → P (a ∷ b ∷ c ∷ d ∷ e ∷ [])) → (t : Table) → length t ≡ 5 → P t
five_columns P f = one_more P (λ a. four_columns (λ t. P (a ∷ t)) (f a))

-- the tables of a road are its columns, with the list of its cells with a ramp
pub record RoadTables (r : Road) (z : Size) (rates sizes : Table) (cell : List ℕ) : Type 0 where
  pub columns : length sizes ≡ 3
  pub road : road_in r z rates sizes ≡ r
  pub cells : cell_col sizes ≡ cell

pub road_tables : (r : Road) {z : Size} {rates sizes : Table} (cell list : List ℕ) → rates ≡ r.speed ∷ r.wave ∷ r.share ∷ []
    → sizes ≡ r.jam ∷ r.capacity ∷ list ∷ [] → (z.n ≡ r.n) × (z.gate_capacity ≡ r.gate_capacity) → RoadTables r z rates (set sizes 2 cell) cell
road_tables r cell list er es ez = rw (er, es) (record { columns = refl; road = rw (ez.0, ez.1) refl; cells = refl })

-- a step's capacities are stored
pub record StoredCapacities (r : Road) (z : Size) (rates sizes sizes₁ : Table) (capacity : List ℕ) : Type 0 where
  pub columns : length sizes₁ ≡ 3
  pub road : road_in r z rates sizes₁ ≡ with_capacity (road_in r z rates sizes) capacity
  pub cells : cell_col sizes₁ ≡ cell_col sizes

pub store_capacities : (r : Road) (z : Size) (rates sizes : Table) → length sizes ≡ 3 → (capacity : List ℕ)
    → StoredCapacities r z rates sizes (set sizes 1 capacity) capacity
store_capacities r z rates sizes e capacity = three_columns (λ t. StoredCapacities r z rates t (set t 1 capacity) capacity)
    (λ a b c. record { columns = refl; road = refl; cells = refl })
    sizes e

-- the columns of the passes have an entry for each of n cells
pub record LongColumns (n : ℕ) (work : Table) : Type 0 where
  pub columns : length work ≡ 5
  pub room : n ≤ length (room_col work)
  pub release : n ≤ length (release_col work)
  pub waiting : n ≤ length (waiting_col work)
  pub demand : n ≤ length (demand_col work)
  pub came : n ≤ length (came_col work)

-- the rooms are stored, and the demands
pub record StoredRooms (work work₁ : Table) (room : List ℕ) : Type 0 where
  pub columns : length work₁ ≡ 5
  pub rooms : room_col work₁ ≡ room
  pub releases : release_col work₁ ≡ release_col work
  pub waits : waiting_col work₁ ≡ waiting_col work
  pub demands : demand_col work₁ ≡ demand_col work
  pub came : came_col work₁ ≡ came_col work

pub store_rooms : (work : Table) → length work ≡ 5 → (room : List ℕ) → StoredRooms work (set work 0 room) room
store_rooms work e room = five_columns (λ w. StoredRooms w (set w 0 room) room)
    (λ a b c d e. record { columns = refl; rooms = refl; releases = refl; waits = refl; demands = refl; came = refl })
    work e

pub record StoredDemands (work work₁ : Table) (demand : List ℕ) : Type 0 where
  pub columns : length work₁ ≡ 5
  pub rooms : room_col work₁ ≡ room_col work
  pub releases : release_col work₁ ≡ release_col work
  pub waits : waiting_col work₁ ≡ waiting_col work
  pub demands : demand_col work₁ ≡ demand
  pub came : came_col work₁ ≡ came_col work

pub store_demands : (work : Table) → length work ≡ 5 → (demand : List ℕ) → StoredDemands work (set work 3 demand) demand
store_demands work e demand = five_columns (λ w. StoredDemands w (set w 3 demand) demand)
    (λ a b c d e. record { columns = refl; rooms = refl; releases = refl; waits = refl; demands = refl; came = refl })
    work e

-- a turn of sending stores a cell's F, held count and remainder
abbrev store_sent : Table → ℕ → ℕ → ℕ → ℕ → Table
store_sent state i cumulative held rest =
    let a = set state 2 (set (cumulative_col state) i cumulative) in
    let b = set a 0 (set (held_col a) i held) in
    set b 3 (set (rest_col b) i rest)

pub record StoredSent (state state₁ : Table) (i cumulative held rest : ℕ) : Type 0 where
  pub columns : length state₁ ≡ 4
  pub helds : held_col state₁ ≡ set (held_col state) i held
  pub queues : queue_col state₁ ≡ queue_col state
  pub cumulatives : cumulative_col state₁ ≡ set (cumulative_col state) i cumulative
  pub rests : rest_col state₁ ≡ set (rest_col state) i rest

pub store_sent_lem : (state : Table) → length state ≡ 4 → (i cumulative held rest : ℕ)
    → StoredSent state (store_sent state i cumulative held rest) i cumulative held rest
store_sent_lem state e i cumulative held rest = four_columns
    (λ t. StoredSent t (store_sent t i cumulative held rest) i cumulative held rest)
    (λ a b c d. record { columns = refl; helds = refl; queues = refl; cumulatives = refl; rests = refl })
    state e

-- a turn of adding stores a cell's held count and queue
abbrev store_added : Table → ℕ → ℕ → ℕ → Table
store_added state i held queue = let a = set state 0 (set (held_col state) i held) in set a 1 (set (queue_col a) i queue)

pub record StoredAdded (state state₁ : Table) (i held queue : ℕ) : Type 0 where
  pub columns : length state₁ ≡ 4
  pub helds : held_col state₁ ≡ set (held_col state) i held
  pub queues : queue_col state₁ ≡ set (queue_col state) i queue
  pub cumulatives : cumulative_col state₁ ≡ cumulative_col state
  pub rests : rest_col state₁ ≡ rest_col state

pub store_added_lem : (state : Table) → length state ≡ 4 → (i held queue : ℕ) → StoredAdded state (store_added state i held queue) i held queue
store_added_lem state e i held queue = four_columns
    (λ t. StoredAdded t (store_added t i held queue) i held queue)
    (λ a b c d. record { columns = refl; helds = refl; queues = refl; cumulatives = refl; rests = refl })
    state e

-- sending leaves the queues; adding leaves F and the remainders
pub record QueuesKept (state₀ state : Table) : Type 0 where
  pub columns : length state ≡ 4
  pub queues : queue_col state ≡ queue_col state₀

pub record SumsKept (state₀ state : Table) : Type 0 where
  pub columns : length state ≡ 4
  pub cumulatives : cumulative_col state ≡ cumulative_col state₀
  pub rests : rest_col state ≡ rest_col state₀
