-- The step in passes is the model's: its columns are those of the engine's next state. Assumes nothing.
use Rattle.std.specs.Prelude.{◌≡◌, List, length}
use Rattle.std.proofs.Math.Path.{sym, ap}
use Rattle.std.proofs.Common.{◌∙◌, eq-or-lt_of_le, ext_get_or}
use Rattle.std.proofs.Math.Logic.{⊎_elim}
use Prim.Native.Nat.{ℕ, zero, suc, ◌+◌, ◌-◌, ◌≤◌, ◌<◌, min}
use Rattle.std.proofs.Math.Numerals.{add-one}
use native.Mathlib.Omega.{arith}
use Rattle.model.specs.Flow.{gate_demand_of, entering_of, outflow_of}
use Rattle.flow.specs.FlowLaws.{outflow_whole, outflow_exit, outflow_le, entering_whole, entering_le}
use Rattle.model.specs.Numbers.{fill_of, at}
use Rattle.numbers.specs.RowsLaws.{fill_at, fill_past, fill_same, length_fill}
use Rattle.model.specs.declared.Road.{Road}
use Rattle.model.specs.declared.State.{State}
use Rattle.model.specs.Road.{most_rate, most_steps, total_of}
use Rattle.limits.specs.LimitsLaws.{InputOk}
use Rattle.model.specs.Limits.{most_queue, most_cumulative, most_total}
use Rattle.outflows.specs.Columns.{with_demands}
use Rattle.numbers.specs.Tests.{order}
use Rattle.model.specs.Flow.{gate_arrivals, release_at, room_at, demand_at, share_at, cumulative_at, entering_at, outflow_at}
use Rattle.model.specs.Schedules.{outflows_of}
use Rattle.theory.specs.RulesLaws.{share_cell, cumulative_cell, length_outflows, outflows_at_lem, outflows_last, demand_at_cell}
use Rattle.model.specs.Move.{held_of, queue_of, cumulative_of, moved_to, counted_of, next_of}
use Rattle.stepping.specs.StepNeeds.{Steppable}
use Rattle.outflows.specs.Rooms.{Rooms}
use Rattle.outflows.specs.declared.Ledger.{Ledger}
use Rattle.passes.specs.Tables.{Table, state_in, held_col, queue_col, cumulative_col, rest_col, room_col, release_col, waiting_col, demand_col, QueuesKept, SumsKept}
use Rattle.passes.specs.Rest.{rest_of, Remainders}
use Rattle.passes.specs.Supplies.{NoRamp, demand_in, demand_model, DemandsRequire}
use Rattle.passes.specs.Outflows.{Pass, pass_of, out_at, place_at, enter_at, left_at, grown_at, rest_at, SendRequires, SendGives}
use Rattle.passes.specs.RampList.{Listed, listed_map}
use Rattle.passes.specs.AddReleases.{Idle, AddRequires, AddLent, AddGives, given_at}

-- what a step has ready once its releases are taken: each ramp's release and its queue after it, the rooms, the remainders and the demands
pub record NextRequires (q : Road) (l : Ledger) (state : Table) (row : List ℕ) (ramps arrivals : ℕ) (cell : List ℕ) (work : Table) : Type 0 where
  pub columns : length state ≡ 4
  pub steppable : Steppable q (state_in l state) row
  pub listed : Listed (NoRamp q.ramp) q.n ramps cell
  pub releases : (k : ℕ) → k < ramps → at (release_col work) k ≡ release_at row (at cell k)
  pub waits : (k : ℕ) → k < ramps → at (waiting_col work) k ≡ queue_of (state_in l state) row (at cell k)
  pub rooms : Rooms q (state_in l state) row (room_col work)
  pub rests : Remainders q.n q.share state
  pub demands : (i : ℕ) → i < q.n → at (demand_col work) i ≡ demand_at q (state_in l state) (suc i)
  pub gate : arrivals ≡ gate_arrivals row

-- the demands have no further precondition, and are the model's
pub demands_ready : {q : Road} {s : State} {row : List ℕ} → InputOk q s row → DemandsRequire q.n q.speed s.held
demands_ready k = record {
  cells = k.road.cells;
  speeds = k.road.speed;
  helds = λ i l. omega (arith, k.state.held i l, k.road.jam i l);
}

pub demands_are : (q : Road) (s : State) {demand : List ℕ} (demand₀ : List ℕ) → q.n ≤ length demand₀
    → demand ≡ fill_of (demand_in q.speed q.capacity s.held) q.n demand₀ → (i : ℕ) → i < q.n → at demand i ≡ demand_at q s (suc i)
demands_are q s demand₀ long e i l =
    ap (λ (x : List ℕ). at x i) e ∙ fill_at (demand_in q.speed q.capacity s.held) q.n demand₀ i l long ∙ demand_model q s i

-- a row filled over one that was filled before is the same as one filled once
fill_over : (f g h : ℕ → ℕ) (n : ℕ) (l : List ℕ) → n ≤ length l → ((i : ℕ) → i < n → g i ≡ h i)
    → fill_of g n (fill_of f n l) ≡ fill_of h n l
fill_over f g h n l m e = ext_get_or 0 (fill_of g n (fill_of f n l)) (fill_of h n l)
    (length_fill g n (fill_of f n l) ∙ length_fill f n l ∙ sym (length_fill h n l))
    (λ i _. ⊎_elim
    (λ (p : n ≤ i). fill_past g n (fill_of f n l) i p ∙ fill_past f n l i p ∙ sym (fill_past h n l i p))
    (λ (p : i < n). fill_at g n (fill_of f n l) i p (omega (arith, length_fill f n l)) ∙ e i p ∙ sym (fill_at h n l i p m))
    (order n i))

module _ {q : Road} {l : Ledger} {state : Table} {row : List ℕ} {ramps arrivals : ℕ} {cell : List ℕ} {work : Table}
    (k : NextRequires q l state row ramps arrivals cell work) where
  abbrev s : State
  s = state_in l state

  abbrev room : List ℕ
  room = room_col work

  abbrev demand : List ℕ
  demand = demand_col work

  -- with the gate's outflow
  module _ {first : ℕ} (ef : first ≡ min (gate_demand_of q.gate_capacity s.gate_queue) (at room 0)) where
    abbrev c : Pass
    c = pass_of first q.share demand room s.held s.cumulative

    some : 1 ≤ q.n
    some = k.steppable.input.road.some

    first_is : first ≡ outflow_at q s row 0
    unfolding share_at demand_at gate_demand_of
    first_is =
        omega (
          arith,
          ef,
          k.rooms 0 some,
          outflow_whole (cumulative_at s 0) (room_at q s row 0) (min q.gate_capacity s.gate_queue),
        )

    pub first_there : first ≡ at (outflows_of q s row) 0
    first_there = first_is ∙ sym (outflows_at_lem q s row 0 some)

    -- the row of outflows
    out_is : (i : ℕ) → i < q.n → out_at c i ≡ at (outflows_of q s row) (suc i)
    unfolding out_at
    out_is i l = ⊎_elim
        (λ (e : suc i ≡ q.n).
        let z = k.steppable.input.road.last i (add-one i ∙ e) in
        ap (λ (b : ℕ). outflow_of b (at s.cumulative i) (at room (i + 1)) (at demand i)) z
        ∙ outflow_exit (at s.cumulative i) (at room (i + 1)) (at demand i)
        ∙ k.demands i l
        ∙ ap (demand_at q s) e
        ∙ sym (outflows_last q s row)
        ∙ ap (at (outflows_of q s row)) (sym e))
        (λ (m : suc i < q.n).
        let ro : at room (suc i) ≡ room_at q s row (suc i) = k.rooms (suc i) m in
        let de = k.demands i l in
        let sh : share_at q (suc i) ≡ at q.share i = rw (← add-one i) (share_cell q i) in
        let cu : cumulative_at s (suc i) ≡ at s.cumulative i = rw (← add-one i) (cumulative_cell s i) in
        let one : at room (i + 1) ≡ at room (suc i) = ap (at room) (add-one i) in
        let there : outflow_at q s row (suc i) ≡ outflow_of (at q.share i) (at s.cumulative i) (at room (i + 1)) (at demand i) = rw (sh, cu, one, ro, de) in
        sym there ∙ sym (outflows_at_lem q s row (suc i) m))
        (eq-or-lt_of_le l)

    place_is : (p : ℕ) → p ≤ q.n → place_at c p ≡ at (outflows_of q s row) p
    unfolding place_at
    place_is zero l = first_there
    place_is (suc i) l = out_is i l

    row_is : {y : List ℕ} (y₀ : List ℕ) → length y₀ ≡ q.n + 1 → y ≡ fill_of (place_at c) (q.n + 1) y₀ → y ≡ outflows_of q s row
    row_is {y} y₀ places e = e ∙ ext_get_or 0 (fill_of (place_at c) (q.n + 1) y₀) (outflows_of q s row)
        (length_fill (place_at c) (q.n + 1) y₀ ∙ places ∙ sym (length_outflows q s row))
        (λ i l.
        let m : i < q.n + 1 = omega (arith, length_fill (place_at c) (q.n + 1) y₀) in
        fill_at (place_at c) (q.n + 1) y₀ i m (omega arith) ∙ place_is i (omega arith))

    -- what enters each cell
    enter_is : (i : ℕ) → i < q.n → enter_at c i ≡ entering_at q s (outflows_of q s row) i
    unfolding enter_at share_at cumulative_at
    enter_is zero l = first_there ∙ sym (entering_whole s.gate_cumulative (at (outflows_of q s row) 0))
    enter_is (suc i) l = ap (entering_of (at q.share i) (at s.cumulative i)) (out_is i (omega arith))

    -- the numbers are within the limits
    demand_most : (i : ℕ) → i < q.n → at demand i ≤ at s.held i
    demand_most i l = omega (arith, k.demands i l, demand_at_cell q k.steppable.input.road s i l)

    held_most_lem : (i : ℕ) → i < q.n → at s.held i ≤ most_rate
    held_most_lem i l = omega (arith, k.steppable.input.state.held i l, k.steppable.input.road.jam i l)

    first_most : first ≤ most_rate
    unfolding gate_demand_of
    first_most = omega (arith, ef, k.steppable.input.road.gate)

    pub send_ready : SendRequires q.n (pass_of first q.share demand room s.held s.cumulative) (rest_col state)
    send_ready = record {
      cells = k.steppable.input.road.cells;
      long_held = k.steppable.sized.held;
      long_rest = k.rests.long;
      long_cumulative = k.steppable.sized.cumulative;
      gate = first_most;
      shares = k.steppable.input.road.share;
      demands = demand_most;
      helds = held_most_lem;
      cumulatives = λ i l. omega (arith, k.steppable.input.state.cumulative i l, k.steppable.input.state.done);
      rests = k.rests.are;
    }

    -- the columns after sending
    module _ {y₀ y : List ℕ} {state₁ : Table} {sum : ℕ}
        (h : SendGives q.n (pass_of first q.share demand room s.held s.cumulative) (rest_col state) y₀
        (held_col state₁) (rest_col state₁) (cumulative_col state₁) y sum)
        (same : QueuesKept state state₁) where
      abbrev held₁ : List ℕ
      held₁ = held_col state₁

      left_is : (i : ℕ) → i < q.n → at held₁ i ≡ left_at c i
      left_is i l = ap (λ (x : List ℕ). at x i) h.helds ∙ fill_at (left_at c) q.n s.held i l k.steppable.sized.held

      enter_most : (i : ℕ) → i < q.n → enter_at c i ≤ most_rate
      unfolding enter_at out_at
      enter_most zero l = first_most
      enter_most (suc i) l =
          let m : i < q.n = omega arith in
          omega (
            arith,
            entering_le (at q.share i) (at s.cumulative i) (out_at c i) (k.steppable.input.road.share i m),
            outflow_le (at q.share i) (at s.cumulative i) (at room (i + 1)) (at demand i),
            demand_most i m,
            held_most_lem i m,
          )

      -- the row of outflows is the engine's
      pub row_sent : length y₀ ≡ q.n + 1 → y ≡ outflows_of q s row
      row_sent places = row_is y₀ places h.row

      -- a cell without a ramp is idle
      idle : (i : ℕ) → i < q.n → NoRamp q.ramp i → Idle (release_at row) (queue_of s row) s.queue i
      idle i l p =
          let ok = k.steppable.input in
          let z : at q.ramp i ≡ 0 = omega (arith, ok.road.ramp i l, p) in
          let a = ok.row.no_release i l z in
          let b = ok.row.no_arrivals i l z in
          let d = ok.state.no_ramp i l z in
          record { gives = a; waits = omega arith; queues = d }

      pub add_ready : AddRequires (release_at row) (queue_of s row) q.n ramps cell (release_col work) (waiting_col work) (held_col state₁) (queue_col state₁)
      add_ready = rw same.queues (record {
        cells = k.steppable.input.road.cells;
        long_held = omega (arith, ap length h.helds, length_fill (left_at c) q.n s.held, k.steppable.sized.held);
        long_queue = k.steppable.sized.queue;
        listed = listed_map idle k.listed;
        releases = k.releases;
        waits = k.waits;
        helds = λ i l. omega (arith, left_is i l, enter_most i l, held_most_lem i l);
        rates = k.steppable.input.row.release;
        queues = λ i l. omega (arith, k.steppable.input.state.queue i l, k.steppable.input.state.done, k.steppable.input.row.arrivals i l);
      })

      pub add_lent : AddLent q.n ramps sum cell (release_col work) (waiting_col work) (held_col state₁) (queue_col state₁)
      add_lent = record { give = release_at row; wait = queue_of s row; ready = add_ready; small = h.bound }

      -- the columns are the model's
      module _ {state₂ : Table} {on_road at_ramps : ℕ}
          (g : AddGives (release_at row) (queue_of s row) q.n (held_col state₁) (queue_col state₁) (held_col state₂) (queue_col state₂) sum on_road at_ramps)
          (kept : SumsKept state₁ state₂) where
        held_is : held_col state₂ ≡ fill_of (held_of q s row (outflows_of q s row)) q.n s.held
        unfolding out_at
        held_is =
            g.helds
            ∙ ap (fill_of (given_at (release_at row) held₁) q.n) h.helds
            ∙ fill_over (left_at c) (given_at (release_at row) held₁) (held_of q s row (outflows_of q s row)) q.n s.held k.steppable.sized.held
            (λ i l.
            let one : at (outflows_of q s row) (i + 1) ≡ at (outflows_of q s row) (suc i) = ap (at (outflows_of q s row)) (add-one i) in
            omega (
              arith,
              left_is i l,
              enter_is i l,
              out_is i l,
              one,
              outflow_le (at q.share i) (at s.cumulative i) (at room (i + 1)) (at demand i),
              demand_most i l,
            ))

        queue_is : queue_col state₂ ≡ fill_of (queue_of s row) q.n s.queue
        queue_is = g.queues ∙ ap (fill_of (queue_of s row) q.n) same.queues

        cumulative_is : cumulative_col state₂ ≡ fill_of (cumulative_of s (outflows_of q s row)) q.n s.cumulative
        cumulative_is = kept.cumulatives ∙ h.cumulatives ∙ fill_same (grown_at c) (cumulative_of s (outflows_of q s row)) q.n s.cumulative
            (λ i l.
            let one : at (outflows_of q s row) (i + 1) ≡ at (outflows_of q s row) (suc i) = ap (at (outflows_of q s row)) (add-one i) in
            omega (arith, out_is i l, one))

        -- so the state is the engine's next state
        pub next_is : {gate_queue gate_cumulative : ℕ}
            → gate_queue ≡ s.gate_queue + arrivals - first → gate_cumulative ≡ s.gate_cumulative + first
            → ◌≡◌ {A = State} (record {
              done = s.done + 1;
              gate_time = s.gate_time + gate_queue;
              road_time = s.road_time + on_road;
              ramp_time = s.ramp_time + at_ramps;
              gate_queue = gate_queue;
              gate_cumulative = gate_cumulative;
              held = held_col state₂;
              queue = queue_col state₂;
              cumulative = cumulative_col state₂;
            }) (next_of q s row (outflows_of q s row))
        unfolding counted_of moved_to
        next_is {gate_queue} {gate_cumulative} eg ec =
            let gq : gate_queue ≡ s.gate_queue + gate_arrivals row - at (outflows_of q s row) 0 = omega (arith, k.gate, first_there) in
            let gc : gate_cumulative ≡ s.gate_cumulative + at (outflows_of q s row) 0 = omega (arith, first_there) in
            let ro = g.road h.sums in
            rw (gq, gc, ro, g.ramps, held_is, queue_is, cumulative_is)

        pub rests_are : Remainders q.n q.share state₂
        rests_are = record {
          are = λ i l.
              ap (λ (x : List ℕ). at x i) (kept.rests ∙ h.rests)
              ∙ fill_at (rest_at c) q.n (rest_col state) i l k.rests.long
              ∙ ap (rest_of (at q.share i))
              (sym (ap (λ (x : List ℕ). at x i) (kept.cumulatives ∙ h.cumulatives)
              ∙ fill_at (grown_at c) q.n s.cumulative i l k.steppable.sized.cumulative));
          long = omega (arith, ap length (kept.rests ∙ h.rests), length_fill (rest_at c) q.n (rest_col state), k.rests.long);
        }

-- what a step requires: it is ready on some road with the columns lent
pub record NextLent (n ramps gate : ℕ) (share cell : List ℕ) (arrivals : ℕ) (l : Ledger) (state work : Table) (y : List ℕ) : Type 0 where
  pub road : Road
  pub row : List ℕ
  pub ready : NextRequires (with_demands road n gate road.speed share road.capacity) l state row ramps arrivals cell work
  pub places : length y ≡ n + 1

-- what it gives: the next state, the row of outflows and the remainders
pub record NextGives (q : Road) (s : State) (row : List ℕ) (t : Ledger) (state : Table) (y : List ℕ) : Type 0 where
  pub columns : length state ≡ 4
  pub next : state_in t state ≡ next_of q s row (outflows_of q s row)
  pub outflows : y ≡ outflows_of q s row
  pub rests : Remainders q.n q.share state

-- the facts about the numbers of the ledger
pub record NextTurn (s : State) (first arrivals : ℕ) : Type 0 where
  pub there : first ≤ s.gate_queue
  pub queue : s.gate_queue ≤ most_queue most_steps
  pub arrives : arrivals ≤ most_rate
  pub cumulative : s.gate_cumulative ≤ most_cumulative most_steps
  pub small : first ≤ most_rate
  pub done : s.done < most_steps
  pub total : total_of s ≤ most_total most_steps

pub next_turn : {q : Road} {l : Ledger} {state : Table} {row : List ℕ} {ramps arrivals : ℕ} {cell : List ℕ} {work : Table} {first : ℕ}
    → NextRequires q l state row ramps arrivals cell work → first ≡ min (gate_demand_of q.gate_capacity l.gate_queue) (at (room_col work) 0)
    → NextTurn (state_in l state) first arrivals
unfolding gate_demand_of
next_turn k e =
    let ok = k.steppable.input in
    record {
      there = omega arith;
      queue = omega (arith, ok.state.gate_queue, ok.state.done);
      arrives = omega (arith, k.gate, ok.row.gate);
      cumulative = omega (arith, ok.state.gate_cumulative, ok.state.done);
      small = omega (arith, ok.road.gate);
      done = k.steppable.left;
      total = omega (arith, ok.state.total, ok.state.done);
    }
