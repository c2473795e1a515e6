-- A step from a row's bytes: its fault, or its outflows, move and count. Assumes nothing.
use Rattle.std.specs.Prelude.{◌≡◌, refl, Bool, true, false, List, ℕ, ◌+◌, ◌*◌, ◌<◌, length, set}
use Rattle.std.proofs.Math.Path.{sym, ap}
use Rattle.std.proofs.Common.{◌∙◌}
use native.Mathlib.Omega.{arith}
use Rattle.model.specs.Numbers.{fill_of}
use Rattle.numbers.specs.RowsLaws.{length_fill}
use Rattle.model.specs.Refusals.{FaultAnswer, fault}
use Rattle.model.specs.Road.{most_steps}
use Rattle.model.specs.declared.Road.{Road}
use Rattle.model.specs.declared.State.{State}
use Rattle.outflows.specs.declared.Ledger.{Ledger}
use Rattle.passes.specs.declared.columns.Size.{Size}
use Rattle.passes.specs.Tables.{Table, road_in, state_in, cell_col, demand_col, LongColumns, StoredDemands, store_demands}
use Rattle.limits.specs.LimitsLaws.{InputOk}
use Rattle.model.specs.Record.{number_of, version_of, row_start, record_row}
use Rattle.fields.specs.FieldsLaws.{HoldsRow, row_at_lem}
use Rattle.model.specs.Flow.{gate_arrivals, arrivals_at, release_at}
use Rattle.theory.specs.RulesLaws.{Sized}
use Rattle.model.specs.Schedules.{outflows_of}
use Rattle.model.specs.Move.{next_of}
use Rattle.model.specs.Stepping.{releases_of}
use Rattle.theory.specs.StepLaws.{number_of_lem, releases_fit, fit_releases}
use Rattle.passes.specs.Rest.{Remainders}
use Rattle.passes.specs.Supplies.{NoRamp, demand_in}
use Rattle.passes.specs.RampList.{Listed}
use Rattle.passes.specs.TakeReleases.{arrive_in, give_in}
use Rattle.passes.specs.ReleasesFit.{FitRequires, FitAnswer}
use Rattle.passes.specs.Next.{NextRequires, demands_are, NextGives}

-- what a loop over the steps keeps for its passes: the cells with a ramp in a list, the remainders of b × F, and columns with an entry for each cell
pub record Arrays (r : Road) (ramps : ℕ) (cell : List ℕ) (state work : Table) : Type 0 where
  pub listed : Listed (NoRamp r.ramp) r.n ramps cell
  pub columns : length state ≡ 4
  pub rests : Remainders r.n r.share state
  pub long : LongColumns r.n work

-- what a step requires: everything is within the limits; a step is left; the row is in the bytes; the arrays are as above; y has room for the outflows
pub record StepRequires (bytes : List ℕ) (k : ℕ) (q : Road) (ramps : ℕ) (cell : List ℕ) (l : Ledger) (state work : Table) (y : List ℕ) : Type 0 where
  pub input : InputOk q (state_in l state) (record_row bytes q.n k)
  pub sized : Sized q (state_in l state)
  pub left : l.done < most_steps
  pub holds : HoldsRow bytes q.n k
  pub arrays : Arrays q ramps cell state work
  pub places : length y ≡ q.n + 1

-- the same for some road with the columns lent
pub record StepLent (bytes : List ℕ) (k : ℕ) (z : Size) (rates sizes : Table) (l : Ledger) (state work : Table) (y : List ℕ) : Type 0 where
  pub road : Road
  pub ready : StepRequires bytes k (road_in road z rates sizes) z.ramps (cell_col sizes) l state work y

-- what a step gives: the fault of its releases. With a fault, state and row are unchanged; without one, the next state, its outflows and the arrays
pub record StepGives (bytes : List ℕ) (k : ℕ) (q : Road) (ramps : ℕ) (cell : List ℕ) (l₀ : Ledger) (state₀ : Table) (y₀ : List ℕ)
    (f : FaultAnswer) (l : Ledger) (state work : Table) (y : List ℕ) : Type 0 where
  pub found : f ≡ releases_of q (state_in l₀ state₀) (record_row bytes q.n k)
  pub same : (f.number ≡ 0 → ⊥) → (state_in l state ≡ state_in l₀ state₀) × (y ≡ y₀)
  pub next : f.number ≡ 0 → state_in l state ≡ next_of q (state_in l₀ state₀) (record_row bytes q.n k) (outflows_of q (state_in l₀ state₀) (record_row bytes q.n k))
  pub outflows : f.number ≡ 0 → y ≡ outflows_of q (state_in l₀ state₀) (record_row bytes q.n k)
  pub arrays : f.number ≡ 0 → Arrays q ramps cell state work

-- a row's numbers at their bytes
module _ (bytes : List ℕ) (n k start : ℕ) (e : start ≡ row_start (version_of bytes) n k) where
  pub gate_row : number_of bytes start 4 ≡ gate_arrivals (record_row bytes n k)
  gate_row =
      ap (λ (p : ℕ). number_of bytes p 4) (let g : start ≡ row_start (version_of bytes) n k + 4 * 0 = omega arith in g) ∙ sym (row_at_lem bytes n k 0 (omega arith))

  arrive_row : (i : ℕ) → i < n → arrive_in bytes start i ≡ arrivals_at (record_row bytes n k) i
  unfolding arrive_in
  arrive_row i l =
      ap (λ (p : ℕ). number_of bytes p 4) (let g : start + 4 + 8 * i ≡ row_start (version_of bytes) n k + 4 * (2 * i + 1) = omega arith in g)
      ∙ sym (row_at_lem bytes n k (2 * i + 1) (omega arith))

  give_row : (i : ℕ) → i < n → give_in bytes start i ≡ release_at (record_row bytes n k) i
  unfolding give_in
  give_row i l =
      ap (λ (p : ℕ). number_of bytes p 4) (let g : start + 4 + 8 * i + 4 ≡ row_start (version_of bytes) n k + 4 * (2 * i + 2) = omega arith in g)
      ∙ sym (row_at_lem bytes n k (2 * i + 2) (omega arith))

module _ {bytes : List ℕ} {k : ℕ} {q : Road} {ramps : ℕ} {cell : List ℕ} {l₀ : Ledger} {state₀ work₀ : Table} {y₀ : List ℕ}
    (h : StepRequires bytes k q ramps cell l₀ state₀ work₀ y₀) where
  abbrev s : State
  s = state_in l₀ state₀

  abbrev row : List ℕ
  row = record_row bytes q.n k

  -- the test of the releases has no further precondition
  pub fit_ready : {start : ℕ} → start ≡ row_start (version_of bytes) q.n k → FitRequires bytes start q s row ramps cell work₀
  fit_ready {start} e = record {
    input = h.input;
    sized = h.sized;
    listed = h.arrays.listed;
    held = omega (arith, h.holds.row);
    arrivals = arrive_row bytes q.n k start e;
    releases = give_row bytes q.n k start e;
    long = h.arrays.long;
  }

  module _ {ok : Bool} {work : Table} (f : FitAnswer ok q s row ramps cell work) where
    -- releases that don't fit have a fault
    some_fault : {x : FaultAnswer} → ok ≡ false → x ≡ releases_of q s row → x.number ≡ 0 → ⊥
    some_fault z e n = f.no z (releases_fit q s row (sym (number_of_lem e) ∙ n))

    pub gives_fault : {x : FaultAnswer} → ok ≡ false → x ≡ releases_of q s row → StepGives bytes k q ramps cell l₀ state₀ y₀ x l₀ state₀ work y₀
    gives_fault z e = record {
      found = e;
      same = λ _. (refl, refl);
      next = λ n. absurd (some_fault z e n);
      outflows = λ n. absurd (some_fault z e n);
      arrays = λ n. absurd (some_fault z e n);
    }

    -- otherwise, with the demands, the step is ready
    module _ {demand : List ℕ} (ed : demand ≡ fill_of (demand_in q.speed q.capacity s.held) q.n (demand_col work)) (fits : ok ≡ true) where
      stored : StoredDemands work (set work 3 demand) demand
      stored = store_demands work (f.yes fits).long.columns demand

      pub ready : {arrivals : ℕ} → arrivals ≡ gate_arrivals row → NextRequires q l₀ state₀ row ramps arrivals cell (set work 3 demand)
      ready e = record {
        columns = h.arrays.columns;
        steppable = record { input = h.input; sized = h.sized; released = (f.yes fits).released; left = h.left };
        listed = h.arrays.listed;
        releases = rw stored.releases (f.yes fits).releases;
        waits = rw stored.waits (f.yes fits).waits;
        rooms = rw stored.rooms (f.yes fits).rooms;
        rests = h.arrays.rests;
        demands = demands_are q s (demand_col work) (f.yes fits).long.demand (stored.demands ∙ ed);
        gate = e;
      }

      pub gives_step : {x : FaultAnswer} {t : Ledger} {state : Table} {y : List ℕ} → x ≡ fault 0 0 → NextGives q s row t state y
          → StepGives bytes k q ramps cell l₀ state₀ y₀ x t state (set work 3 demand) y
      gives_step e st =
          let w = (f.yes fits).long in
          record {
            found = e ∙ sym (fit_releases q s row (f.yes fits).released);
            same = λ n. absurd (n (number_of_lem e));
            next = λ _. st.next;
            outflows = λ _. st.outflows;
            arrays = λ _. record {
              listed = h.arrays.listed;
              columns = st.columns;
              rests = st.rests;
              long = record {
                columns = stored.columns;
                room = omega (arith, ap length stored.rooms, w.room);
                release = omega (arith, ap length stored.releases, w.release);
                waiting = omega (arith, ap length stored.waits, w.waiting);
                demand =
                    omega (arith, ap length (stored.demands ∙ ed), length_fill (demand_in q.speed q.capacity s.held) q.n (demand_col work), w.demand);
                came = omega (arith, ap length stored.came, w.came);
              };
            };
          }
