-- The arrays of the passes, on the road of a study's step and before its first step. Assumes nothing.
use Rattle.std.specs.Prelude.{◌≡◌, refl, List, [], ◌∷◌, ℕ, ◌≤◌, length, replicate}
use Rattle.std.proofs.Common.{sym, subst, arith}
use Rattle.std.proofs.lemmas.List.{length-replicate}
use Rattle.model.specs.Numbers.{fill_of}
use Rattle.numbers.specs.RowsLaws.{fill_at, length_fill}
use Rattle.model.specs.declared.Road.{Road}
use Rattle.model.specs.declared.State.{State}
use Rattle.model.specs.Road.{zeros}
use Rattle.model.specs.Schedules.{Study}
use Rattle.theory.specs.OpenRoad.{OnRoad}
use Rattle.theory.specs.RunsLaws.{StudyOk}
use Rattle.passes.specs.Tables.{Table}
use Rattle.passes.specs.Rest.{rest_in}
use Rattle.passes.specs.Supplies.{NoRamp}
use Rattle.passes.specs.RampList.{Listed}
use Rattle.passes.specs.Step.{Arrays}

-- the tables before the first step: the remainders of b × F are computed, and what the passes fill is empty
abbrev pub start_table : Road → State → Table
start_table r s = s.held ∷ s.queue ∷ s.cumulative ∷ fill_of (rest_in r.share s.cumulative) r.n zeros ∷ []

abbrev pub empty_table : Table
empty_table = replicate 5 (replicate 65 0)

pub arrays_start : {a : Study} (s : State) {ramps : ℕ} {cell : List ℕ} {state : Table} → StudyOk a → Listed (NoRamp a.road.ramp) a.road.n ramps cell
    → state ≡ start_table a.road s → Arrays a.road ramps cell state empty_table
arrays_start {a} s ok listed e =
    let cells = ok.road.cells in
    let f = rest_in a.road.share s.cumulative in
    let short : a.road.n ≤ length zeros = omega (arith, length-replicate {A = ℕ} 64 0) in
    let long : a.road.n ≤ length (replicate {A = ℕ} 65 0) = omega (arith, length-replicate {A = ℕ} 65 0) in
    rw e (record {
      listed = listed;
      columns = refl;
      rests = record { are = λ i l. fill_at f a.road.n zeros i l short; long = omega (arith, length_fill f a.road.n zeros, short) };
      long = record { columns = refl; room = long; release = long; waiting = long; demand = long; came = long };
    })

module _ {a : Study} {q : Road} (on : OnRoad a q) {ramps : ℕ} {cell : List ℕ} {state work : Table} where
  -- the road of a step differs only in its capacities
  pub arrays_on : Arrays a.road ramps cell state work → Arrays q ramps cell state work
  arrays_on h =
      let w = subst (λ (x : Road). Arrays x ramps cell state work) (sym on.other) h in
      record { listed = w.listed; columns = w.columns; rests = record { are = w.rests.are; long = w.rests.long }; long = w.long }

  pub arrays_off : Arrays q ramps cell state work → Arrays a.road ramps cell state work
  arrays_off h = subst (λ (x : Road). Arrays x ramps cell state work) on.other (record {
    listed = h.listed;
    columns = h.columns;
    rests = record { are = h.rests.are; long = h.rests.long };
    long = h.long;
  })
