-- A step keeps a state behind another. Assumes nothing.
use Rattle.std.specs.Prelude.{List}
use Prim.Native.Nat.{ℕ}
use Rattle.model.specs.declared.Road.{Road}
use Rattle.model.specs.declared.State.{State}
use Rattle.model.specs.Move.{next_of}
use Rattle.model.specs.Schedules.{Obeys, Greatest}
use Rattle.theory.specs.Roads.{ComparedRoads, alike_back}
use Rattle.theory.specs.TwoStates.{Level}
use Rattle.theory.proofs.TwoStates.{level_alike}
use Rattle.theory.specs.Behind.{Behind}
use Rattle.theory.proofs.Behind.{step_level, step_ramp_time, step_total}

-- a step with the greatest outflows on one side and any row that obeys the rules on the other, on roads with r's cells and shares
pub step_behind : (r a b : Road) (s t : State) (row y z : List ℕ) → ComparedRoads r a b → Obeys b s row y → Greatest b s row y → Obeys a t row z
    → Behind r s t → Behind r (next_of b s row y) (next_of a t row z)
step_behind r a b s t row y z c own most ok before =
    let h : Level a s t = level_alike r a s t c.alike before.level in
    record {
      level = level_alike a r (next_of b s row y) (next_of a t row z) (alike_back r a c.alike)
          (step_level a b s t row y z c.rival c.engine c.wider own most ok h);
      ramp_time = step_ramp_time a b s t row y z c.rival c.engine c.wider own most ok h before.ramp_time;
      total = step_total a b s t row y z c.rival c.engine c.wider own most ok h before.total;
    }
