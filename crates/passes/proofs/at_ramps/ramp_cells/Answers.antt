-- A turn puts a cell with a ramp at the end of the list, and skips any other. Assumes nothing.
use Rattle.std.proofs.Common.{◌≡◌, refl, Bool, true, false, List, ℕ, eqb, eqb-true, length, set, ◌+◌, ◌<◌, arith}
use Rattle.std.proofs.lemmas.Bool.{eqb-false}
use Rattle.std.proofs.lemmas.Grind.{common_steps}
use Rattle.model.specs.Numbers.{at}
use Rattle.passes.specs.Supplies.{NoRamp}
use Rattle.passes.specs.RampList.{Listed, AtRamps, listed_none, listed_skip, listed_put, ramps_put, listed_same, ramps_same}
use Rattle.passes.proofs.at_ramps.ramp_cells.Goals as goal

-- the list after a turn, whether the cell at i has a ramp or not
module _ (ramp : List ℕ) {cell cell' : List ℕ} {count count' i : ℕ} (h : Listed (NoRamp ramp) i count cell) (room : count < length cell)
    (put : at ramp i ≡ 1 → (cell' ≡ set cell count i) × (count' ≡ count + 1)) (skip : NoRamp ramp i → (cell' ≡ cell) × (count' ≡ count)) where
  turn-listed : Listed (NoRamp ramp) (i + 1) count' cell'
  turn-listed = go (eqb (at ramp i) 1) refl
    where
      go : (b : Bool) → eqb (at ramp i) 1 ≡ b → Listed (NoRamp ramp) (i + 1) count' cell'
      go true e = let p = put (eqb-true (at ramp i) 1 e) in listed_same p.0 p.1 (listed_put h room)
      go false e = let n = eqb-false (at ramp i) 1 e in let p = skip n in listed_same p.0 p.1 (listed_skip h n)

  turn-ramps : AtRamps ramp count cell → AtRamps ramp count' cell'
  turn-ramps f = go (eqb (at ramp i) 1) refl
    where
      go : (b : Bool) → eqb (at ramp i) 1 ≡ b → AtRamps ramp count' cell'
      go true e = let y = eqb-true (at ramp i) 1 e in let p = put y in ramps_same ramp p.0 p.1 (ramps_put h room ramp y f)
      go false e = let p = skip (eqb-false (at ramp i) 1 e) in ramps_same ramp p.0 p.1 f

pub loop-i-init : goal.loop-i-init
loop-i-init c = record { long = c.requires.1; within = omega arith; listed = listed_none; ramps = λ k l. absurd (omega arith) }

pub loop-i-preserved : goal.loop-i-preserved
loop-i-preserved c =
    let h = c.loop-i.invariant in
    let room : c.loop-i.count < length c.loop-i.cell = omega (arith, h.listed.most) in
    record {
      long = grind (arith, common_steps);
      within = omega arith;
      listed = turn-listed c.args.ramp.now h.listed room (λ y. (grind arith, grind arith)) (λ n. (grind arith, grind arith));
      ramps = turn-ramps c.args.ramp.now h.listed room (λ y. (grind arith, grind arith)) (λ n. (grind arith, grind arith)) h.ramps;
    }
