-- If a division is exact, its rule rounds nothing: one law for each of the papers' rules. A schedule of the finer study with these numbers obeys
-- the rules, and demand or room decides at each place. So the theorems hold for the papers' model. Assumes nothing.
use Rattle.std.specs.Prelude.{◌≡◌, ◌⊎◌, List, ℕ, ◌+◌, ◌-◌, ◌*◌, ◌≤◌, ◌<◌, min}
use Rattle.std.proofs.Common.{ap, inl, inr, ⊎_elim, le_of_eq, eq-or-lt_of_le, mul-le-mul_left, arith}
use Rattle.std.proofs.Math.Nat.{le_of_mul-le-mul_left}
use Rattle.model.specs.Numbers.{at}
use Rattle.numbers.specs.Tests.{order}
use Rattle.model.specs.Flow.{whole, thousandths_of, demand_of, supply_of, onward_of, entering_of, outflow_of}
use Rattle.flow.specs.FlowLaws.{onward_entering, outflow_le, outflow_fits, outflow_greatest}
use Rattle.model.specs.declared.Road.{Road}
use Rattle.model.specs.declared.State.{State}
use Rattle.model.specs.Flow.{demand_at, room_at, share_at, cumulative_at}
use Rattle.model.specs.Schedules.{ReleasesFit, Obeys}
use Rattle.theory.specs.StepRules.{DecidedOutflows}

-- s thousandths of x, if they are a whole number
exact_thousandths : (s x d : ℕ) → s * x ≡ whole * d → thousandths_of s x ≡ d
unfolding thousandths_of
exact_thousandths s x d e = omega arith

-- demand: the smaller of C and v × held ÷ 1,000
pub exact_demand : (v c h d : ℕ) → v * h ≡ whole * d → demand_of v c h ≡ min c d
unfolding demand_of
exact_demand v c h d e = ap (λ (x : ℕ). min c x) (exact_thousandths v h d e)

-- supply: the smaller of C and w × (J − held) ÷ 1,000
pub exact_supply : (w c j h d : ℕ) → w * (j - h) ≡ whole * d → supply_of w c j h ≡ min c d
unfolding supply_of
exact_supply w c j h d e = ap (λ (x : ℕ). min c x) (exact_thousandths w (j - h) d e)

-- onward total: b × F ÷ 1,000
pub exact_onward : (b F d : ℕ) → b * F ≡ whole * d → onward_of b F ≡ d
unfolding onward_of
exact_onward b F d e = exact_thousandths b F d e

-- entering: b × outflow ÷ 1,000
pub exact_entering : (b F d y x : ℕ) → b * F ≡ whole * d → b * y ≡ whole * x → entering_of b F y ≡ x
exact_entering b F d y x e h =
    omega (arith, onward_entering b F y, exact_onward b F d e, exact_onward b (F + y) (d + x) (omega arith))

-- the papers' outflow, the smaller of the demand and 1,000 × room ÷ b, obeys the rules, and one of the two decides
pub record PaperOutflow (b F room demand y : ℕ) : Type 0 where
  pub le : y ≤ demand
  pub fits : entering_of b F y ≤ room
  pub decides : (y ≡ demand) ⊎ (entering_of b F y ≡ room)

pub exact_paper : (b F room demand y d x z : ℕ) → b * F ≡ whole * d → b * x ≡ whole * room → y ≡ min demand x → b * y ≡ whole * z
    → PaperOutflow b F room demand y
exact_paper b F room demand y d x z e h m w =
    let enters : entering_of b F y ≡ z = exact_entering b F d y z e w in
    let small : y ≤ x = omega arith in
    record {
      le = omega arith;
      fits = omega (arith, mul-le-mul_left b small);
      decides = ⊎_elim
          (λ (o : demand ≤ x). inl (omega arith))
          (λ (o : x < demand).
          let same : y ≡ x = omega arith in
          inr (omega (arith, ap (λ (u : ℕ). b * u) same)))
          (order demand x);
    }

-- an onward total is at most the quotient
onward_below : (b F most : ℕ) → b * F ≤ whole * most → onward_of b F ≤ most
unfolding onward_of thousandths_of
onward_below b F most h = omega arith

-- it is the engine's own outflow if the onward total after the step is exact too
pub exact_outflow : (b F room demand d x z : ℕ) → 0 < b → b * F ≡ whole * d → b * x ≡ whole * room → b * outflow_of b F room demand ≡ whole * z
    → outflow_of b F room demand ≡ min demand x
exact_outflow b F room demand d x z some e h w =
    let y : ℕ = outflow_of b F room demand in
    let m : ℕ = min demand x in
    let enters : entering_of b F y ≡ z = exact_entering b F d y z e w in
    let most : y ≤ x = le_of_mul-le-mul_left {k = b} (omega (arith, outflow_fits b F room demand)) some in
    let small : m ≤ x = omega arith in
    let fits : entering_of b F m ≤ room =
    omega (
      arith,
      onward_entering b F m,
      exact_onward b F d e,
      onward_below b (F + m) (d + room) (omega (arith, mul-le-mul_left b small)),
    ) in
    omega (arith, outflow_le b F room demand, outflow_greatest b F room demand m (omega arith) fits)

-- a row of the papers' outflows: such an outflow at each place before the last, and the demand where nothing goes on
pub record PaperRow (r : Road) (s : State) (row y : List ℕ) : Type 0 where
  pub released : ReleasesFit r s row
  pub place : (p : ℕ) → p < r.n → PaperOutflow (share_at r p) (cumulative_at s p) (room_at r s row p) (demand_at r s p) (at y p)
  pub exit : (p : ℕ) → p ≤ r.n → share_at r p ≡ 0 → at y p ≡ demand_at r s p
  pub last : at y r.n ≡ demand_at r s r.n

-- such a row obeys the rules, and demand or room decides at each place
pub papers_obey : (r : Road) (s : State) (row y : List ℕ) → PaperRow r s row y → Obeys r s row y × DecidedOutflows r s row y
papers_obey r s row y h = (
  record {
    released = h.released;
    demand = λ p l. ⊎_elim
        (λ (e : p ≡ r.n). rw e (le_of_eq h.last))
        (λ (m : p < r.n). (h.place p m).le)
        (eq-or-lt_of_le l);
    enters = λ p l. (h.place p l).fits;
  },
  record { exit = h.exit; place = λ p l. (h.place p l).decides },
)
