-- The outflow by one division. The engine divides, and the course narrows the number down by halves. Both give the same number for
-- every demand, share, F and room, within the limits and beyond them. Assumes nothing.
use Rattle.std.specs.Prelude.{ℕ, zero, suc, ◌+◌, ◌-◌, ◌*◌, ◌/◌, min, ◌≤◌, ◌<◌, ◌≡◌, refl}
use Rattle.std.proofs.Common.{arith}
use Rattle.model.specs.Flow.{whole, onward_of, thousandths_of, entering_of, outflow_of}
use Rattle.flow.specs.FlowLaws.{onward_within, within_onward, onward_entering, outflow_unique, outflow_exit}

-- the outflow by one division, as on paper: the smaller of the demand and (1,000 × (onward total + room) + 999) ÷ share rounded down,
-- less F (never below 0); with share 0, the demand
unfoldable pub divided_of : ℕ → ℕ → ℕ → ℕ → ℕ
divided_of zero cumulative room demand = demand
divided_of (suc b) cumulative room demand =
    let share = suc b in
    min demand ((whole * (onward_of share cumulative + room) + 999) / share - cumulative)

-- the table of examples/classroom.md
on_paper : (divided_of 500 0 50000 40000 ≡ 40000)
    × ((divided_of 500 720000 17500 40000 ≡ 35001) × ((divided_of 750 934 700 1283 ≡ 933) × (divided_of 750 0 0 1283 ≡ 1)))
unfolding divided_of onward_of thousandths_of
on_paper = (refl, (refl, (refl, refl)))

-- this number is the outflow: the greatest that the demand and the room allow
pub divided_is_greatest : (share F room demand : ℕ) → divided_of share F room demand ≡ outflow_of share F room demand
unfolding divided_of
divided_is_greatest zero F room demand = omega (arith, outflow_exit F room demand)
divided_is_greatest (suc b) F room demand =
    let share : ℕ = suc b in
    let some : 0 < share = omega arith in
    let most : ℕ = onward_of share F + room in
    let r : ℕ = divided_of share F room demand in
    let within : F + r ≤ (whole * most + 999) / share = omega (arith, within_onward share F most some (omega arith)) in
    let fits : entering_of share F r ≤ room = omega (arith, onward_within share (F + r) most some within, onward_entering share F r) in
    outflow_unique share F room demand r (omega arith) fits
    (λ y above below enters. omega (arith, within_onward share (F + y) most some (omega (arith, onward_entering share F y))))

-- the same for a function that computes the formula with a share other than 0
pub line_is_greatest : (share F room demand most r : ℕ) → 0 < share → most ≡ onward_of share F + room
    → r ≡ min demand ((whole * most + 999) / share - F) → r ≡ outflow_of share F room demand
unfolding divided_of
line_is_greatest zero F room demand most r some m e = absurd (omega arith)
line_is_greatest (suc b) F room demand most r some m e =
    let line : min demand ((whole * most + 999) / suc b - F) ≡ divided_of (suc b) F room demand = rw m in
    omega (arith, divided_is_greatest (suc b) F room demand)
