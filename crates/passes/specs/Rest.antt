-- The remainder of b × F by 1,000, kept from step to step: it gives outflow, entering and the next remainder in numbers below 2 ^ 32. Assumes nothing.
use Rattle.std.specs.Prelude.{◌≡◌, List, ℕ, zero, suc, ◌+◌, ◌-◌, ◌*◌, ◌/◌, ◌%◌, ◌^◌, ◌≤◌, ◌<◌, min, length}
use Rattle.std.proofs.Common.{sym, ap, subst, ◌∙◌, mul-le-mul, mul-add, mul-suc, mul_comm, zero-mul, div-add-mod', mod-lt, le_refl, arith}
use Rattle.model.specs.Numbers.{at}
use Rattle.model.specs.Flow.{whole, thousandths_of, onward_of, entering_of, outflow_of}
use Rattle.flow.specs.FlowLaws.{outflow_le, outflow_greatest, outflow_unique, outflow_whole, entering_mono, entering_whole, onward_entering, onward_whole}
use Rattle.passes.specs.Tables.{Table, cumulative_col, rest_col}

-- the remainder of b × F by 1,000: b × F less 1,000 times the onward total
unfoldable pub rest_of : ℕ → ℕ → ℕ
rest_of b F = b * F - whole * onward_of b F

-- the same for columns
abbrev pub rest_in : List ℕ → List ℕ → ℕ → ℕ
rest_in share cumulative i = rest_of (at share i) (at cumulative i)

-- a state's table has the remainders of its first n cells
pub record Remainders (n : ℕ) (share : List ℕ) (state : Table) : Type 0 where
  pub are : (i : ℕ) → i < n → at (rest_col state) i ≡ rest_of (at share i) (at (cumulative_col state) i)
  pub long : n ≤ length (rest_col state)

-- the code's remainder
pub rest_found : (b F x : ℕ) → x ≡ b * F % whole → x ≡ rest_of b F
unfolding rest_of onward_of thousandths_of
rest_found b F x e = omega arith

-- the remainder is below 1,000, and with 1,000 times the onward total it is b × F
pub rest_small : (b F : ℕ) → rest_of b F ≤ 999
unfolding rest_of onward_of thousandths_of
rest_small b F = omega arith

pub rest_onward : (b F : ℕ) → rest_of b F + whole * onward_of b F ≡ b * F
unfolding rest_of onward_of thousandths_of
rest_onward b F = omega arith

-- with share 1,000 the remainder is 0
pub rest_whole : (F : ℕ) → rest_of whole F ≡ 0
rest_whole F = omega (arith, rest_onward whole F, onward_whole F)

-- it is the only number below 1,000 that together with some thousands gives b × F
pub rest_is : (b F x k : ℕ) → x ≤ 999 → x + whole * k ≡ b * F → (x ≡ rest_of b F) × (k ≡ onward_of b F)
unfolding rest_of onward_of thousandths_of
rest_is b F x k h e = (omega arith, omega arith)

-- the remainder and the share of an outflow together: 1,000 times what enters, and the next remainder
pub rest_after : (b F y : ℕ) → rest_of b F + b * y ≡ whole * entering_of b F y + rest_of b (F + y)
rest_after b F y = omega (arith, rest_onward b F, rest_onward b (F + y), onward_entering b F y, mul-add b F y)

-- so one division gives what enters
pub entering_by_rest : (b F y : ℕ) → (rest_of b F + b * y) / whole ≡ entering_of b F y
entering_by_rest b F y = omega (arith, rest_after b F y, rest_small b (F + y))

-- the sum fits 32 bits
pub product_most : (b y : ℕ) → b ≤ whole → y ≤ 1000000 → b * y ≤ 1000000000
product_most b y h l = omega (arith, mul-le-mul h l)

-- what a place sends in a step, computed from its share, remainder, room and demand
pub record OutflowByRest (b F room demand outflow onward rest : ℕ) : Type 0 where
  pub outflows : outflow ≡ outflow_of b F room demand
  pub enters : onward ≡ entering_of b F outflow
  pub rests : rest ≡ rest_of b (F + outflow)

module _ {b F room demand r : ℕ} (er : r ≡ rest_of b F) where
  -- the demand fits the room
  pub sends_all : {all onward : ℕ} → all ≡ r + b * demand → onward ≡ all / whole → onward ≤ room
      → OutflowByRest b F room demand demand onward (all % whole)
  sends_all {all} {onward} ea eo l =
      let e : onward ≡ entering_of b F demand = omega (arith, entering_by_rest b F demand) in
      record {
        outflows = omega (arith, outflow_le b F room demand, outflow_greatest b F room demand demand (le_refl demand) (omega arith));
        enters = e;
        rests = omega (arith, rest_after b F demand);
      }

  -- the demand does not fit: exactly the room enters
  pub sends_room : {all onward y m : ℕ} → 0 < b → all ≡ r + b * demand → onward ≡ all / whole → room < onward
      → y ≡ (whole * room + 999 - r) / b → m ≡ (whole * room + 999 - r) % b → b ≤ whole → OutflowByRest b F room demand y room (999 - m)
  sends_room {all} {onward} {y} {m} some ea eo l ey em h =
      let e : onward ≡ entering_of b F demand = omega (arith, entering_by_rest b F demand) in
      let top : ℕ = whole * room + 999 - r in
      let small = rest_small b F in
      let parts : y * b + m ≡ top = ap (λ (z : ℕ). z * b + m) ey ∙ ap (λ (z : ℕ). top / b * b + z) em ∙ div-add-mod' top b in
      let less : m < b = subst (λ (z : ℕ). z < b) (sym em) (mod-lt top some) in
      let comm = mul_comm y b in
      let fits : entering_of b F y ≤ room = omega (arith, rest_after b F y) in
      let full : room ≤ entering_of b F y = omega (arith, rest_after b F y, rest_small b (F + y)) in
      let below : demand ≤ y → ⊥ = λ k. omega (arith, entering_mono b F demand y k) in
      record {
        outflows = outflow_unique b F room demand y (omega arith) fits
            (λ z above _ k. omega (arith, entering_mono b F (suc y) z above, rest_after b F (suc y), rest_small b (F + suc y), mul-suc b y));
        enters = omega arith;
        rests = omega (arith, rest_after b F y);
      }

-- with share 1,000 a place sends the smaller of demand and room, and the remainder is 0
pub sends_whole : {F room demand y : ℕ} → y ≡ min demand room → OutflowByRest whole F room demand y y 0
sends_whole {F} {room} {demand} {y} e = record {
  outflows = omega (arith, outflow_whole F room demand);
  enters = omega (arith, entering_whole F y);
  rests = omega (arith, rest_whole (F + y));
}

-- if more would enter than the room, the share is not 0
pub some_share : (b r demand room : ℕ) → r ≤ 999 → room < (r + b * demand) / whole → 0 < b
some_share zero r demand room h l = absurd (omega (arith, zero-mul demand))
some_share (suc b) r demand room h l = omega arith

-- and the room is within the limit of a rate
pub room_small : (b r demand room : ℕ) → b ≤ whole → demand ≤ 1000000 → r ≤ 999 → room < (r + b * demand) / whole → room ≤ 1000000
room_small b r demand room h d small l = omega (arith, product_most b demand h d)

-- the product of a share and an F fits 64 bits
pub product_fits : (b F : ℕ) → b < 2 ^ 16 → F < 2 ^ 32 → b * F < 2 ^ 64
product_fits b F h l = let p : b ≤ 65535 = omega arith in let q : F ≤ 4294967295 = omega arith in omega (arith, mul-le-mul p q)
