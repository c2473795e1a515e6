-- docs/MODEL.md, 'Meter laws': wishes and releases for which rounding matters, worked out beforehand, and what a fixed law grants. Assumes nothing.
use Rattle.std.specs.Prelude.{◌≡◌, refl, Bool, true, false, ◌&&◌, List, [], ◌∷◌, ℕ, ◌*◌, ◌/◌, ◌^◌, ◌-◌, ◌<◌, min, eqb, Float}
use Rattle.std.proofs.Common.{ap, true≢false}
use Rattle.std.specs.Float.{nan, inf, fin, binary64}
use Rattle.std.specs.Float.Ieee.{up, down, round, add, sub, mul, le, of_int, to_bits}
use Rattle.std.specs.Float.Ieee.Exact.{HasValue}
use Rattle.std.specs.Float.Ieee.Fits.{down_pos}
use Rattle.std.specs.Float.Ieee.Nearest.{div_same}
use Rattle.model.specs.declared.Law.{Law}
use Rattle.model.specs.declared.Law.TheVariants as law
use Rattle.model.specs.Numbers.{first_from, first_of}
use Rattle.model.specs.Meter.{alinea_of, demand_capacity_of, wish_of, whole_below, law_finite, law_ok, law_fault_of}

-- n ÷ d as a 64-bit float, rounded once, as a decimal number is read
unfoldable pub number : ℕ → ℕ → Float
number n d = round binary64 false n d

-- the wishes of the three laws
unfoldable pub fixed : Float → Float
fixed rate = wish_of (law.Fixed rate) 0 0 0

unfoldable pub alinea : Float → Float → ℕ → ℕ → Float
alinea gain target last held = wish_of (law.Alinea (record { gain = gain; target = target })) last 0 held

unfoldable pub demand_capacity : Float → Float → Float → ℕ → ℕ → Float
demand_capacity capacity critical least entered held =
    wish_of (law.DemandCapacity (record { capacity = capacity; critical = critical; least = least })) 0 entered held

-- a wish, its 64 bits as worked out beforehand, and its release under a cap
pub record WorkedWish : Type 0 where
  pub wish : Float
  pub bits : ℕ
  pub cap : ℕ
  pub release : ℕ

unfoldable pub worked_wish : Float → ℕ → ℕ → ℕ → WorkedWish
worked_wish w b c r = record { wish = w; bits = b; cap = c; release = r }

unfoldable pub holds : List WorkedWish → Bool
holds [] = true
holds (w ∷ ws) = eqb (to_bits binary64 w.wish) w.bits && (eqb (whole_below w.wish w.cap) w.release && holds ws)

unfoldable pub table : List WorkedWish
table =
    -- ALINEA: 0.1 × (3 − 0) is 0.30000000000000004
    worked_wish (alinea (number 1 10) (number 3 1) 0 0) 0x3fd3_3333_3333_3334 1000000 0
    -- 0.3 is a little less as a float, and 0.3 × 10 is 3 again; 0.29 × 100 is 28.999999999999996
    ∷ worked_wish (alinea (number 3 10) (number 10 1) 0 0) 0x4008_0000_0000_0000 1000000 3
    ∷ worked_wish (alinea (number 29 100) (number 100 1) 0 0) 0x403c_ffff_ffff_ffff 1000000 28
    -- subtraction comes first: 0.07 × (2000 − 1500) is 35; 0.07 × 2000 − 0.07 × 1500 would be 34.999999999999986
    ∷ worked_wish (alinea (number 7 100) (number 2000 1) 0 1500) 0x4041_8000_0000_0000 1000000 35
    -- the product is rounded before the sum: 100 + 0.05 × (4000 − 5800) is 10; rounded once, it would be 9.999999999999995
    ∷ worked_wish (alinea (number 5 100) (number 4000 1) 100 5800) 0x4024_0000_0000_0000 1000000 10
    -- a tie rounds to the even neighbour: 1 + 2 ^ -53 is 1, and 1 + 3 × 2 ^ -53 is 1.0000000000000004
    ∷ worked_wish (alinea (number 1 (2 ^ 53)) (number 1 1) 1 0) 0x3ff0_0000_0000_0000 1000000 1
    ∷ worked_wish (alinea (number 1 (2 ^ 53)) (number 3 1) 1 0) 0x3ff0_0000_0000_0002 1000000 1
    -- 3 + (1 − 2 ^ -52) is 4
    ∷ worked_wish (alinea (number (2 ^ 52 - 1) (2 ^ 52)) (number 1 1) 3 0) 0x4010_0000_0000_0000 1000000 4
    -- the subtraction is rounded too: 10 ^ 16 − 1 is 10 ^ 16
    ∷ worked_wish (alinea (number 1 1) (number (10 ^ 16) 1) 0 1) 0x4341_c379_37e0_8000 1000000 1000000
    -- a gain of 10 ^ 308 gives an infinity: positive infinity gives the cap, negative infinity gives 0
    ∷ worked_wish (alinea (number (10 ^ 308) 1) (number 1000 1) 0 0) 0x7ff0_0000_0000_0000 1234 1234
    ∷ worked_wish (alinea (number (10 ^ 308) 1) (number 0 1) 0 1000) 0xfff0_0000_0000_0000 1234 0
    -- the smallest gain, 2 ^ -1074: times 0.5 it is 0, times 1.5 it is 2 ^ -1073
    ∷ worked_wish (alinea (number 1 (2 ^ 1074)) (number 1 2) 0 0) 0x0000_0000_0000_0000 1000000 0
    ∷ worked_wish (alinea (number 1 (2 ^ 1074)) (number 3 2) 0 0) 0x0000_0000_0000_0002 1000000 0
    -- a cell at its target keeps its last release
    ∷ worked_wish (alinea (number 70 1) (number 4000 1) 300 4000) 0x4072_c000_0000_0000 1000000 300
    -- a cell far above its target: 100 + 0.07 × (4000 − 6000) is −40
    ∷ worked_wish (alinea (number 7 100) (number 4000 1) 100 6000) 0xc044_0000_0000_0000 1000000 0
    -- demand-capacity: at the critical count 1800.5 − 300; one above it, the least rate
    ∷ worked_wish (demand_capacity (number 18005 10) (number 40 1) (number 803 4) 300 40) 0x4097_7200_0000_0000 1000000 1500
    ∷ worked_wish (demand_capacity (number 18005 10) (number 40 1) (number 803 4) 300 41) 0x4069_1800_0000_0000 1000000 200
    -- a critical count of 39.99999999999999 is below 40
    ∷ worked_wish (demand_capacity (number 18005 10) (number (40 * 2 ^ 47 - 1) (2 ^ 47)) (number 803 4) 300 40) 0x4069_1800_0000_0000 1000000 200
    -- 1000000.1 − 1000000 is 0.09999999997671694
    ∷ worked_wish (demand_capacity (number 10000001 10) (number 40 1) (number 0 1) 1000000 0) 0x3fb9_9999_9980_0000 1000000 0
    -- more entered than the capacity: 100 − 300 gives 0
    ∷ worked_wish (demand_capacity (number 100 1) (number 40 1) (number 0 1) 300 0) 0xc069_0000_0000_0000 1000000 0
    -- fixed: −0.0 gives 0; 299.99999999999994 gives 299
    ∷ worked_wish (fixed (round binary64 true 0 1)) 0x8000_0000_0000_0000 1000000 0
    ∷ worked_wish (fixed (number (300 * 2 ^ 44 - 1) (2 ^ 44))) 0x4072_bfff_ffff_ffff 1000000 299
    -- the cap applies to 250 and to 10 ^ 300
    ∷ worked_wish (fixed (number 250 1)) 0x406f_4000_0000_0000 200 200
    ∷ worked_wish (fixed (number (10 ^ 300) 1)) 0x7e37_e43c_8800_759c 1000000 1000000
    -- the greatest cap of 32 bits: 4294967295.5 reaches it, 4294967294.9999995 does not
    ∷ worked_wish (fixed (number 8589934591 2)) 0x41ef_ffff_fff0_0000 4294967295 4294967295
    ∷ worked_wish (fixed (number (4294967295 * 2 ^ 21 - 1) (2 ^ 21))) 0x41ef_ffff_ffdf_ffff 4294967295 4294967294
    ∷ []

pub worked_wishes : holds table ≡ true
unfolding holds table worked_wish number fixed alinea demand_capacity wish_of alinea_of demand_capacity_of whole_below round add sub mul le of_int to_bits
worked_wishes = refl

-- a fixed law with rate a ÷ c, finite and not negative, grants a ÷ c rounded down in every step, at most the cap
pub fixed_grants : (rate : Float) (a c cap last entered held : ℕ) → 0 < c → HasValue rate false a c
    → whole_below (wish_of (law.Fixed rate) last entered held) cap ≡ min (a / c) cap
unfolding whole_below wish_of
fixed_grants nan a c cap last entered held some h = absurd h
fixed_grants (inf s) a c cap last entered held some h = absurd h
fixed_grants (fin true m e) a c cap last entered held some h = absurd (true≢false h.0)
fixed_grants (fin false m e) a c cap last entered held some h =
    ap (λ (x : ℕ). min x cap) (div_same (m * up e) (down e) a c (down_pos e) some h.1)

-- 16: the first law is not a number, the second's target is infinite, the third's numbers are finite
unfoldable pub laws : List Law
laws =
    law.Fixed nan
    ∷ law.Alinea (record { gain = number 1 10; target = inf true })
    ∷ law.DemandCapacity (record { capacity = number 1800 1; critical = number 40 1; least = number 200 1 })
    ∷ []

-- with ramps at all three cells, at the last two, and at the last; and on a road of one cell: laws past it are ignored
pub fault_cells : (law_fault_of laws (1 ∷ 1 ∷ 1 ∷ []) 3 ≡ 1)
    × ((law_fault_of laws (0 ∷ 1 ∷ 1 ∷ []) 3 ≡ 2) × ((law_fault_of laws (0 ∷ 0 ∷ 1 ∷ []) 3 ≡ 0) × (law_fault_of laws (0 ∷ 1 ∷ 1 ∷ []) 1 ≡ 0)))
unfolding laws number round law_fault_of law_ok law_finite first_from first_of
fault_cells = (refl, (refl, (refl, refl)))
