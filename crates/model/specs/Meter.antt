-- docs/MODEL.md, 'Meter laws': the wish of a law, the release that it gives, and refusal 16. Assumes nothing.
use Rattle.std.specs.Prelude.{Bool, false, cond, ◌&&◌, ◌||◌, List, ℕ, ◌+◌, ◌*◌, ◌/◌, min, eqb, pos, get_or, Float}
use Rattle.std.specs.Float.{nan, inf, fin, binary64}
use Rattle.std.specs.Float.Ieee.{add, sub, mul, le, of_int, up, down}
use Rattle.std.specs.Float.Ieee.Scale.{finite}
use Rattle.model.specs.declared.Alinea.{Alinea}
use Rattle.model.specs.declared.DemandCapacity.{DemandCapacity}
use Rattle.model.specs.declared.Law.{Law}
use Rattle.model.specs.declared.Law.TheVariants as law
use Rattle.model.specs.Numbers.{at, unless_first}

-- a count as a 64-bit float
abbrev pub count : ℕ → Float
count n = of_int binary64 (pos n)

-- ALINEA's wish is last release + gain × (target − held): subtraction comes first, then product, then sum, each rounded once
unfoldable pub alinea_of : Alinea → ℕ → ℕ → Float
alinea_of p last held = add binary64 (count last) (mul binary64 p.gain (sub binary64 p.target (count held)))

-- demand-capacity's wish is capacity less what entered the cell from upstream in the last step if held is at most critical, else the least rate
unfoldable pub demand_capacity_of : DemandCapacity → ℕ → ℕ → Float
demand_capacity_of p entered held = cond (le (count held) p.critical) (sub binary64 p.capacity (count entered)) p.least

-- a ramp follows a fixed rate, ALINEA or demand-capacity; the fixed law's wish is its rate
unfoldable pub wish_of : Law → ℕ → ℕ → ℕ → Float
wish_of (law.Fixed rate) last entered held = rate
wish_of (law.Alinea p) last entered held = alinea_of p last held
wish_of (law.DemandCapacity p) last entered held = demand_capacity_of p entered held

-- the release is the greatest whole number not above the wish, at most the cap
unfoldable pub whole_below : Float → ℕ → ℕ
-- it is 0 if the wish is not a number
whole_below nan cap = 0
-- it is 0 for a negative wish; positive infinity gives the cap
whole_below (inf negative) cap = cond negative 0 cap
-- a finite wish is m × 2 ^ e, and 2 ^ e is up e ÷ down e
whole_below (fin negative m e) cap = cond negative 0 (min (m * up e / down e) cap)

-- every number of a law is finite
unfoldable pub law_finite : Law → Bool
law_finite (law.Fixed rate) = finite rate
law_finite (law.Alinea p) = finite p.gain && finite p.target
law_finite (law.DemandCapacity p) = finite p.capacity && (finite p.critical && finite p.least)

-- the law of the cell at i of a list; past its end, rate 0
abbrev pub law_at : List Law → ℕ → Law
law_at laws i = get_or laws i (law.Fixed (fin false 0 (pos 0)))

-- 16, a ramp's law with a number that isn't finite; at a cell without a ramp the law is ignored
unfoldable pub law_ok : List Law → List ℕ → ℕ → Bool
law_ok laws ramp i = eqb (at ramp i) 0 || law_finite (law_at laws i)

-- the place of 16: the lowest such cell of n, counted from 1; 0 if there is none
unfoldable pub law_fault_of : List Law → List ℕ → ℕ → ℕ
law_fault_of laws ramp n = unless_first (law_ok laws ramp) n (λ i. i + 1) 0
