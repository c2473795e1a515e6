-- docs/MODEL.md, 'Lanes closed during works': the capacity that the open lanes leave, and the tests of 17 and 18. Assumes nothing.
use Rattle.std.specs.Prelude.{Bool, ◌&&◌, List, ℕ, suc, ◌+◌, ◌*◌, ◌/◌, min, leb, eqb}
use Rattle.std.specs.Int.Bits.{bit_and}
use Rattle.std.specs.Int.Count.{ones}
use Rattle.model.specs.Numbers.{at, all_of, fill_of, row_at}

-- the greatest number of 32 bits
abbrev pub most_number : ℕ
most_number = 4294967295

-- C × open lanes ÷ lanes built, rounded down. With no lane built it is 0. It is at most the greatest number of 32 bits; without this bound it
-- could exceed it only if more lanes are open than built
unfoldable pub open_capacity : ℕ → ℕ → ℕ → ℕ
open_capacity capacity built usable = min (capacity * ones usable / ones built) most_number

-- the capacities of a step: those of the first n cells by their lanes, the others unchanged
abbrev pub open_capacities : List ℕ → List ℕ → List ℕ → ℕ → List ℕ
open_capacities capacity built usable n = fill_of (λ i. open_capacity (at capacity i) (at built i) (at usable i)) n capacity

-- 18 applies if this fails: a lane is built, and every open lane is built
unfoldable pub lanes_ok : ℕ → ℕ → Bool
lanes_ok built usable = leb 1 built && eqb (bit_and usable built) usable

-- the same test for the cell at i, from a row of lanes built and a row of lanes open
abbrev pub lanes_at : List ℕ → List ℕ → ℕ → Bool
lanes_at built usable i = lanes_ok (at built i) (at usable i)

-- a table of lanes: first the lanes built, then one row of lanes open per step
abbrev pub built_in : List ℕ → ℕ → List ℕ
built_in table n = row_at table n 0

abbrev pub open_in : List ℕ → ℕ → ℕ → List ℕ
open_in table n k = row_at table n (suc k)

-- the same test for the cell at i, in all T rows. T is at least 1 in a record, so the lanes built are tested too
abbrev pub table_at : List ℕ → ℕ → ℕ → ℕ → Bool
table_at table n T i = all_of (λ k. lanes_at (built_in table n) (open_in table n k) i) T

-- 17 applies if a table is neither empty nor of this size: n × (T + 1) bytes
abbrev pub table_bytes : ℕ → ℕ → ℕ
table_bytes n T = n * (T + 1)
