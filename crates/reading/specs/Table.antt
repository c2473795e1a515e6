-- Theorem: a record that reads has at most 8,799 outflows, n + 1 per step. Assumes nothing.
use Rattle.std.specs.Prelude.{◌≡◌, refl, Bool, true, false, List, ℕ, ◌+◌, ◌*◌, ◌≤◌, leb}
use Rattle.std.proofs.Common.{mul-add, mul-le-mul, mul-le-mul_left, arith, leb-true, leb-false}
use Rattle.model.specs.Road.{most_steps, most_bytes}
use Rattle.model.specs.Record.{version_of, row_size}
use Rattle.model.specs.Reading.{size_of, ReadAnswer, reading_of}
use Rattle.reading.specs.Within.{read_within_lem}
use Rattle.model.specs.Listing.{most_outflows}

-- up to 5 cells the limit of the steps bounds them
few : (n T : ℕ) → n ≤ 5 → T ≤ most_steps → T * (n + 1) ≤ most_outflows
few n T h l = let k : n + 1 ≤ 6 = omega arith in omega (arith, mul-le-mul l k)

-- from 6 cells on the limit of the bytes does: with 6 cells there are at most 1,257 steps
six : (version n T : ℕ) → n ≡ 6 → size_of version n T ≤ most_bytes → T * (n + 1) ≤ most_outflows
six version n T e h = let k : size_of version 6 T ≤ most_bytes = rw e at h in rw e (omega arith)

-- with 7 cells or more there are at most 1,089
many : (version n T : ℕ) → 7 ≤ n → size_of version n T ≤ most_bytes → T * (n + 1) ≤ most_outflows
many version n T h l =
    let k : 60 ≤ row_size n = omega arith in
    omega (arith, mul-le-mul_left T k, mul-add T n 1, mul-add T 4 (8 * n))

pub table_most : (version n T : ℕ) → T ≤ most_steps → size_of version n T ≤ most_bytes → T * (n + 1) ≤ most_outflows
table_most version n T h l = go (leb n 5) (leb 7 n) refl refl
  where
    go : (a b : Bool) → leb n 5 ≡ a → leb 7 n ≡ b → T * (n + 1) ≤ most_outflows
    go true b e f = few n T (leb-true n 5 e) h
    go false true e f = many version n T (leb-true 7 n f) l
    go false false e f = six version n T (omega (arith, leb-false n 5 e, leb-false 7 n f)) l

pub read_table : (s : List ℕ) (a : ReadAnswer) → a ≡ reading_of s → a.number ≡ 0 → a.steps * (a.road.n + 1) ≤ most_outflows
read_table s a e h =
    let w = read_within_lem s a e h in
    table_most (version_of s) a.road.n a.steps w.steps (omega (arith, w.size, w.bytes))
