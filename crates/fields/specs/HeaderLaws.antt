-- Laws of the header's tests. Assumes nothing.
use Rattle.std.specs.Prelude.{◌≡◌, refl, Bool, true, false, cond, ◌&&◌, ◌||◌, List, ◌⊎◌, ℕ, ◌-◌, ◌≤◌, ◌<◌, leb, eqb, length}
use Rattle.std.proofs.Common.{inl, inr, arith, leb-true, leb-false, le-leb, eqb-true, eq-eqb, ne_eqb}
use Rattle.std.proofs.lemmas.Bool.{lt-leb, eqb-false}
use Rattle.model.specs.Numbers.{one_of}
use Rattle.numbers.specs.Tests.{le_head, le_then}
use Rattle.model.specs.Road.{most_cells, most_steps, most_bytes, most_seconds}
use Rattle.model.specs.Record.{first_version, second_version, version_of, count_size, header_size, number_of}
use Rattle.fields.specs.FieldsLaws.{seconds_none, most_size, start_small}
use Rattle.model.specs.Reading.{cells_of, steps_of, size_of, both_versions, least_size, length_ok, cells_and_steps_ok, seconds_ok, caller_ok}

-- both versions are known: the code tests for one or the other
pub known_both : (version : ℕ) → eqb version first_version || eqb version second_version ≡ one_of both_versions version
unfolding one_of
known_both version = go (eqb version first_version) (eqb version second_version)
  where
    go : (a b : Bool) → a || b ≡ cond a true (cond b true false)
    go true b = refl
    go false true = refl
    go false false = refl

-- no version above 2 is known
pub known_most : (version : ℕ) → one_of both_versions version ≡ true → version ≤ second_version
unfolding one_of
known_most version = go (eqb version first_version) (eqb version second_version) refl refl
  where
    go : (a b : Bool) → eqb version first_version ≡ a → eqb version second_version ≡ b → cond a true (cond b true false) ≡ true → version ≤ second_version
    go true b e f h = omega (arith, eqb-true version first_version e)
    go false true e f h = omega (arith, eqb-true version second_version f)
    go false false e f h = absurd (let z : ◌≡◌ {A = ℕ} 0 1 = cc in omega arith)

-- for a reader that knows both, the least size is that of the version's own header: 18 for version 2, 16 for every other
pub least_both : (version : ℕ) → least_size both_versions version ≡ header_size version
unfolding one_of
least_both version = go (eqb version first_version) (eqb version second_version) refl refl
  where
    go : (a b : Bool) → eqb version first_version ≡ a → eqb version second_version ≡ b
        → header_size (cond (cond a true (cond b true false)) version first_version) ≡ header_size version
    go true b e f = refl
    go false true e f = refl
    go false false e f = omega (arith, seconds_none first_version (λ z. omega (arith, z)), seconds_none version (eqb-false version second_version f))

-- the length of a record
pub length_facts : (s : List ℕ) → length_ok both_versions s ≡ true → (header_size (version_of s) ≤ length s) × (length s ≤ most_bytes)
length_facts s h =
    let a = le_head (least_size both_versions (version_of s)) (length s) _ h in
    (omega (arith, a.0, least_both (version_of s)), (le_head _ _ _ a.1).0)

-- the test of the length, from the code's tests
module _ (s : List ℕ) where
  pub length_short : length s < header_size (version_of s) → false ≡ length_ok both_versions s
  length_short h = rw (least_both (version_of s), lt-leb (header_size (version_of s)) (length s) h)

  module _ (h : header_size (version_of s) ≤ length s) where
    pub length_long : most_bytes < length s → false ≡ length_ok both_versions s
    length_long l = rw (least_both (version_of s), le-leb (header_size (version_of s)) (length s) h, lt-leb (length s) most_bytes l)

    pub length_counted : (m : ℕ) → length s ≤ most_bytes → m ≡ number_of s 0 count_size → eqb m (length s - count_size) ≡ length_ok both_versions s
    length_counted m l e = rw (least_both (version_of s), le-leb (header_size (version_of s)) (length s) h, le-leb (length s) most_bytes l, e)

-- the test of 19, in version 2 and in any other
module _ (version seconds : ℕ) where
  pub seconds_tested : version ≡ second_version → leb 1 seconds && leb seconds most_seconds ≡ seconds_ok version seconds
  seconds_tested e = rw (eq-eqb version second_version e)

  pub seconds_unread : (version ≡ second_version → ⊥) → true ≡ seconds_ok version seconds
  seconds_unread h = rw (ne_eqb version second_version h)

-- n and T within their limits
pub record Counts (n T : ℕ) : Type 0 where
  pub some_cells : 1 ≤ n
  pub cells : n ≤ most_cells
  pub some_steps : 1 ≤ T
  pub steps : T ≤ most_steps

pub counts_facts : (n T : ℕ) → cells_and_steps_ok n T ≡ true → Counts n T
counts_facts n T h =
    let a = le_head _ _ _ h in
    let b = le_head _ _ _ a.1 in
    let c = le_head _ _ _ b.1 in
    record { some_cells = a.0; cells = b.0; some_steps = c.0; steps = leb-true _ _ c.1 }

pub facts_counts : {n T : ℕ} → Counts n T → cells_and_steps_ok n T ≡ true
facts_counts {n} {T} c =
    le_then 1 n _ c.some_cells (le_then n most_cells _ c.cells (le_then 1 T _ c.some_steps (le-leb T most_steps c.steps)))

-- the record's size then fits a machine number
pub size_small : (version : ℕ) {n T : ℕ} → Counts n T → size_of version n T ≤ most_size
size_small version {n} {T} c = start_small version n T c.cells c.steps

-- the test of 26, as facts: both numbers are within the caller's limits, or one is above
module _ {cells most n size : ℕ} where
  pub caller_passes : n ≤ cells → size ≤ most → caller_ok cells most n size ≡ true
  caller_passes h k = le_then n cells _ h (le-leb size most k)

  pub caller_facts : caller_ok cells most n size ≡ true → (n ≤ cells) × (size ≤ most)
  caller_facts h = let a = le_head n cells _ h in (a.0, leb-true size most a.1)

  pub caller_fails : (cells < n) ⊎ (most < size) → caller_ok cells most n size ≡ false
  caller_fails (inl h) = rw (lt-leb n cells h)
  caller_fails (inr h) = go (leb n cells)
    where
      go : (b : Bool) → b && leb size most ≡ false
      go true = lt-leb size most h
      go false = refl

  pub caller_above : caller_ok cells most n size ≡ false → (cells < n) ⊎ (most < size)
  caller_above = go (leb n cells) refl
    where
      go : (b : Bool) → leb n cells ≡ b → b && leb size most ≡ false → (cells < n) ⊎ (most < size)
      go false e h = inl (leb-false n cells e)
      go true e h = inr (leb-false size most h)

-- with 64 and 65,536 it passes whenever 1 and 3 do not apply
pub caller_full : (known s : List ℕ) → length_ok known s ≡ true → cells_and_steps_ok (cells_of s) (steps_of s) ≡ true
    → caller_ok most_cells most_bytes (cells_of s) (length s) ≡ true
caller_full known s h k =
    let bytes = (le_head (length s) most_bytes _ (le_head (least_size known (version_of s)) (length s) _ h).1).0 in
    caller_passes (counts_facts (cells_of s) (steps_of s) k).cells bytes
