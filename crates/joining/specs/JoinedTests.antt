-- The order of joining's refusals, worked out in numbers, and the tests of 20, 21 and 22 as facts. Assumes nothing.
use Rattle.std.specs.Prelude.{◌≡◌, refl, true, List, [], ◌∷◌, ℕ, ◌≤◌, ◌<◌, eqb, replicate}
use Rattle.std.proofs.Common.{leb-true, le-leb, eqb-true, eq-eqb}
use Rattle.model.specs.Numbers.{at, one_of, first_from, first_of}
use Rattle.numbers.specs.Tests.{le_head, eq_head, le_then, eq_then}
use Rattle.numbers.specs.FirstLaws.{all_at, all_true}
use Rattle.model.specs.Road.{most_cells, most_bytes, zeros, start_state}
use Rattle.model.specs.Schedules.{Study, study}
use Rattle.model.specs.Record.{seconds_size, number_of}
use Rattle.model.specs.Reading.{reading_by}
use Rattle.model.specs.Encoding.{record_size}
use Rattle.model.specs.Writing.{unwritten}
use Rattle.model.specs.Joining.{alike, gate_idle, joined_fits, joining_by, joining_of}

-- a road of n cells and T steps without rows, whose numbers are 0 except the gate's queue
abbrev blank : ℕ → ℕ → ℕ → Study
blank n T queue = study (record {
  n = n;
  version = 1;
  seconds = 0;
  gate_capacity = 0;
  speed = zeros;
  wave = zeros;
  share = zeros;
  ramp = zeros;
  jam = zeros;
  capacity = zeros;
}) (start_state (record { gate_queue = queue; held = zeros; queue = zeros })) T (λ _. []) []

-- two roads of 40 cells, without room, are refused with the first of 5 at cell 40, 20, 21 and 22; two of 32 cells with 15
on_paper : (joining_by (blank 40 1 0) (blank 40 2 1) 1001 0 ≡ unwritten 5 40)
    × ((joining_by (blank 40 1 0) (blank 40 2 1) 1000 0 ≡ unwritten 20 0)
    × ((joining_by (blank 40 1 0) (blank 40 1 1) 1000 0 ≡ unwritten 21 0)
    × ((joining_by (blank 40 1 0) (blank 40 1 0) 1000 0 ≡ unwritten 22 0) × (joining_by (blank 32 1 0) (blank 32 1 0) 1000 0 ≡ unwritten 15 0))))
unfolding first_of first_from seconds_size
on_paper = (refl, (refl, (refl, (refl, refl))))

-- a record of version 3 is refused with 2; no bytes with 1
abbrev unknown : List ℕ
unknown = 0 ∷ 0 ∷ 0 ∷ 12 ∷ 3 ∷ replicate 11 0

-- upstream's refusal comes first
upstream_first : (joining_of unknown [] 0 [] ≡ unwritten 2 0) × (joining_of [] unknown 0 [] ≡ unwritten 1 0)
unfolding joining_of reading_by one_of number_of seconds_size
upstream_first = (refl, refl)

-- 20 doesn't apply: T, version and seconds are the same
pub record Alike (a b : Study) : Type 0 where
  pub steps : a.steps ≡ b.steps
  pub version : a.road.version ≡ b.road.version
  pub seconds : a.road.seconds ≡ b.road.seconds

-- 21 doesn't apply: the gate has no queue, and no arrival in any step
pub record Idle (b : Study) : Type 0 where
  pub queue : b.start.gate_queue ≡ 0
  pub arrivals : (t : ℕ) → t < b.steps → at (b.rows t) 0 ≡ 0

-- 22 doesn't apply: at most 64 cells and 65,536 bytes
pub record Small (a : Study) : Type 0 where
  pub cells : a.road.n ≤ most_cells
  pub bytes : record_size a ≤ most_bytes

module _ (a b : Study) where
  pub alike_facts : alike a b ≡ true → Alike a b
  alike_facts h =
      let t = eq_head a.steps b.steps _ h in
      let v = eq_head a.road.version b.road.version _ t.1 in
      record { steps = t.0; version = v.0; seconds = eqb-true a.road.seconds b.road.seconds v.1 }

  pub facts_alike : Alike a b → alike a b ≡ true
  facts_alike h =
      eq_then a.steps b.steps _ h.steps
      (eq_then a.road.version b.road.version _ h.version (eq-eqb a.road.seconds b.road.seconds h.seconds))

module _ (b : Study) where
  pub idle_facts : gate_idle b ≡ true → Idle b
  idle_facts h =
      let q = eq_head b.start.gate_queue 0 _ h in
      record { queue = q.0; arrivals = λ t l. eqb-true (at (b.rows t) 0) 0 (all_at (λ t. eqb (at (b.rows t) 0) 0) b.steps q.1 t l) }

  pub facts_idle : Idle b → gate_idle b ≡ true
  facts_idle h =
      eq_then b.start.gate_queue 0 _ h.queue
      (all_true (λ t. eqb (at (b.rows t) 0) 0) b.steps (λ t l. eq-eqb (at (b.rows t) 0) 0 (h.arrivals t l)))

module _ (a : Study) where
  pub small_facts : joined_fits a ≡ true → Small a
  small_facts h =
      let n = le_head a.road.n most_cells _ h in
      record { cells = n.0; bytes = leb-true (record_size a) most_bytes n.1 }

  pub facts_small : Small a → joined_fits a ≡ true
  facts_small h = le_then a.road.n most_cells _ h.cells (le-leb (record_size a) most_bytes h.bytes)
