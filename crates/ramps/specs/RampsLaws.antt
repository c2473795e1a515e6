-- Laws of a step's releases: a granted release fits, and a filled row stays within the limits. Assumes nothing.
use Rattle.std.specs.Prelude.{◌≡◌, refl, Bool, true, false, cond, List, ℕ, ◌+◌, ◌*◌, ◌^◌, ◌≤◌, ◌<◌, eqb, Float, length}
use Rattle.std.proofs.Common.{◌∙◌, arith, eqb-true}
use Rattle.std.proofs.lemmas.Bool.{eqb-false}
use Rattle.model.specs.Numbers.{at}
use Rattle.numbers.specs.RowsLaws.{fill_at}
use Rattle.model.specs.declared.Road.{Road}
use Rattle.model.specs.Road.{most_rate}
use Rattle.model.specs.Limits.{row_ok}
use Rattle.limits.specs.LimitsLaws.{RoadOk, RowOk, row_ok_lem}
use Rattle.model.specs.declared.Law.{Law}
use Rattle.model.specs.Meter.{whole_below}
use Rattle.meter.specs.MeterLaws.{whole_most}
use Rattle.model.specs.Flow.{gate_arrivals, arrivals_at, release_at, most_release_at, supply_at, entering_at}
use Rattle.model.specs.Schedules.{ReleasesFit, outflows_of}
use Rattle.put.specs.ReleasesLaws.{length_released, released_at, released_gate, released_arrivals}
use Rattle.model.specs.Filling.{MeterState, wish_at, cap_at, release_of, granted_at, filled_row, metered_of}

-- a release is at most its cap, and 0 without a ramp
pub record MeterRelease (ramp : ℕ) (wish : Float) (cap x : ℕ) : Type 0 where
  pub most : x ≤ cap
  pub no_ramp : ramp ≡ 0 → x ≡ 0
  pub ramped : (ramp ≡ 0 → ⊥) → x ≡ whole_below wish cap

pub meter_release : (ramp : ℕ) (wish : Float) (cap : ℕ) → MeterRelease ramp wish cap (release_of ramp wish cap)
unfolding release_of
meter_release ramp wish cap = go (eqb ramp 0) refl
  where
    go : (b : Bool) → eqb ramp 0 ≡ b → MeterRelease ramp wish cap (cond b 0 (whole_below wish cap))
    go true e = record { most = omega arith; no_ramp = λ _. refl; ramped = λ d. absurd (d (eqb-true ramp 0 e)) }
    go false e = record { most = whole_most wish cap; no_ramp = λ z. absurd (eqb-false ramp 0 e z); ramped = λ _. refl }

-- the bounds of the cap
pub record ReleaseBounds (most supply cap : ℕ) : Type 0 where
  pub there : cap ≤ most
  pub taken : cap ≤ supply
  pub rate : cap ≤ most_rate

module _ (laws : List Law) (r : Road) (m : MeterState) (row : List ℕ) where
  pub granted_release : (i : ℕ) → MeterRelease (at r.ramp i) (wish_at laws m i) (cap_at r m.state row i) (granted_at laws r m row i)
  unfolding granted_at
  granted_release i = meter_release (at r.ramp i) (wish_at laws m i) (cap_at r m.state row i)

  pub granted_bounds : (i : ℕ) → ReleaseBounds (most_release_at m.state row i) (supply_at r m.state i) (granted_at laws r m row i)
  granted_bounds i = let g = (granted_release i).most in record { there = omega arith; taken = omega arith; rate = omega arith }

  pub granted_small : (i : ℕ) → granted_at laws r m row i < 2 ^ 32
  granted_small i = omega (arith, (granted_bounds i).rate)

  -- the filled row has the same length, the same arrivals and the releases granted
  pub length_filled : length (filled_row laws r m row) ≡ length row
  unfolding filled_row
  length_filled = length_released (granted_at laws r m row) r.n row

  pub filled_gate : gate_arrivals (filled_row laws r m row) ≡ gate_arrivals row
  unfolding filled_row
  filled_gate = released_gate (granted_at laws r m row) r.n row

  pub filled_arrivals : (i : ℕ) → arrivals_at (filled_row laws r m row) i ≡ arrivals_at row i
  unfolding filled_row
  filled_arrivals i = released_arrivals (granted_at laws r m row) r.n row i

  pub filled_release : length row ≡ 1 + 2 * r.n → (i : ℕ) → i < r.n → release_at (filled_row laws r m row) i ≡ granted_at laws r m row i
  unfolding filled_row
  filled_release e i l = released_at (granted_at laws r m row) r.n row i l (omega arith)

  -- the greatest release does not depend on the row's releases
  pub filled_most : (i : ℕ) → most_release_at m.state (filled_row laws r m row) i ≡ most_release_at m.state row i
  unfolding most_release_at
  filled_most i = rw (filled_arrivals i)

  -- each filled release fits
  pub filled_fits : length row ≡ 1 + 2 * r.n → ReleasesFit r m.state (filled_row laws r m row)
  filled_fits e = record {
    queue = λ i l. omega (arith, filled_release e i l, (granted_bounds i).there, filled_most i);
    supply = λ i l. omega (arith, filled_release e i l, (granted_bounds i).taken);
  }

  -- a row within the limits stays within them
  pub filled_row_lem : RowOk r row → RowOk r (filled_row laws r m row)
  filled_row_lem ok = record {
    numbers = length_filled ∙ ok.numbers;
    gate = omega (arith, filled_gate, ok.gate);
    arrivals = λ i l. omega (arith, filled_arrivals i, ok.arrivals i l);
    release = λ i l. omega (arith, filled_release ok.numbers i l, (granted_bounds i).rate);
    no_arrivals = λ i l z. filled_arrivals i ∙ ok.no_arrivals i l z;
    no_release = λ i l z. filled_release ok.numbers i l ∙ (granted_release i).no_ramp z;
  }

  pub filled_row_ok : RoadOk r → RowOk r row → row_ok r.ramp r.n (filled_row laws r m row) ≡ true
  filled_row_ok road ok = row_ok_lem r (filled_row laws r m row) road (filled_row_lem ok)

  -- what the next step's wishes are computed from: the release granted in this step, and what entered from upstream in it
  pub last_release_lem : r.n ≤ length m.releases → (i : ℕ) → i < r.n → at (metered_of laws r m row).releases i ≡ granted_at laws r m row i
  unfolding metered_of
  last_release_lem h i l = fill_at (granted_at laws r m row) r.n m.releases i l h

  pub last_entry_lem : r.n ≤ length m.entries → (i : ℕ) → i < r.n
      → at (metered_of laws r m row).entries i ≡ entering_at r m.state (outflows_of r m.state (filled_row laws r m row)) i
  unfolding metered_of
  last_entry_lem h i l = fill_at (entering_at r m.state (outflows_of r m.state (filled_row laws r m row))) r.n m.entries i l h
