-- What granting begins with: the last releases of the listed cells, and all that has come into each cell except in the last step. Assumes nothing.
use Rattle.std.specs.Prelude.{◌≡◌, List, ℕ, ◌+◌, ◌-◌, ◌≤◌, ◌<◌, length}
use Rattle.std.proofs.Common.{ap, ◌∙◌, arith}
use Rattle.model.specs.Numbers.{at, fill_of}
use Rattle.numbers.specs.RowsLaws.{fill_at}
use Rattle.model.specs.Road.{most_cells, most_rate, most_steps}
use Rattle.model.specs.Limits.{most_cumulative}
use Rattle.model.specs.Filling.{MeterState}
use Rattle.passes.specs.Tables.{Table, release_col, came_col}
use Rattle.passes.specs.RampList.{Listed}
use Rattle.ramps.specs.Grants.{Lasts}

-- the same for columns
abbrev pub came_in : List ℕ → List ℕ → List ℕ → ℕ → ℕ
came_in held cumulative entries i = at held i + at cumulative i - at entries i

-- what computing it requires from the first n cells
pub record CameRequires (n : ℕ) (held cumulative entries : List ℕ) : Type 0 where
  pub cells : n ≤ most_cells
  pub helds : (i : ℕ) → i < n → at held i ≤ most_rate
  pub cumulatives : (i : ℕ) → i < n → at cumulative i ≤ most_cumulative most_steps
  pub entered : (i : ℕ) → i < n → at entries i ≤ at held i

-- so the last step is known at the listed cells
pub lasts_known : {m : MeterState} {P : ℕ → Type 0} {n ramps : ℕ} {cell : List ℕ} {work : Table} (release₀ came₀ : List ℕ) → Listed P n ramps cell
    → CameRequires n m.state.held m.state.cumulative m.entries
    → release_col work ≡ fill_of (λ j. at m.releases (at cell j)) ramps release₀ → n ≤ length release₀
    → came_col work ≡ fill_of (came_in m.state.held m.state.cumulative m.entries) n came₀ → n ≤ length came₀
    → Lasts m ramps cell work
lasts_known {m} {n = n} {ramps} {cell} release₀ came₀ listed ready er lr ec lc = record {
  releases = λ j l. ap (λ (x : List ℕ). at x j) er ∙ fill_at (λ k. at m.releases (at cell k)) ramps release₀ j l (omega (arith, listed.most));
  entries = λ j l.
      let i = at cell j in
      let inside = listed.within j l in
      omega (
        arith,
        ap (λ (x : List ℕ). at x i) ec,
        fill_at (came_in m.state.held m.state.cumulative m.entries) n came₀ i inside lc,
        ready.entered i inside,
      );
}
