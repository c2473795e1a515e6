-- Laws in columns: a kind and three numbers for each cell. Assumes nothing.
use Rattle.std.specs.Prelude.{◌≡◌, ℕ, ◌+◌, ◌*◌, ◌<◌, ◌≤◌, cond, List, length, get_or, ◌==◌, slice_index_or, slice_set, Float}
use Rattle.std.proofs.Common.{◌∙◌, ⊎_elim, eq-or-lt_of_le, arith, length-set, get_or-set_same, get_or-set_other}
use Rattle.std.specs.Float.{nan}
use Rattle.model.specs.Numbers.{at}
use Rattle.model.specs.Road.{most_cells}
use Rattle.model.specs.Meter.{law_at}
use Rattle.meter.specs.MeterLaws.{law_at_lem}
use Rattle.model.specs.declared.Law.{Law}
use Rattle.model.specs.declared.Law.TheVariants as law

-- kind 1 is ALINEA (gain, target), kind 2 demand-capacity (capacity, critical, least), and every other kind a fixed rate
unfoldable pub law_by : ℕ → Float → Float → Float → Law
law_by kind first second third =
    cond (kind == 1) (law.Alinea (record { gain = first; target = second }))
    (cond (kind == 2) (law.DemandCapacity (record { capacity = first; critical = second; least = third }))
    (law.Fixed first))

-- the law of the cell at i
abbrev pub law_in : List ℕ → List Float → ℕ → Law
law_in kinds numbers i = law_by (at kinds i) (slice_index_or numbers (3 * i) nan) (slice_index_or numbers (3 * i + 1) nan) (slice_index_or numbers (3 * i + 2) nan)

-- the columns hold the laws of a list
abbrev pub InColumns : List Law → List ℕ → List Float → Type 0
InColumns laws kinds numbers = (i : ℕ) → i < most_cells → law_in kinds numbers i ≡ law_at laws i

-- the laws of the first i cells are stored
pub record SplitLaws (laws : List Law) (kinds : List ℕ) (numbers : List Float) (i : ℕ) : Type 0 where
  pub within : i ≤ most_cells
  pub cells : length kinds ≡ most_cells
  pub threes : length numbers ≡ 3 * most_cells
  pub stored : (j : ℕ) → j < i → law_in kinds numbers j ≡ law_at laws j

pub split_none : {laws : List Law} {kinds : List ℕ} {numbers : List Float} → length kinds ≡ most_cells → length numbers ≡ 3 * most_cells
    → SplitLaws laws kinds numbers 0
split_none e f = record { within = omega arith; cells = e; threes = f; stored = λ j l. absurd (omega arith) }

module _ {laws : List Law} {kinds : List ℕ} {numbers : List Float} {i : ℕ} (h : SplitLaws laws kinds numbers i) where
  -- storing the numbers of one more law leaves those before it unchanged
  module _ (first second third : Float) where
    abbrev next : List Float
    next = slice_set (slice_set (slice_set numbers (3 * i) first) (3 * i + 1) second) (3 * i + 2) third

    kept : (k : ℕ) → k < 3 * i → slice_index_or next k nan ≡ slice_index_or numbers k nan
    kept k l =
        get_or-set_other (slice_set (slice_set numbers (3 * i) first) (3 * i + 1) second) (3 * i + 2) k third nan (λ e. omega arith)
        ∙ get_or-set_other (slice_set numbers (3 * i) first) (3 * i + 1) k second nan (λ e. omega arith)
        ∙ get_or-set_other numbers (3 * i) k first nan (λ e. omega arith)

    module _ (l : i < most_cells) where
      first_there : get_or next (3 * i) nan ≡ first
      first_there =
          get_or-set_other (slice_set (slice_set numbers (3 * i) first) (3 * i + 1) second) (3 * i + 2) (3 * i) third nan (λ e. omega arith)
          ∙ get_or-set_other (slice_set numbers (3 * i) first) (3 * i + 1) (3 * i) second nan (λ e. omega arith)
          ∙ get_or-set_same numbers (3 * i) first nan (omega (arith, h.threes))

      second_there : get_or next (3 * i + 1) nan ≡ second
      second_there =
          get_or-set_other (slice_set (slice_set numbers (3 * i) first) (3 * i + 1) second) (3 * i + 2) (3 * i + 1) third nan (λ e. omega arith)
          ∙ get_or-set_same (slice_set numbers (3 * i) first) (3 * i + 1) second nan (omega (arith, h.threes, length-set numbers (3 * i) first))

      third_there : get_or next (3 * i + 2) nan ≡ third
      third_there =
          get_or-set_same (slice_set (slice_set numbers (3 * i) first) (3 * i + 1) second) (3 * i + 2) third nan
          (omega (arith, h.threes, length-set numbers (3 * i) first, length-set (slice_set numbers (3 * i) first) (3 * i + 1) second))

      -- one more law is stored
      pub split_more : (kind : ℕ) (d : Law) → i < length laws → law_by kind first second third ≡ slice_index_or laws i d
          → SplitLaws laws (slice_set kinds i kind) (slice_set (slice_set (slice_set numbers (3 * i) first) (3 * i + 1) second) (3 * i + 2) third) (i + 1)
      split_more kind d inside e = record {
        within = omega arith;
        cells = simp length-set h.cells;
        threes = simp length-set h.threes;
        stored = λ j m. ⊎_elim
            (λ (p : j ≡ i).
            rw (p, get_or-set_same kinds i kind 0 (omega (arith, h.cells)), first_there, second_there, third_there) (e ∙ law_at_lem laws i d inside))
            (λ (p : j < i).
            rw (get_or-set_other kinds i j kind 0 (λ q. omega arith), kept (3 * j) (omega arith), kept (3 * j + 1) (omega arith), kept (3 * j + 2) (omega arith))
            (h.stored j p))
            (eq-or-lt_of_le (let k : j ≤ i = omega arith in k));
      }

  pub split_end : most_cells ≤ i → InColumns laws kinds numbers
  split_end m j l = h.stored j (omega arith)
