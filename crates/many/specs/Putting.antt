-- The loops that put a table of arrivals: over the places of a row, and over the rows of a record. Assumes nothing.
use Rattle.std.specs.Prelude.{◌≡◌, ℕ, ◌+◌, ◌*◌, ◌≤◌, ◌<◌, length}
use Rattle.std.proofs.Math.Path.{refl, sym, ap}
use Rattle.std.proofs.Common.{◌∙◌, mul-le-mul, add-one}
use mathlib.Core.List.{List}
use native.Mathlib.Omega.{arith}
use Rattle.model.specs.Numbers.{at, placed, row_at}
use Rattle.numbers.specs.TablesLaws.{row_ends, row_length, mul_more}
use Rattle.model.specs.Road.{most_cells, most_steps}
use Rattle.model.specs.Record.{number_size, rates_size, version_of, row_start, bytes_of}
use Rattle.fields.specs.FieldsLaws.{HoldsRow}
use Rattle.model.specs.Many.{put_arrivals, put_arrival_rows, with_arrivals, arrivals_size}
use Rattle.many.specs.Arrivals.{arrival_start, ArrivedRow, row_put, holds_on, ArrivedRows, rows_put}

-- what putting a row requires: the bytes hold it, in the version given, and there is a number for each place
pub record RowFits (bytes : List ℕ) (v n t : ℕ) (row : List ℕ) : Type 0 where
  pub version : v ≡ version_of bytes
  pub holds : HoldsRow bytes n t
  pub places : length row ≡ n + 1

-- the arrivals of the first p places are put, and those of the next go to `to`
pub record PlacesPut (bytes : List ℕ) (version n t : ℕ) (row after : List ℕ) (to p : ℕ) : Type 0 where
  pub some : 1 ≤ p
  pub within : p ≤ n + 1
  pub place : to ≡ arrival_start version n t p
  pub put : after ≡ put_arrivals bytes n t (at row) p

module _ {bytes : List ℕ} {v n t : ℕ} {row : List ℕ} (fits : RowFits bytes v n t row) where
  -- the gate's arrivals are put first
  pub places_first : {after : List ℕ} {start to : ℕ} → start ≡ row_start v n t → after ≡ placed bytes start (bytes_of number_size (at row 0))
      → to ≡ start + number_size → PlacesPut bytes v n t row after to 1
  unfolding put_arrivals
  places_first {start = start} es ea et =
      let e : start ≡ arrival_start (version_of bytes) n t 0 = es ∙ ap (λ (x : ℕ). row_start x n t) fits.version ∙ omega arith in
      record { some = omega arith; within = omega arith; place = omega arith; put = ea ∙ ap (λ (x : ℕ). placed bytes x (bytes_of number_size (at row 0))) e }

  module _ {after : List ℕ} {to p : ℕ} (h : PlacesPut bytes v n t row after to p) where
    kept : ArrivedRow bytes after n t p
    kept = rw h.put (row_put bytes n t (at row) p h.within fits.holds)

    pub places_size : length after ≡ length bytes
    places_size = kept.size

    -- the next place of the row is within the bytes, and so is the one after it
    pub places_room : p < n + 1 → to + rates_size ≤ length after
    places_room l = omega (arith, h.place, h.some, kept.size, ap (λ (x : ℕ). row_start x n t) fits.version, fits.holds.row)

    pub places_more : p < n + 1 → {next : List ℕ} → next ≡ placed after to (bytes_of number_size (at row p)) → PlacesPut bytes v n t row next (to + rates_size) (p + 1)
    unfolding put_arrivals
    places_more l e =
        let same : to ≡ arrival_start (version_of after) n t p =
        h.place ∙ ap (λ (x : ℕ). arrival_start x n t p) (fits.version ∙ sym kept.version) in
        record {
          some = omega arith;
          within = omega arith;
          place = omega (arith, h.place, h.some);
          put =
              e
              ∙ ap (λ (x : ℕ). placed after x (bytes_of number_size (at row p))) same
              ∙ ap (λ (u : List ℕ). placed u (arrival_start (version_of u) n t p) (bytes_of number_size (at row p))) h.put
              ∙ ap (put_arrivals bytes n t (at row)) (sym (add-one p));
        }

    pub places_end : n + 1 ≤ p → after ≡ put_arrivals bytes n t (at row) (n + 1)
    places_end l = let e : p ≡ n + 1 = omega (arith, h.within) in h.put ∙ ap (put_arrivals bytes n t (at row)) e

-- what putting a table requires: the bytes hold T rows, and the table has a row for each
pub record TableFits (bytes : List ℕ) (n T : ℕ) (table : List ℕ) : Type 0 where
  pub cells : n ≤ most_cells
  pub steps : T ≤ most_steps
  pub header : 16 ≤ length bytes
  pub holds : (t : ℕ) → t < T → HoldsRow bytes n t
  pub size : length table ≡ arrivals_size n T

-- the rows of the first t steps have their arrivals, and the next row of the table begins at `from`
pub record RowsPut (bytes : List ℕ) (n T : ℕ) (table after : List ℕ) (from t : ℕ) : Type 0 where
  pub within : t ≤ T
  pub place : from ≡ t * (n + 1)
  pub put : after ≡ with_arrivals bytes n t table

module _ {bytes : List ℕ} {n T : ℕ} {table : List ℕ} where
  pub puts_none : RowsPut bytes n T table bytes 0 0
  unfolding put_arrival_rows
  puts_none = record { within = omega arith; place = omega arith; put = refl }

  module _ (fits : TableFits bytes n T table) {after : List ℕ} {from t : ℕ} (h : RowsPut bytes n T table after from t) where
    changed : ArrivedRows bytes after n t
    changed = rw h.put (rows_put bytes n (λ q p. at (row_at table (n + 1) q) p) t (λ q l. fits.holds q (omega (arith, h.within))))

    pub puts_size : length after ≡ length bytes
    puts_size = changed.size

    -- the next row of the table
    pub puts_fits : t < T → from + (n + 1) ≤ length table
    puts_fits l = omega (arith, row_ends t T (n + 1) l, h.place, fits.size)

    pub puts_small : t < T → from + (n + 1) ≤ 93600
    puts_small l =
        let k : n + 1 ≤ 65 = omega (arith, fits.cells) in
        omega (arith, puts_fits l, fits.size, mul-le-mul fits.steps k)

    pub puts_row : {v : ℕ} {row : List ℕ} → v ≡ version_of bytes → t < T → row ≡ row_at table (n + 1) t → RowFits after v n t row
    puts_row e l er = record {
      version = e ∙ sym changed.version;
      holds = holds_on changed.size changed.version (fits.holds t l);
      places = ap length er ∙ row_length table (n + 1) t T l fits.size;
    }

    pub puts_more : t < T → {row next : List ℕ} → row ≡ row_at table (n + 1) t → next ≡ put_arrivals after n t (at row) (n + 1)
        → RowsPut bytes n T table next (from + (n + 1)) (t + 1)
    unfolding put_arrival_rows
    puts_more l er e = record {
      within = omega arith;
      place = omega (arith, h.place, mul_more t (n + 1));
      put =
          e
          ∙ ap (λ (x : List ℕ). put_arrivals after n t (at x) (n + 1)) er
          ∙ ap (λ (u : List ℕ). put_arrivals u n t (at (row_at table (n + 1) t)) (n + 1)) h.put
          ∙ ap (λ (k : ℕ). with_arrivals bytes n k table) (sym (add-one t));
    }

    pub puts_end : T ≤ t → after ≡ with_arrivals bytes n T table
    puts_end l = let e : t ≡ T = omega (arith, h.within) in h.put ∙ ap (λ (k : ℕ). with_arrivals bytes n k table) e
