-- The two cases of `released`, as its code reaches them. Assumes nothing.
use Rattle.std.specs.Prelude.{◌≡◌, refl, List, ℕ, ◌≤◌, ◌<◌, length, set}
use Rattle.std.proofs.Common.{sym, ap, ◌∙◌, le-leb}
use Rattle.std.proofs.Math.Seq.{set_out}
use Rattle.std.proofs.lemmas.Bool.{lt-leb}
use Rattle.model.specs.Road.{start_in}
use Rattle.model.specs.Reading.{ReadAnswer, reading_of}
use Rattle.model.specs.RowNumbers.{taken_list}
use Rattle.model.specs.Writing.{WriteAnswer, writing_of, target_after}
use Rattle.example_calls.specs.ReleasedRecord.{released_rows, released_count, released_target}

-- its answer, and the list and the target that it leaves
abbrev pub Left : List ℕ → ℕ → List ℕ → List ℕ → ℕ → List ℕ → List ℕ → Type 0
Left bytes release list target count rows after =
    (count ≡ released_count bytes release list target)
    × ((rows ≡ released_rows bytes release list) × (after ≡ released_target bytes release list target))

-- for a record that was read, with its rows in the list
module _ (bytes : List ℕ) (release : ℕ) (list target : List ℕ) {x : ReadAnswer} (e : x ≡ reading_of bytes) {rows : List ℕ}
    (taken : rows ≡ taken_list bytes x.road.n x.steps list) where
  stored : set rows 4 release ≡ released_rows bytes release list
  stored = rw (taken, e) refl

  -- the list has no number 4
  pub left_short : length list ≤ 4 → length rows ≤ 4 → Left bytes release list target 0 rows target
  left_short l m =
      let s : rows ≡ released_rows bytes release list = sym (set_out rows 4 release m) ∙ stored in
      (rw (le-leb (length list) 4 l) refl, (s, rw (le-leb (length list) 4 l) refl))

  -- the list has a number 4, and the record is written
  pub left_written : 4 < length list → {a : WriteAnswer} {after : List ℕ} → a ≡ writing_of x.road x.steps (start_in x.state) (set rows 4 release) target
      → after ≡ target_after x.road x.steps (start_in x.state) (set rows 4 release) target
      → Left bytes release list target a.count (set rows 4 release) after
  left_written l f g = (
    rw (lt-leb (length list) 4 l, ← stored, ← e) (ap (λ (y : WriteAnswer). y.count) f),
    (stored, rw (lt-leb (length list) 4 l, ← stored, ← e) g),
  )
