-- Theorem about filling and writing: what reading and its rows give determines a record's bytes, so filling a filled record again changes no byte. Assumes nothing.
use Rattle.std.specs.Prelude.{◌≡◌, Bool, true, false, ℕ, ◌<◌, eqb}
use Rattle.std.proofs.Math.Path.{refl, ap, subst⁻¹}
use Rattle.std.proofs.Common.{sym, ◌∙◌, eqb-true}
use mathlib.Core.List.{List, []}
use Rattle.model.specs.Numbers.{at}
use Rattle.model.specs.Road.{start_state, start_in}
use Rattle.model.specs.Schedules.{study}
use Rattle.model.specs.Record.{record_row}
use Rattle.model.specs.Reading.{ReadAnswer, reading_of}
use Rattle.model.specs.Encoding.{record_of}
use Rattle.writing.specs.WrittenAgain.{same_bytes}
use Rattle.model.specs.declared.Law.{Law}
use Rattle.model.specs.Filling.{filling_of, record_after}
use Rattle.filling.specs.Theorems.{only_releases}
use Rattle.filling.specs.FillingAgain.{filled_openable_by, filled_twice}

-- each number of a list is a byte
abbrev pub Bytes : List ℕ → Type 0
Bytes s = (i : ℕ) → at s i < 256

-- two records with the same reading and the same rows have the same bytes
module _ (s t : List ℕ) (small : Bytes s) (little : Bytes t) (reads : (reading_of s).number ≡ 0) (same : reading_of t ≡ reading_of s)
    (rows : (k : ℕ) → k < (reading_of s).steps → record_row t (reading_of s).road.n k ≡ record_row s (reading_of s).road.n k) where
  abbrev all : ℕ → List ℕ
  all = record_row s (reading_of s).road.n

  other_row : (k : ℕ) → k < (reading_of t).steps → record_row s (reading_of s).road.n k ≡ record_row t (reading_of t).road.n k
  other_row =
      subst⁻¹ (λ (x : ReadAnswer). (k : ℕ) → k < x.steps → record_row s (reading_of s).road.n k ≡ record_row t x.road.n k) same (λ k l. sym (rows k l))

  pub same_record : t ≡ s
  same_record =
      sym (same_bytes t little (ap (λ (x : ReadAnswer). x.number) same ∙ reads) all other_row)
      ∙ ap (λ (x : ReadAnswer). record_of (study x.road (start_state (start_in x.state)) x.steps all [])) same
      ∙ same_bytes s small reads all (λ k l. refl)

-- filling twice changes nothing
module _ (laws : List Law) (bytes lanes list : List ℕ) where
  abbrev once : List ℕ
  once = record_after laws bytes lanes list

  -- a refusal left the record unchanged, and leaves it unchanged again
  refused_again : eqb (filling_of laws bytes lanes list).number 0 ≡ false → record_after laws once lanes list ≡ once
  unfolding record_after
  refused_again e =
      let u : once ≡ bytes = rw e refl in
      ap (λ (s : List ℕ). record_after laws s lanes list) u

  pub twice_nothing : Bytes (record_after laws bytes lanes list) → Bytes (record_after laws (record_after laws bytes lanes list) lanes list)
      → record_after laws (record_after laws bytes lanes list) lanes list ≡ record_after laws bytes lanes list
  twice_nothing small little = go (eqb (filling_of laws bytes lanes list).number 0) refl
    where
      go : (b : Bool) → eqb (filling_of laws bytes lanes list).number 0 ≡ b → record_after laws once lanes list ≡ once
      go false e = refused_again e
      go true e =
          let z = eqb-true (filling_of laws bytes lanes list).number 0 e in
          let taken = filled_openable_by laws bytes lanes list z in
          let reads : reading_of once ≡ reading_of bytes = (only_releases laws bytes lanes list).reads in
          let again : reading_of (record_after laws once lanes list) ≡ reading_of once = (only_releases laws once lanes list).reads in
          let rows : (k : ℕ) → k < (reading_of bytes).steps
          → record_row (record_after laws once lanes list) (reading_of once).road.n k ≡ record_row once (reading_of bytes).road.n k =
          (filled_twice laws bytes lanes list taken).rows z in
          same_record once (record_after laws once lanes list) small little (ap (λ (x : ReadAnswer). x.number) reads ∙ taken.reads) again
          (subst⁻¹ (λ (x : ReadAnswer). (k : ℕ) → k < x.steps
          → record_row (record_after laws once lanes list) x.road.n k ≡ record_row once x.road.n k) reads
          (λ k l. ap (λ (x : ReadAnswer). record_row (record_after laws once lanes list) x.road.n k) (sym reads) ∙ rows k l))
