-- Theorems about a caller's own limits: exactly when 26 applies, which records are read as without them, and what larger limits change. Assumes nothing.
use Rattle.std.specs.Prelude.{◌≡◌, refl, Bool, true, false, List, ◌⊎◌, ℕ, min, ◌≤◌, ◌<◌, eqb, length}
use Rattle.std.proofs.Common.{sym, ap, ◌∙◌, inl, inr, arith, eqb-true}
use Rattle.std.proofs.lemmas.Bool.{eqb-false}
use Rattle.model.specs.Road.{most_cells, most_bytes}
use Rattle.numbers.specs.Tests.{unless_elim, unless_same, passes}
use Rattle.model.specs.Reading.{cells_of, steps_of, both_versions, caller_ok, ReadAnswer, refused_of, reading_by, reading_within, reading_of}
use Rattle.fields.specs.HeaderLaws.{length_facts, counts_facts, caller_facts, caller_fails, caller_above, caller_full}
use Rattle.reading.specs.Headers.{Header}
use Rattle.reading.specs.ReadingLaws.{answer_caller}
use Rattle.reading.specs.Cases.{length_fits, version_known, counts_fit, seconds_fit, size_fits, caller_takes, places_fit, rows_fit, header_of_lem}

-- no refusal before 26 applies, and n or the count of bytes is above the caller's
pub record Beyond (cells most : ℕ) (s : List ℕ) : Type 0 where
  pub header : Header s (cells_of s) (steps_of s)
  pub above : (cells < cells_of s) ⊎ (most < length s)

module _ (s : List ℕ) where
  module _ (cells most : ℕ) where
    abbrev MeansBeyond : ReadAnswer → Type 0
    MeansBeyond x = x.number ≡ 26 → Beyond cells most s

    -- 26 is reported if it applies
    pub beyond_refused : Beyond cells most s → reading_within cells most s ≡ refused_of 26 0
    beyond_refused b = sym (answer_caller cells most b.header (caller_fails b.above) refl)

    -- and only then
    pub refused_beyond : (reading_within cells most s).number ≡ 26 → Beyond cells most s
    unfolding reading_by
    refused_beyond =
        unless_elim MeansBeyond (length_fits s) (λ _ n. absurd (omega arith)) (λ a.
        unless_elim MeansBeyond (version_known s) (λ _ n. absurd (omega arith)) (λ b.
        unless_elim MeansBeyond (counts_fit s) (λ _ n. absurd (omega arith)) (λ c.
        unless_elim MeansBeyond (seconds_fit s) (λ _ n. absurd (omega arith)) (λ d.
        unless_elim MeansBeyond (size_fits s) (λ _ n. absurd (omega arith)) (λ e.
        unless_elim MeansBeyond (caller_takes s cells most) (λ k _. record { header = header_of_lem s a b c d e; above = caller_above k }) (λ _.
        unless_elim MeansBeyond (places_fit s) (λ _ n. absurd (omega arith)) (λ _.
        unless_elim MeansBeyond (rows_fit s) (λ _ n. absurd (omega arith)) (λ _ n.
        absurd (omega arith)))))))))

    -- otherwise the record is read as without the caller's limits
    pub within_same : (Beyond cells most s → ⊥) → reading_within cells most s ≡ reading_of s
    unfolding reading_by
    within_same fits =
        unless_same (length_fits s) (refused_of 1 0) (λ a.
        unless_same (version_known s) (refused_of 2 0) (λ b.
        unless_same (counts_fit s) (refused_of 3 0) (λ c.
        unless_same (seconds_fit s) (refused_of 19 0) (λ d.
        unless_same (size_fits s) (refused_of 4 0) (λ e.
        let takes = passes (caller_takes s cells most) (λ k. fits (record { header = header_of_lem s a b c d e; above = caller_above k })) in
        rw (takes, caller_full both_versions s a c))))))

    pub within_other : ((reading_within cells most s).number ≡ 26 → ⊥) → reading_within cells most s ≡ reading_of s
    within_other h = within_same (λ b. h (ap (λ (a : ReadAnswer). a.number) (beyond_refused b)))

    -- a record within the limits is read in the same way
    pub within_kept : cells_of s ≤ cells → length s ≤ most → reading_within cells most s ≡ reading_of s
    within_kept h k = within_same (λ b. go b.above)
      where
        go : (cells < cells_of s) ⊎ (most < length s) → ⊥
        go (inl l) = omega (arith, h, l)
        go (inr l) = omega (arith, k, l)

    -- so is an accepted record, which has at most that many cells and bytes
    module _ (h : (reading_within cells most s).number ≡ 0) where
      pub within_accepted : reading_within cells most s ≡ reading_of s
      within_accepted = within_other (λ z. omega (arith, h, z))

      pub accepted_reads : (reading_of s).number ≡ 0
      accepted_reads = sym (ap (λ (a : ReadAnswer). a.number) within_accepted) ∙ h

      abbrev WithinLimits : ReadAnswer → Type 0
      WithinLimits x = x.number ≡ 0 → (cells_of s ≤ cells) × (length s ≤ most)

      pub accepted_kept : (cells_of s ≤ cells) × (length s ≤ most)
      unfolding reading_by
      accepted_kept =
          unless_elim WithinLimits (length_fits s) (λ _ z. absurd (omega arith)) (λ _.
          unless_elim WithinLimits (version_known s) (λ _ z. absurd (omega arith)) (λ _.
          unless_elim WithinLimits (counts_fit s) (λ _ z. absurd (omega arith)) (λ _.
          unless_elim WithinLimits (seconds_fit s) (λ _ z. absurd (omega arith)) (λ _.
          unless_elim WithinLimits (size_fits s) (λ _ z. absurd (omega arith)) (λ _.
          unless_elim WithinLimits (caller_takes s cells most) (λ _ z. absurd (omega arith)) (λ k _. caller_facts k)))))) h

  -- reading itself takes 64 cells and 65,536 bytes and never reports 26
  pub read_never : (reading_of s).number ≡ 26 → ⊥
  read_never h = go (refused_beyond most_cells most_bytes h)
    where
      go : Beyond most_cells most_bytes s → ⊥
      go b = above b.above
        where
          above : (most_cells < cells_of s) ⊎ (most_bytes < length s) → ⊥
          above (inl l) = omega (arith, l, (counts_facts (cells_of s) (steps_of s) b.header.counts).cells)
          above (inr l) = omega (arith, l, (length_facts s b.header.lengths).1)

  -- larger limits change only 26: a caller with larger limits gets every other answer of a caller with smaller ones
  pub within_larger : (cells most more longer : ℕ) → cells ≤ more → most ≤ longer → ((reading_within cells most s).number ≡ 26 → ⊥)
      → reading_within more longer s ≡ reading_within cells most s
  within_larger cells most more longer h k z = within_same more longer (λ b. larger b b.above) ∙ sym (within_other cells most z)
    where
      number : Beyond cells most s → (reading_within cells most s).number ≡ 26
      number b = ap (λ (a : ReadAnswer). a.number) (beyond_refused cells most b)

      larger : Beyond more longer s → (more < cells_of s) ⊎ (longer < length s) → ⊥
      larger b (inl l) = z (number (record { header = b.header; above = inl (omega (arith, h, l)) }))
      larger b (inr l) = z (number (record { header = b.header; above = inr (omega (arith, k, l)) }))

  -- limits above 64 and 65,536 count as 64 and 65,536
  pub within_capped : (cells most : ℕ) → reading_within cells most s ≡ reading_within (min cells most_cells) (min most most_bytes) s
  within_capped cells most = go (eqb (reading_within (min cells most_cells) (min most most_bytes) s).number 26) refl
    where
      capped : Beyond (min cells most_cells) (min most most_bytes) s → Beyond cells most s
      capped b = record { header = b.header; above = above b.above }
        where
          above : (min cells most_cells < cells_of s) ⊎ (min most most_bytes < length s) → (cells < cells_of s) ⊎ (most < length s)
          above (inl l) = inl (omega (arith, l, (counts_facts (cells_of s) (steps_of s) b.header.counts).cells))
          above (inr l) = inr (omega (arith, l, (length_facts s b.header.lengths).1))

      go : (b : Bool) → eqb (reading_within (min cells most_cells) (min most most_bytes) s).number 26 ≡ b
          → reading_within cells most s ≡ reading_within (min cells most_cells) (min most most_bytes) s
      go false e =
          within_larger (min cells most_cells) (min most most_bytes) cells most (omega arith) (omega arith)
          (eqb-false (reading_within (min cells most_cells) (min most most_bytes) s).number 26 e)
      go true e =
          let z = eqb-true (reading_within (min cells most_cells) (min most most_bytes) s).number 26 e in
          let b = refused_beyond (min cells most_cells) (min most most_bytes) z in
          beyond_refused cells most (capped b) ∙ sym (beyond_refused (min cells most_cells) (min most most_bytes) b)

-- the answer after the header's tests is reading's if 26 does not apply
pub answer_within : (cells most : ℕ) {s : List ℕ} {n T : ℕ} → Header s n T → caller_ok cells most n (length s) ≡ true
    → {x : ReadAnswer} → x ≡ reading_of s → x ≡ reading_within cells most s
answer_within cells most {s} {n} {T} h k e =
    let f = caller_facts {cells = cells} {most = most} {n = n} {size = length s} k in
    e ∙ sym (within_kept s cells most (omega (arith, f.0, h.cells)) f.1)
