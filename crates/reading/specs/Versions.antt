-- Theorems about the two versions: what a first reader, which knows only version 1, answers, and what reading gives in each version. Assumes nothing.
use Rattle.std.specs.Prelude.{List, [], ◌∷◌, ℕ, ◌+◌, ◌*◌, ◌≤◌, Bool, ◌&&◌, ◌⊎◌, leb, length}
use Rattle.std.proofs.Math.Path.{◌≡◌, refl, ap}
use Rattle.std.proofs.Common.{sym, ◌∙◌, arith, leb-true, eqb-true, eq-eqb, ne_eqb}
use Rattle.std.proofs.Math.Bool.{true, false, cond}
use Rattle.std.proofs.Math.Logic.{inl, inr}
use Rattle.std.proofs.Math.Dec.{eqb}
use Rattle.std.proofs.lemmas.Bool.{eqb-false}
use Rattle.model.specs.Record.{first_version, second_version, version_of, seconds_offset, seconds_size, header_size, gate_capacity_offset, gate_queue_offset, number_of}
use Rattle.model.specs.Road.{most_cells, most_bytes, most_seconds}
use Rattle.model.specs.Reading.{ReadAnswer, reading_by, size_of, both_versions, least_size, length_ok, seconds_ok, refused_of, reading_of}
use Rattle.model.specs.Numbers.{one_of}
use Rattle.numbers.specs.Tests.{le_head, le_then}
use Rattle.fields.specs.FieldsLaws.{seconds_none}
use Rattle.fields.specs.HeaderLaws.{least_both}
use Rattle.reading.specs.Within.{read_within_lem}
use Rattle.reading.specs.Numbers.{read_numbers}

abbrev pub first_alone : List ℕ
first_alone = first_version ∷ []

abbrev pub first_reading_of : List ℕ → ReadAnswer
first_reading_of s = reading_by (record { known = first_alone; cells = most_cells; bytes = most_bytes }) s

-- bytes whose byte 4 is not 2, and so every record of version 1, read as they do for the first reader
pub first_reader_same : (s : List ℕ) → (version_of s ≡ second_version → ⊥) → reading_of s ≡ first_reading_of s
unfolding reading_by one_of
first_reader_same s h = rw (ne_eqb (version_of s) second_version h)

-- every version other than 2 has the layout of version 1
pub record FirstLayout (version : ℕ) : Type 0 where
  pub no_seconds : seconds_size version ≡ 0
  pub gate_capacity : gate_capacity_offset version ≡ 8
  pub gate_queue : gate_queue_offset version ≡ 12
  pub header : header_size version ≡ 16
  pub size : (n T : ℕ) → size_of version n T ≡ 16 + 24 * n + T * (4 + 8 * n)
  pub unread : (seconds : ℕ) → seconds_ok version seconds ≡ true

pub first_layout : (version : ℕ) → (version ≡ second_version → ⊥) → FirstLayout version
first_layout version h =
    let e = seconds_none version h in
    record {
      no_seconds = e;
      gate_capacity = omega (arith, e);
      gate_queue = omega (arith, e);
      header = omega (arith, e);
      size = λ n T. omega (arith, e);
      unread = λ seconds. rw (ne_eqb version second_version h);
    }

-- the first reader does not know version 2; its least size for it is version 1's
second_unknown : (version : ℕ) → version ≡ second_version → one_of first_alone version ≡ false
unfolding one_of
second_unknown version e = rw e

second_least : (version : ℕ) → version ≡ second_version → least_size first_alone version ≤ least_size both_versions version
second_least version e = rw (second_unknown version e, least_both version) (omega (arith, seconds_none first_version (λ z. omega (arith, z))))

-- so a length that reading accepts is right for the first reader too
first_length : (s : List ℕ) → version_of s ≡ second_version → length_ok both_versions s ≡ true → length_ok first_alone s ≡ true
first_length s e h =
    let a = le_head (least_size both_versions (version_of s)) (length s) _ h in
    let l = second_least (version_of s) e in
    le_then (least_size first_alone (version_of s)) (length s) _ (omega (arith, l, a.0)) a.1

-- the first reader refuses a record of version 2 with 2, unless reading refuses its length
pub first_refuses : (s : List ℕ) → version_of s ≡ second_version → ((reading_of s).number ≡ 1 → ⊥) → first_reading_of s ≡ refused_of 2 0
unfolding reading_by
first_refuses s e h = go (length_ok both_versions s) refl
  where
    go : (b : Bool) → length_ok both_versions s ≡ b → first_reading_of s ≡ refused_of 2 0
    go true k = rw (first_length s e k, second_unknown (version_of s) e)
    go false k = absurd (h (rw k))

-- a record that reads
module _ (s : List ℕ) (a : ReadAnswer) (e : a ≡ reading_of s) (h : a.number ≡ 0) where
  -- it has version 1 or 2
  pub read_version : (a.road.version ≡ first_version) ⊎ (a.road.version ≡ second_version)
  unfolding one_of
  read_version = go (eqb a.road.version first_version) (eqb a.road.version second_version) refl refl (read_within_lem s a e h).version
    where
      go : (b c : Bool) → eqb a.road.version first_version ≡ b → eqb a.road.version second_version ≡ c → cond b true (cond c true false) ≡ true
          → (a.road.version ≡ first_version) ⊎ (a.road.version ≡ second_version)
      go true c p q k = inl (eqb-true a.road.version first_version p)
      go false true p q k = inr (eqb-true a.road.version second_version q)
      go false false p q k = absurd (let z : ◌≡◌ {A = ℕ} 0 1 = cc in omega arith)

  -- in version 2 the step has 1 to 900 seconds
  pub read_timed : a.road.version ≡ second_version → (1 ≤ a.road.seconds) × (a.road.seconds ≤ most_seconds)
  read_timed z =
      let k : leb 1 a.road.seconds && leb a.road.seconds most_seconds ≡ true =
      rw (eq-eqb a.road.version second_version z) at (read_within_lem s a e h).seconds in
      let b = le_head 1 a.road.seconds _ k in
      (b.0, leb-true a.road.seconds most_seconds b.1)

  -- in version 1 the seconds are 0
  pub read_untimed : (a.road.version ≡ second_version → ⊥) → a.road.seconds ≡ 0
  unfolding number_of
  read_untimed z =
      let n = read_numbers s a e h in
      n.seconds ∙ ap (number_of s seconds_offset) (seconds_none (version_of s) (λ w. z (n.version ∙ w)))

  -- so they are at most 900 in both
  pub read_seconds : a.road.seconds ≤ most_seconds
  read_seconds = go (eqb a.road.version second_version) refl
    where
      go : (b : Bool) → eqb a.road.version second_version ≡ b → a.road.seconds ≤ most_seconds
      go true k = (read_timed (eqb-true a.road.version second_version k)).1
      go false k = omega (arith, read_untimed (eqb-false a.road.version second_version k))

  -- a record of version 2 that reads is refused by the first reader, with 2
  pub read_refused_first : a.road.version ≡ second_version → first_reading_of s ≡ refused_of 2 0
  read_refused_first z =
      let number : (reading_of s).number ≡ 0 = rw e at h in
      first_refuses s (sym (read_numbers s a e h).version ∙ z) (λ k. omega (arith, number, k))

  -- the first reader reads a record of version 1 as reading does
  pub read_same_first : (a.road.version ≡ second_version → ⊥) → a ≡ first_reading_of s
  read_same_first z = e ∙ first_reader_same s (λ k. z ((read_numbers s a e h).version ∙ k))
