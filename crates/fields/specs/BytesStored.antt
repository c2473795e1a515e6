-- A number's bytes stored in a list, as the code stores them. Assumes nothing.
use Rattle.std.specs.Prelude.{◌≡◌, refl, List, ℕ, suc, ◌+◌, ◌/◌, ◌%◌, length, set}
use Rattle.std.proofs.Common.{sym, add-one, arith}
use Rattle.model.specs.Numbers.{placed}
use Rattle.numbers.specs.PlacedText.{placed_none, length_placed, Puts}
use Rattle.model.specs.Record.{bytes_of}
use Rattle.fields.specs.BytesLaws.{length_bytes}

-- `after` is `before` with the w bytes of x from `at` on, and `end` is the index after them
pub record StoredBytes (before : List ℕ) (at w x : ℕ) (after : List ℕ) (end : ℕ) : Type 0 where
  pub next : end ≡ at + w
  pub same : length after ≡ length before
  pub bytes : after ≡ placed before at (bytes_of w x)

pub stored : (before : List ℕ) (at w x : ℕ) (after : List ℕ) → after ≡ placed before at (bytes_of w x) → StoredBytes before at w x after (at + w)
stored before at w x after e = record { next = refl; same = rw e (length_placed before at (bytes_of w x)); bytes = e }

-- a number of 0 bytes changes nothing
pub stored_none : (before : List ℕ) (at x : ℕ) {w : ℕ} → w ≡ 0 → StoredBytes before at w x before at
unfolding bytes_of
stored_none before at x e = rw e (record { next = omega arith; same = refl; bytes = sym (placed_none before at) })

pub stored_puts : {before : List ℕ} {at w x : ℕ} {after : List ℕ} {end : ℕ} → StoredBytes before at w x after end → Puts before at (bytes_of w x) after end
stored_puts {w = w} {x = x} h = (omega (arith, h.next, length_bytes w x), h.bytes)

module _ (l : List ℕ) (at x : ℕ) where
  two : at + 2 ≡ suc (suc at)
  two = omega arith

  three : at + 3 ≡ suc (suc (suc at))
  three = omega arith

  -- one, two and four bytes, highest first
  pub one_byte : x % 256 ≡ x → set l at x ≡ placed l at (bytes_of 1 x)
  unfolding placed bytes_of
  one_byte h = rw h

  pub two_bytes : set (set l at (x / 256 % 256)) (at + 1) (x % 256) ≡ placed l at (bytes_of 2 x)
  unfolding placed bytes_of
  two_bytes = rw (add-one at)

  pub four_bytes : set (set (set (set l at (x / 256 / 256 / 256 % 256)) (at + 1) (x / 256 / 256 % 256)) (at + 2) (x / 256 % 256)) (at + 3) (x % 256)
      ≡ placed l at (bytes_of 4 x)
  unfolding placed bytes_of
  four_bytes = rw (add-one at, two, three)
