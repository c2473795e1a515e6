-- The invariant of the loop that fills the list. Assumes nothing.
use Rattle.std.specs.Prelude.{◌≡◌, ℕ, suc, ◌+◌, ◌<◌, ◌≤◌, List, ◌++◌, length, slice_set}
use Rattle.std.proofs.Math.Path.{refl, ap}
use Rattle.std.proofs.Common.{◌∙◌, le_refl, arith, drop_of_length-le}
use mathlib.Core.List.{append-nil}
use Rattle.std.proofs.Math.Numerals.{add-one}
use Rattle.model.specs.Numbers.{fill_of, list_of}
use Rattle.numbers.specs.RowsLaws.{fill_more, fill_list, length_fill}
use Rattle.model.specs.Load.{next_number, arrival_of, number_after, arrival_at, arrivals_of}

-- i arrivals are stored, and `number` gave the last of them
pub record StoredArrivals (seed peak : ℕ) (lent : List ℕ) (number i : ℕ) (list : List ℕ) : Type 0 where
  pub within : i ≤ length lent
  pub last : number ≡ number_after seed i
  pub stored : list ≡ fill_of (arrival_at seed peak) i lent

module _ {seed peak : ℕ} {lent : List ℕ} where
  pub filled_none : StoredArrivals seed peak lent seed 0 lent
  unfolding number_after fill_of
  filled_none = record { within = omega arith; last = refl; stored = refl }

  module _ {number i : ℕ} {list : List ℕ} (h : StoredArrivals seed peak lent number i list) where
    pub filled_length : length list ≡ length lent
    filled_length = ap length h.stored ∙ length_fill (arrival_at seed peak) i lent

    pub filled_more : {following arrives : ℕ} → i < length list → following ≡ next_number number → arrives ≡ arrival_of following peak
        → StoredArrivals seed peak lent following (i + 1) (slice_set list i arrives)
    unfolding number_after
    filled_more {following} l e f =
        let q : following ≡ number_after seed (suc i) = e ∙ ap next_number h.last in
        record {
          within = omega (arith, filled_length);
          last = rw add-one q;
          stored = rw (fill_more, h.stored, f, q);
        }

    pub filled_end : length list ≤ i → (number ≡ number_after seed (length lent)) × (list ≡ arrivals_of seed peak (length lent))
    unfolding arrivals_of
    filled_end l =
        let e : i ≡ length lent = omega (arith, h.within, filled_length) in
        let f = arrival_at seed peak in (
          h.last ∙ ap (number_after seed) e,
          h.stored ∙ ap (λ (n : ℕ). fill_of f n lent) e ∙ fill_list f (length lent) lent (le_refl _)
              ∙ ap (λ (t : List ℕ). list_of f (length lent) ++ t) (drop_of_length-le lent (le_refl (length lent))) ∙ append-nil (list_of f (length lent)),
        )
