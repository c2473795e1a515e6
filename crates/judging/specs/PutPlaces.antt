-- A row of places that a loop writes into a list, gate first. Assumes nothing.
use Rattle.std.specs.Prelude.{◌≡◌, refl, List, ℕ, ◌+◌, ◌≤◌, ◌<◌, length, get_or, set}
use Rattle.std.proofs.Common.{sym, ap, subst, ◌∙◌, add-one, arith}
use Rattle.model.specs.Numbers.{at, placed}
use Rattle.numbers.specs.RowsLaws.{length_list, list_at}
use Rattle.numbers.specs.PlacedText.{CopiedText, copied_none, copied_more, copied_end}
use Rattle.model.specs.Judging.{place_number, places_of}

-- the places before i are written, and x is the number of the next
pub record PuttingPlaces (gate : ℕ) (cells : List ℕ) (n : ℕ) (list₀ : List ℕ) (from : ℕ) (list : List ℕ) (i x : ℕ) : Type 0 where
  pub within : i ≤ n
  pub carried : x ≡ place_number gate cells i
  pub copied : CopiedText list₀ from (places_of gate cells n) list i

module _ {gate : ℕ} {cells : List ℕ} {n : ℕ} {list₀ : List ℕ} {from : ℕ} where
  pub putting_none : PuttingPlaces gate cells n list₀ from list₀ 0 gate
  putting_none = record { within = omega arith; carried = refl; copied = copied_none }

  module _ {list : List ℕ} {i x : ℕ} (h : PuttingPlaces gate cells n list₀ from list i x) where
    size : length (places_of gate cells n) ≡ n + 1
    size = length_list (place_number gate cells) (n + 1)

    stored : CopiedText list₀ from (places_of gate cells n) (set list (from + i) x) (i + 1)
    stored =
        let e : get_or (places_of gate cells n) i 0 ≡ x = list_at (place_number gate cells) (n + 1) i (omega (arith, h.within)) ∙ sym h.carried in
        subst (λ (u : ℕ). CopiedText list₀ from (places_of gate cells n) (set list (from + i) u) (i + 1)) e
        (copied_more h.copied (omega (arith, h.within, size)))

    pub putting_more : i < n → {y : ℕ} → y ≡ at cells i → PuttingPlaces gate cells n list₀ from (set list (from + i) x) (i + 1) y
    putting_more l e = record { within = omega arith; carried = e ∙ ap (place_number gate cells) (sym (add-one i)); copied = stored }

    pub putting_end : n ≤ i → set list (from + n) x ≡ placed list₀ from (places_of gate cells n)
    putting_end l =
        let e : i ≡ n = omega (arith, h.within) in
        ap (λ (j : ℕ). set list (from + j) x) (sym e) ∙ (copied_end stored (omega (arith, size))).1
