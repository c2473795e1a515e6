-- The rooms of a step, stored while its releases are tested and used for its outflows. Assumes nothing.
use Rattle.std.specs.Prelude.{◌≡◌, List, ℕ, ◌+◌, ◌≤◌, ◌<◌, length, set}
use Rattle.std.proofs.Math.Path.{refl, ap}
use Rattle.std.proofs.Common.{◌∙◌, arith}
use Rattle.model.specs.Flow.{supply_of, room_of}
use Rattle.model.specs.Numbers.{fill_of, at}
use Rattle.numbers.specs.RowsLaws.{fill_more, fill_at}
use Rattle.model.specs.declared.Road.{Road}
use Rattle.model.specs.declared.State.{State}
use Rattle.model.specs.Flow.{capacity_at, release_at, room_at}

-- the entries of a list are the rooms of the cells
abbrev pub Rooms : Road → State → List ℕ → List ℕ → Type 0
Rooms r s row room = (i : ℕ) → i < r.n → at room i ≡ room_at r s row i

-- the rooms of the first i cells are put into l
pub record RoomsSoFar (r : Road) (s : State) (row l room : List ℕ) (i : ℕ) : Type 0 where
  pub filled : room ≡ fill_of (room_at r s row) i l

module _ {r : Road} {s : State} {row l : List ℕ} where
  pub roomed_none : RoomsSoFar r s row l l 0
  unfolding fill_of
  roomed_none = record { filled = refl }

  -- one more room, from the supply that the code computes
  pub roomed_more : {room : List ℕ} {i supply x : ℕ} → RoomsSoFar r s row l room i
      → supply ≡ supply_of (at r.wave i) (at r.capacity i) (at r.jam i) (at s.held i) → x ≡ room_of supply (release_at row i)
      → RoomsSoFar r s row l (set room i x) (i + 1)
  unfolding capacity_at
  roomed_more {room} {i} {supply} {x} h es ex =
      let e : x ≡ room_at r s row i = ex ∙ ap (λ (q : ℕ). room_of q (release_at row i)) es in
      let filled = h.filled in
      record { filled = cc (fill_more (room_at r s row) i l) }

  pub roomed_end : {room : List ℕ} {i : ℕ} → RoomsSoFar r s row l room i → r.n ≤ i → i ≤ length l → Rooms r s row room
  roomed_end {room} {i} h end long j less =
      ap (λ (x : List ℕ). at x j) h.filled ∙ fill_at (room_at r s row) i l j (omega (arith, less, end)) long
