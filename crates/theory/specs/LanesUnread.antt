-- Lanes past cell n are not read: steps with the same lanes up to cell n are the same. Assumes nothing.
use Rattle.std.specs.Prelude.{◌≡◌, List, ℕ, ◌+◌, ◌<◌, eqb}
use Rattle.std.proofs.Math.Path.{ap}
use Rattle.std.proofs.Common.{◌∙◌}
use Rattle.model.specs.Refusals.{fault}
use Rattle.model.specs.Numbers.{at, unless, first_of}
use Rattle.numbers.specs.FirstLaws.{first_same}
use Rattle.numbers.specs.RowsLaws.{fill_same}
use Rattle.model.specs.Lanes.{open_capacity, lanes_at}
use Rattle.model.specs.declared.Road.{Road}
use Rattle.model.specs.declared.State.{State}
use Rattle.model.specs.Schedules.{with_capacity, open_road}
use Rattle.model.specs.Limits.{input_ok}
use Rattle.model.specs.Stepping.{Answer, answer, step_on, stepping_of}

-- two rows of lanes that agree up to cell n
pub record SameTo (n : ℕ) (lanes other : List ℕ) : Type 0 where
  pub cell : (i : ℕ) → i < n → at lanes i ≡ at other i

module _ (r : Road) {built built' usable usable' : List ℕ} (b : SameTo r.n built built') (u : SameTo r.n usable usable') where
  -- 18 names the same cell
  pub fault_unread : first_of (lanes_at built usable) r.n ≡ first_of (lanes_at built' usable') r.n
  fault_unread = first_same (lanes_at built usable) (lanes_at built' usable') r.n (λ i l. rw (b.cell i l, u.cell i l))

  -- the road of the step is the same
  pub road_unread : open_road r built usable ≡ open_road r built' usable'
  road_unread =
      ap (with_capacity r)
      (fill_same (λ i. open_capacity (at r.capacity i) (at built i) (at usable i)) (λ i. open_capacity (at r.capacity i) (at built' i) (at usable' i))
      r.n r.capacity (λ i l. rw (b.cell i l, u.cell i l)))

  -- a step, from the lowest cell that 18 could name and from the step's road
  abbrev by : State → List ℕ → ℕ → Road → Answer
  by s row p q = unless (input_ok r s row) (answer (fault 7 0) s) (unless (eqb p r.n) (answer (fault 18 (p + 1)) s) (step_on q s row))

  -- the answer is the same
  pub lanes_unread : (s : State) (row : List ℕ) → stepping_of r s row built usable ≡ stepping_of r s row built' usable'
  unfolding stepping_of
  lanes_unread s row =
      ap (λ (p : ℕ). by s row p (open_road r built usable)) fault_unread ∙ ap (by s row (first_of (lanes_at built' usable') r.n)) road_unread
