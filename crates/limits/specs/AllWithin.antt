-- The test whether every number of a list is within a limit, as a fact. Assumes nothing.
use Rattle.std.specs.Prelude.{◌≡◌, true, false, List, ℕ, ◌≤◌, ◌<◌, length}
use Rattle.std.proofs.Math.Path.{sym}
use Rattle.std.proofs.Math.Dec.{leb}
use borrow.Author.Tests.{leb-true, le-leb, lt-leb}
use Rattle.model.specs.Numbers.{at}
use Rattle.numbers.specs.FirstLaws.{all_at, all_true, all_fails}
use Rattle.model.specs.Limits.{all_within}

module _ (list : List ℕ) (most : ℕ) where
  pub within_at : all_within list most ≡ true → (i : ℕ) → i < length list → at list i ≤ most
  unfolding all_within
  within_at h i l = leb-true (at list i) most (all_at (λ j. leb (at list j) most) (length list) h i l)

  pub within_true : ((i : ℕ) → i < length list → at list i ≤ most) → true ≡ all_within list most
  unfolding all_within
  within_true h = sym (all_true (λ i. leb (at list i) most) (length list) (λ i l. le-leb (at list i) most (h i l)))

  pub within_fails : (i : ℕ) → i < length list → most < at list i → false ≡ all_within list most
  unfolding all_within
  within_fails i l h = sym (all_fails (λ j. leb (at list j) most) (length list) i l (lt-leb (at list i) most h))
