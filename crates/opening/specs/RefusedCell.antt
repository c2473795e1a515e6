-- The code's search for the cell that 18 names. Assumes nothing.
use Rattle.std.specs.Prelude.{◌≡◌, List, ℕ, ◌+◌, length}
use Rattle.std.proofs.Common.{sym, ap, ◌∙◌}
use Rattle.model.specs.Refusals.{fault, FaultAnswer}
use Rattle.model.specs.Numbers.{first_of}
use Rattle.model.specs.Lanes.{table_at, table_bytes}
use Rattle.model.specs.Stepping.{table_fault}
use Rattle.theory.specs.StepLaws.{table_cell}

pub fault_cell : (table : List ℕ) (n T : ℕ) → (length table ≡ 0 → ⊥) → length table ≡ table_bytes n T → {cell : ℕ} → cell ≡ first_of (table_at table n T) n
    → (cell ≡ n → ⊥) → {q : FaultAnswer} → q ≡ fault 18 (cell + 1) → q ≡ table_fault table n T
fault_cell table n T some right e h eq =
    eq ∙ ap (λ (i : ℕ). fault 18 (i + 1)) e ∙ sym (table_cell table n T some right (λ z. h (e ∙ z)))
