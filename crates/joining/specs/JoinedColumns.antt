-- The entries of joined columns, shares and rows: upstream's, then downstream's. Assumes nothing.
use Rattle.std.specs.Prelude.{◌≡◌, List, ℕ, ◌+◌, ◌-◌, ◌*◌, ◌≤◌, ◌<◌, length, drop}
use Rattle.std.proofs.Common.{sym, ap, subst, ◌∙◌, ⊎_elim, arith, length-append, length-drop, get_or-append-add, get_or-drop, le-leb, eq-eqb, ne_eqb}
use Rattle.std.proofs.Math.ListN.{get_or-append}
use Rattle.std.proofs.lemmas.Bool.{lt-leb}
use Rattle.model.specs.Numbers.{at, fill_of}
use Rattle.numbers.specs.Tests.{order}
use Rattle.numbers.specs.RowsLaws.{fill_at, fill_past, fill_same}
use Rattle.model.specs.Road.{most_cells, zeros}
use Rattle.numbers.specs.Zeros.{length_zeros, zeros_at}
use Rattle.model.specs.Record.{row_numbers}
use Rattle.model.specs.Writing.{cut_of}
use Rattle.model.specs.Joining.{joined_entry, joined_column, joined_share, joined_row}

-- what holds for the first n cells and for the m after them holds for all
pub halves : (n m : ℕ) (P : ℕ → Type 0) → ((i : ℕ) → i < n → P i) → ((i : ℕ) → i < m → P (n + i)) → (i : ℕ) → i < n + m → P i
halves n m P up down i l = ⊎_elim
    (λ (h : n ≤ i). let e : n + (i - n) ≡ i = omega arith in subst P e (down (i - n) (omega arith)))
    (λ (h : i < n). up i h)
    (order n i)

-- a joined column l of n + m cells: its first n entries are upstream's, the next m are downstream's, and past them all are 0
pub record ColumnJoined (n m : ℕ) (up down l : List ℕ) : Type 0 where
  pub upper : (i : ℕ) → i < n → at l i ≡ at up i
  pub lower : (i : ℕ) → i < m → at l (n + i) ≡ at down i
  pub past : (i : ℕ) → n + m ≤ i → at l i ≡ 0

-- the shares too, except that upstream's last cell, the joint, has the stated share
pub record JoinedShares (share n m : ℕ) (up down l : List ℕ) : Type 0 where
  pub upper : (i : ℕ) → i + 1 < n → at l i ≡ at up i
  pub joint : (i : ℕ) → i + 1 ≡ n → at l i ≡ share
  pub lower : (i : ℕ) → i < m → at l (n + i) ≡ at down i
  pub past : (i : ℕ) → n + m ≤ i → at l i ≡ 0

-- a joined row: upstream's gate arrivals, and each cell's ramp arrivals and release
pub record JoinedNumbers (n m : ℕ) (up down l : List ℕ) : Type 0 where
  pub numbers : length l ≡ row_numbers (n + m)
  pub gate : at l 0 ≡ at up 0
  pub upper_arrivals : (i : ℕ) → i < n → at l (2 * i + 1) ≡ at up (2 * i + 1)
  pub upper_release : (i : ℕ) → i < n → at l (2 * i + 2) ≡ at up (2 * i + 2)
  pub lower_arrivals : (i : ℕ) → i < m → at l (2 * (n + i) + 1) ≡ at down (2 * i + 1)
  pub lower_release : (i : ℕ) → i < m → at l (2 * (n + i) + 2) ≡ at down (2 * i + 2)

module _ (n : ℕ) (up down : List ℕ) where
  pub entry_up : (i : ℕ) → i < n → joined_entry n up down i ≡ at up i
  entry_up i l = rw (le-leb (i + 1) n (omega arith))

  pub entry_down : (i : ℕ) → joined_entry n up down (n + i) ≡ at down i
  entry_down i = let e : n + i - n ≡ i = omega arith in rw (lt-leb (n + i + 1) n (omega arith), e)

module _ (n m : ℕ) (most : n + m ≤ most_cells) (up down : List ℕ) where
  -- an entry, from the function that gives it
  given : (f : ℕ → ℕ) (i : ℕ) → i < n + m → at (fill_of f (n + m) zeros) i ≡ f i
  given f i l = fill_at f (n + m) zeros i l (omega (arith, length_zeros))

  none : (f : ℕ → ℕ) (i : ℕ) → n + m ≤ i → at (fill_of f (n + m) zeros) i ≡ 0
  none f i l = fill_past f (n + m) zeros i l ∙ zeros_at i

  pub column_joined : ColumnJoined n m up down (joined_column n m up down)
  column_joined = record {
    upper = λ i l. given (joined_entry n up down) i (omega arith) ∙ entry_up n up down i l;
    lower = λ i l. given (joined_entry n up down) (n + i) (omega arith) ∙ entry_down n up down i;
    past = λ i l. none (joined_entry n up down) i l;
  }

  module _ (share : ℕ) where
    abbrev f : ℕ → ℕ
    f = joined_share share n up down

    other : (i : ℕ) → (i + 1 ≡ n → ⊥) → joined_share share n up down i ≡ joined_entry n up down i
    other i h = rw (ne_eqb (i + 1) n h)

    pub shares_joined : JoinedShares share n m up down (fill_of (joined_share share n up down) (n + m) zeros)
    shares_joined = record {
      upper = λ i l. given f i (omega arith) ∙ other i (λ e. omega arith) ∙ entry_up n up down i (omega arith);
      joint = λ i e. given f i (omega arith) ∙ rw (eq-eqb (i + 1) n e);
      lower = λ i l. given f (n + i) (omega arith) ∙ other (n + i) (λ e. omega arith) ∙ entry_down n up down i;
      past = λ i l. none f i l;
    }

-- cutting a column that is 0 past its cells changes nothing
pub cut_own : (f : ℕ → ℕ) (n : ℕ) → n ≤ most_cells → cut_of n (fill_of f n zeros) ≡ fill_of f n zeros
cut_own f n h = fill_same (λ i. at (fill_of f n zeros) i) f n zeros (λ i l. fill_at f n zeros i l (omega (arith, length_zeros)))

-- a row
module _ (n m : ℕ) (up down : List ℕ) (eu : length up ≡ row_numbers n) (ed : length down ≡ row_numbers m) where
  row_up : (k : ℕ) → k < row_numbers n → at (joined_row up down) k ≡ at up k
  row_up k l = get_or-append up (drop 1 down) 0 k (omega arith)

  row_down : (i k j : ℕ) → k ≡ row_numbers n + j → i ≡ 1 + j → at (joined_row up down) k ≡ at down i
  row_down i k j ek ei =
      let e : k ≡ length up + j = omega arith in
      rw e (get_or-append-add up (drop 1 down) j 0 ∙ get_or-drop 1 down j 0 ∙ ap (at down) (sym ei))

  pub row_joined : JoinedNumbers n m up down (joined_row up down)
  row_joined = record {
    numbers = length-append up (drop 1 down) ∙ omega (arith, length-drop 1 down);
    gate = row_up 0 (omega arith);
    upper_arrivals = λ i l. row_up (2 * i + 1) (omega arith);
    upper_release = λ i l. row_up (2 * i + 2) (omega arith);
    lower_arrivals = λ i l. row_down (2 * i + 1) (2 * (n + i) + 1) (2 * i) (omega arith) (omega arith);
    lower_release = λ i l. row_down (2 * i + 2) (2 * (n + i) + 2) (2 * i + 1) (omega arith) (omega arith);
  }
