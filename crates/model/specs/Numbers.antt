-- Used by every section: entries of lists, tests one after the other, sums, rows given place by place, and numbers put into a list. Assumes nothing.
use Rattle.std.specs.Prelude.{Bool, true, false, cond, List, [], ◌∷◌, ◌++◌, ℕ, zero, suc, ◌+◌, ◌*◌, get_or, set, take, drop, eqb}
use Rattle.std.proofs.lemmas.List.Edits.{sets}

-- entry i of a list, 0 past its end
abbrev pub at : List ℕ → ℕ → ℕ
at l i = get_or l i 0

-- a refusal if a test fails, and otherwise what comes after it
abbrev pub unless : {A : Type 0} → Bool → A → A → A
unless test refused rest = cond test rest refused

-- whether a number is in a list
unfoldable pub one_of : List ℕ → ℕ → Bool
one_of [] n = false
one_of (x ∷ xs) n = cond (eqb n x) true (one_of xs n)

-- the first of the n numbers from i on at which f fails, i + n if there is none
unfoldable pub first_from : (ℕ → Bool) → ℕ → ℕ → ℕ
first_from f i zero = i
first_from f i (suc n) = cond (f i) (first_from f (suc i) n) i

-- the first number below n at which f fails, n if there is none
unfoldable pub first_of : (ℕ → Bool) → ℕ → ℕ
first_of f n = first_from f 0 n

-- f holds for all numbers below n
abbrev pub all_of : (ℕ → Bool) → ℕ → Bool
all_of f n = eqb (first_of f n) n

-- a refusal at the first number below n at which a test fails, and otherwise what comes after it
abbrev pub unless_first : {A : Type 0} → (ℕ → Bool) → ℕ → (ℕ → A) → A → A
unless_first test n refused rest = unless (all_of test n) (refused (first_of test n)) rest

-- f gives each number's fault, 0 for none: the first number below n with a fault, n if none has one
unfoldable pub first_fault : (ℕ → ℕ) → ℕ → ℕ
first_fault f n = first_of (λ i. eqb (f i) 0) n

-- the sum of a row of numbers
unfoldable pub sum_of : List ℕ → ℕ
sum_of [] = 0
sum_of (x ∷ xs) = x + sum_of xs

-- the list l with its first n entries given by f, the others unchanged
unfoldable pub fill_of : (ℕ → ℕ) → ℕ → List ℕ → List ℕ
fill_of f zero l = l
fill_of f (suc n) l = set (fill_of f n l) n (f n)

-- the first n values of f
unfoldable pub list_of : (ℕ → ℕ) → ℕ → List ℕ
list_of f zero = []
list_of f (suc n) = list_of f n ++ (f n ∷ [])

-- the first n lists of f, one after the other
unfoldable pub concat_of : (ℕ → List ℕ) → ℕ → List ℕ
concat_of f zero = []
concat_of f (suc n) = concat_of f n ++ f n

-- row k of a table of rows of w numbers
unfoldable pub row_at : List ℕ → ℕ → ℕ → List ℕ
row_at l w k = take w (drop (k * w) l)

-- a lent list with the first k rows of w numbers written in front; what is beyond them is unchanged
unfoldable pub front_of : (ℕ → List ℕ) → ℕ → List ℕ → ℕ → List ℕ
front_of rows w list k = concat_of rows k ++ drop (k * w) list

-- the list with the text's bytes from index `at` on
unfoldable pub placed : List ℕ → ℕ → List ℕ → List ℕ
placed list at text = sets list at text
