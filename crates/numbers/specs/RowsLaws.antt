-- Laws of rows given place by place. Assumes nothing.
use Rattle.std.specs.Prelude.{◌≡◌, refl, List, [], ◌∷◌, ◌++◌, ℕ, zero, suc, ◌+◌, ◌-◌, min, ◌≤◌, ◌<◌, length, get_or, set, take, drop}
use Rattle.std.proofs.Common.{sym, ap, ◌∙◌, ⊎_elim, le_refl, le_of_eq, not-suc-le-zero, eq-or-lt_of_le, le_of_suc-le-suc}
use Rattle.std.proofs.Common.{add-one, arith, length-set, length-append, drop-cons, get_or-set_same, get_or-set_other}
use Rattle.std.proofs.Math.ListN.{get_or-append}
use Rattle.std.proofs.lemmas.List.{set-get_or, set_at, get_or_at}
use Rattle.std.proofs.Math.Seq.{append_snoc}
use Rattle.numbers.specs.Tests.{order}
use Rattle.model.specs.Numbers.{sum_of, fill_of, list_of}
use Rattle.numbers.specs.SumLaws.{sum_append, sum_one, sum_start, sum_more}

pub fill_more : (f : ℕ → ℕ) (i : ℕ) (l : List ℕ) → fill_of f (i + 1) l ≡ set (fill_of f i l) i (f i)
unfolding fill_of
fill_more f i l = rw add-one

pub length_fill : (f : ℕ → ℕ) (n : ℕ) (l : List ℕ) → length (fill_of f n l) ≡ length l
unfolding fill_of
length_fill f zero l = refl
length_fill f (suc n) l = rw length-set (length_fill f n l)

-- an entry below n is given by f
pub fill_at : (f : ℕ → ℕ) (n : ℕ) (l : List ℕ) (i : ℕ) → i < n → n ≤ length l → get_or (fill_of f n l) i 0 ≡ f i
unfolding fill_of
fill_at f zero l i h m = absurd (not-suc-le-zero h)
fill_at f (suc n) l i h m = ⊎_elim
    (λ (e : i ≡ n). rw e (get_or-set_same (fill_of f n l) n (f n) 0 (omega (arith, length_fill f n l))))
    (λ (k : i < n). get_or-set_other (fill_of f n l) n i (f n) 0 (λ e. omega arith) ∙ fill_at f n l i k (omega arith))
    (eq-or-lt_of_le (le_of_suc-le-suc h))

-- an entry from n on is unchanged
pub fill_past : (f : ℕ → ℕ) (n : ℕ) (l : List ℕ) (i : ℕ) → n ≤ i → get_or (fill_of f n l) i 0 ≡ get_or l i 0
unfolding fill_of
fill_past f zero l i h = refl
fill_past f (suc n) l i h = get_or-set_other (fill_of f n l) n i (f n) 0 (λ e. omega arith) ∙ fill_past f n l i (omega arith)

pub length_list : (f : ℕ → ℕ) (n : ℕ) → length (list_of f n) ≡ n
unfolding list_of
length_list f zero = refl
length_list f (suc n) = length-append (list_of f n) (f n ∷ []) ∙ omega (arith, length_list f n)

pub list_at : (f : ℕ → ℕ) (n i : ℕ) → i < n → get_or (list_of f n) i 0 ≡ f i
unfolding list_of
list_at f zero i l = absurd (not-suc-le-zero l)
list_at f (suc n) i l = ⊎_elim
    (λ (e : i ≡ n). rw e (get_or_at (list_of f n) (f n) [] 0 n (length_list f n)))
    (λ (m : i < n). get_or-append (list_of f n) (f n ∷ []) 0 i (omega (arith, length_list f n)) ∙ list_at f n i m)
    (eq-or-lt_of_le (le_of_suc-le-suc l))

-- a list whose first n entries were stored one by one
pub fill_list : (f : ℕ → ℕ) (n : ℕ) (l : List ℕ) → n ≤ length l → fill_of f n l ≡ list_of f n ++ drop n l
unfolding fill_of list_of
fill_list f zero l h = refl
fill_list f (suc n) l h =
    ap (λ (x : List ℕ). set x n (f n)) (fill_list f n l (omega arith))
    ∙ ap (λ (x : List ℕ). set (list_of f n ++ x) n (f n)) (drop-cons l n 0 h)
    ∙ set_at (list_of f n) (get_or l n 0) (drop (suc n) l) (f n) n (length_list f n)
    ∙ sym (append_snoc (list_of f n) (f n) (drop (suc n) l))

-- the sum of n values, value by value
pub sum_list_none : (f : ℕ → ℕ) → sum_of (list_of f 0) ≡ 0
unfolding list_of sum_of
sum_list_none f = refl

pub sum_list_more : (f : ℕ → ℕ) (n : ℕ) → sum_of (list_of f (suc n)) ≡ sum_of (list_of f n) + f n
unfolding list_of
sum_list_more f n =
    sum_append (list_of f n) (f n ∷ []) ∙ ap (λ (x : ℕ). sum_of (list_of f n) + x) (sum_one (f n ∷ []) refl)

-- sums of n values, compared value by value
pub sum_list_le : (f g : ℕ → ℕ) (n : ℕ) → ((i : ℕ) → i < n → f i ≤ g i) → sum_of (list_of f n) ≤ sum_of (list_of g n)
sum_list_le f g zero h = omega (arith, sum_list_none f, sum_list_none g)
sum_list_le f g (suc n) h =
    omega (arith, sum_list_more f n, sum_list_more g n, h n (le_refl (suc n)), sum_list_le f g n (λ i l. h i (omega arith)))

pub sum_list_same : (f g : ℕ → ℕ) (n : ℕ) → ((i : ℕ) → i < n → f i ≡ g i) → sum_of (list_of f n) ≡ sum_of (list_of g n)
sum_list_same f g n h =
    omega (
      arith,
      sum_list_le f g n (λ i l. le_of_eq (h i l)),
      sum_list_le g f n (λ i l. le_of_eq (sym (h i l))),
    )

-- the sum of a row's first n entries, as a sum of values
pub sum_list_take : (f : ℕ → ℕ) (l : List ℕ) (n : ℕ) → n ≤ length l → ((i : ℕ) → i < n → f i ≡ get_or l i 0) → sum_of (list_of f n) ≡ sum_of (take n l)
sum_list_take f l zero h e = omega (arith, sum_list_none f, sum_start l)
sum_list_take f l (suc n) h e =
    omega (arith, sum_list_more f n, sum_more n l h, e n (le_refl (suc n)), sum_list_take f l n (omega arith) (λ i k. e i (omega arith)))

-- if all values from m on are 0, the sum of the first m is the sum of any more
sum_list_past : (f : ℕ → ℕ) (m k : ℕ) → ((i : ℕ) → m ≤ i → f i ≡ 0) → sum_of (list_of f (m + k)) ≡ sum_of (list_of f m)
sum_list_past f m zero h = let e : m + 0 ≡ m = omega arith in rw e refl
sum_list_past f m (suc k) h =
    let e : m + suc k ≡ suc (m + k) = omega arith in
    rw e (omega (arith, sum_list_more f (m + k), h (m + k) (omega arith), sum_list_past f m k h))

pub sum_list_min : (f : ℕ → ℕ) (m n : ℕ) → ((i : ℕ) → m ≤ i → f i ≡ 0) → sum_of (list_of f (min n m)) ≡ sum_of (list_of f n)
sum_list_min f m n h = ⊎_elim
    (λ (l : n ≤ m). let e : min n m ≡ n = omega arith in rw e refl)
    (λ (l : m < n).
    let e : min n m ≡ m = omega arith in
    let g : m + (n - m) ≡ n = omega arith in
    rw e (sym (sum_list_past f m (n - m) h) ∙ ap (λ (k : ℕ). sum_of (list_of f k)) g))
    (order n m)

-- functions that agree up to n fill a list alike
pub fill_same : (f g : ℕ → ℕ) (n : ℕ) (l : List ℕ) → ((i : ℕ) → i < n → f i ≡ g i) → fill_of f n l ≡ fill_of g n l
unfolding fill_of
fill_same f g zero l h = refl
fill_same f g (suc n) l h = rw (fill_same f g n l (λ i k. h i (omega arith)), h n (le_refl (suc n)))

pub list_same : (f g : ℕ → ℕ) (n : ℕ) → ((i : ℕ) → i < n → f i ≡ g i) → list_of f n ≡ list_of g n
unfolding list_of
list_same f g zero h = refl
list_same f g (suc n) h = rw (list_same f g n (λ i k. h i (omega arith)), h n (le_refl (suc n)))

-- a list filled with its own entries is unchanged
pub fill_own : (l : List ℕ) (n : ℕ) → fill_of (λ i. get_or l i 0) n l ≡ l
unfolding fill_of
fill_own l zero = refl
fill_own l (suc n) = rw (fill_own l n) (set-get_or l n 0)
