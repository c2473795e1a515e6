-- The theorems of loading: no arrival above the peak; the same list whatever was lent; a load can be continued; 25 exactly. Assumes nothing.
use Rattle.std.specs.Prelude.{◌≡◌, ℕ, zero, suc, ◌+◌, ◌<◌, ◌≤◌, List, [], ◌∷◌, ◌++◌, length, refl}
use Rattle.std.proofs.Common.{sym, ap, ◌∙◌, ⊎_elim, append-nil, append_assoc, add-suc, add-zero, arith, length-append}
use Rattle.model.specs.Numbers.{at, list_of}
use Rattle.numbers.specs.Tests.{order}
use Rattle.model.specs.Road.{most_rate}
use Rattle.model.specs.Load.{next_number, number_after, arrival_at, arrivals_of, LoadAnswer, load_with, loading_of, loaded_list, Arrivals, LoadEnds}
use Rattle.load.specs.LoadLaws.{arrival_most, number_none, number_below, arrivals_length, arrivals_at_lem, refused_answer, refused_list, loaded_answer, loaded_list_lem}

-- 1: every arrival is at most the peak
pub at_most_peak : (seed peak : ℕ) (list : List ℕ) → peak ≤ most_rate → (k : ℕ) → k < length list → at (loaded_list seed peak list) k ≤ peak
at_most_peak seed peak list h k l =
    omega (
      arith,
      ap (λ (x : List ℕ). at x k) (loaded_list_lem seed peak h list),
      arrivals_at_lem seed peak (length list) k l,
      arrival_most (number_after seed (suc k)) peak (number_below seed peak k),
    )

-- 2: the same seed and peak give the same list, whatever was lent
pub same_list : (seed peak : ℕ) (one other : List ℕ) → peak ≤ most_rate → length one ≡ length other
    → loaded_list seed peak one ≡ loaded_list seed peak other
same_list seed peak one other h e = loaded_list_lem seed peak h one ∙ ap (arrivals_of seed peak) e ∙ sym (loaded_list_lem seed peak h other)

-- 3: k + m numbers are k numbers and then m from the last of them
numbers_on : (seed k m : ℕ) → number_after seed (k + m) ≡ number_after (number_after seed k) m
unfolding number_after
numbers_on seed k zero = rw add-zero refl
numbers_on seed k (suc m) = rw (add-suc k m) (ap next_number (numbers_on seed k m))

arrivals_on : (seed peak k m : ℕ) → arrivals_of seed peak (k + m) ≡ arrivals_of seed peak k ++ arrivals_of (number_after seed k) peak m
unfolding arrivals_of list_of number_after
arrivals_on seed peak k zero = rw add-zero (sym (append-nil (list_of (arrival_at seed peak) k)))
arrivals_on seed peak k (suc m) =
    let first = list_of (arrival_at seed peak) k in
    let next = list_of (arrival_at (number_after seed k) peak) m in
    rw (add-suc k m, arrivals_on seed peak k m, numbers_on seed k m) (append_assoc first next (arrival_at (number_after seed k) peak m ∷ []))

-- so a load can be continued: its two lists, one after the other, are the list of both
pub goes_on : (seed peak : ℕ) (first second : List ℕ)
    → loaded_list seed peak (first ++ second) ≡ loaded_list seed peak first ++ loaded_list (loading_of seed peak (length first)).last peak second
goes_on seed peak first second = ⊎_elim
    (λ (h : peak ≤ most_rate).
    let k = length first in
    rw (loaded_answer seed peak h k, loaded_list_lem seed peak h (first ++ second), loaded_list_lem seed peak h first)
    (rw (loaded_list_lem (number_after seed k) peak h second, length-append first second) (arrivals_on seed peak k (length second))))
    (λ (h : most_rate < peak).
    let k = length first in
    rw (refused_answer seed peak h k, refused_list seed peak h (first ++ second), refused_list seed peak h first, refused_list seed peak h second) refl)
    (order peak most_rate)

pub goes_on_last : (seed peak k m : ℕ) → (loading_of seed peak (k + m)).last ≡ (loading_of (loading_of seed peak k).last peak m).last
goes_on_last seed peak k m = ⊎_elim
    (λ (h : peak ≤ most_rate).
    rw (loaded_answer seed peak h (k + m), loaded_answer seed peak h k, loaded_answer (number_after seed k) peak h m) (numbers_on seed k m))
    (λ (h : most_rate < peak). rw (refused_answer seed peak h (k + m), refused_answer seed peak h k, refused_answer seed peak h m) refl)
    (order peak most_rate)

-- 4: an empty list gives the seed
pub empty_list : (seed peak : ℕ) → (loading_of seed peak 0).last ≡ seed
empty_list seed peak = ⊎_elim
    (λ (h : peak ≤ most_rate). rw (loaded_answer seed peak h 0) (number_none seed peak))
    (λ (h : most_rate < peak). rw (refused_answer seed peak h 0) refl)
    (order peak most_rate)

-- 5: 25 applies exactly if the peak is above 1,000,000; it leaves the list unchanged and returns the seed
pub refused_exactly : (seed peak n : ℕ) → (loading_of seed peak n).number ≡ 25 → most_rate < peak
refused_exactly seed peak n e = ⊎_elim
    (λ (h : peak ≤ most_rate). absurd (let z = ap (λ (a : LoadAnswer). a.number) (loaded_answer seed peak h n) in omega arith))
    (λ (h : most_rate < peak). h)
    (order peak most_rate)

pub refused_if : (seed peak : ℕ) (list : List ℕ) → most_rate < peak → (loading_of seed peak (length list) ≡ load_with 25 seed) × (loaded_list seed peak list ≡ list)
refused_if seed peak list h = (refused_answer seed peak h (length list), refused_list seed peak h list)

pub arrivals : (seed peak : ℕ) (list : List ℕ) → peak ≤ most_rate → Arrivals seed peak list (loaded_list seed peak list)
arrivals seed peak list h = record {
  same = ap length (loaded_list_lem seed peak h list) ∙ arrivals_length seed peak (length list);
  each = λ k l. ap (λ (x : List ℕ). at x k) (loaded_list_lem seed peak h list) ∙ arrivals_at_lem seed peak (length list) k l;
  within = at_most_peak seed peak list h;
}

-- 6: every answer is one of the two cases
pub ends : (seed peak : ℕ) (list : List ℕ) → LoadEnds seed peak list (loading_of seed peak (length list)) (loaded_list seed peak list)
ends seed peak list = ⊎_elim
    (λ (h : peak ≤ most_rate). rw (loaded_answer seed peak h (length list)) (LoadEnds.filled h (arrivals seed peak list h)))
    (λ (h : most_rate < peak). rw (refused_answer seed peak h (length list), refused_list seed peak h list) (LoadEnds.refused h))
    (order peak most_rate)

-- an answer and a list that the definitions give are one of the cases, so a contract may promise all three
pub meets_contract : (seed peak : ℕ) (list : List ℕ) {a : LoadAnswer} {left : List ℕ} → a ≡ loading_of seed peak (length list) → left ≡ loaded_list seed peak list
    → (a ≡ loading_of seed peak (length list)) × ((left ≡ loaded_list seed peak list) × LoadEnds seed peak list a left)
meets_contract seed peak list e f = (e, (f, rw (e, f) (ends seed peak list)))
