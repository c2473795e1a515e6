-- Laws of the generator and of the arrivals. Assumes nothing.
use Rattle.std.specs.Prelude.{◌≡◌, ℕ, suc, ◌+◌, ◌*◌, ◌/◌, ◌^◌, ◌<◌, ◌≤◌, List, length}
use Rattle.std.proofs.Math.Path.{refl, subst⁻¹}
use Rattle.std.proofs.Common.{le_of_lt, mul-le-mul, mul-le-mul_left, mul-le-mul_right, lt_of_le_of_lt, mul-lt-mul_of_pos_right, pow_pos, pow-add, le-leb}
use native.Mathlib.Omega.{arith}
use Rattle.std.proofs.lemmas.Bool.{lt-leb}
use Rattle.model.specs.Numbers.{at}
use Rattle.numbers.specs.RowsLaws.{length_list, list_at}
use Rattle.model.specs.Road.{most_rate}
use Rattle.model.specs.Load.{numbers, half, next_number, arrival_of, number_after, arrival_at, arrivals_of, load_with, loading_of, loaded_list}

-- one law for every width: the product of two numbers of k bits has at most 2k bits
pub product_below : (k : ℕ) {a b : ℕ} → a < 2 ^ k → b < 2 ^ k → a * b < 2 ^ (k + k)
product_below k {a} {b} ha hb =
    subst⁻¹ (λ (n : ℕ). a * b < n) (pow-add 2 k k)
    (lt_of_le_of_lt (mul-le-mul_left a (le_of_lt hb)) (mul-lt-mul_of_pos_right ha (pow_pos k)))

-- the dividend of an arrival
pub dividend_most : (number peak : ℕ) → number < numbers → peak ≤ most_rate → number / half * (peak + 1) ≤ 65535 * (most_rate + 1)
dividend_most number peak h l =
    let a : number / half ≤ 65535 = omega arith in
    let b : peak + 1 ≤ most_rate + 1 = omega arith in
    mul-le-mul a b

pub arrival_most : (number peak : ℕ) → number < numbers → arrival_of number peak ≤ peak
arrival_most number peak h =
    let a : number / half ≤ 65535 = omega arith in
    omega (arith, mul-le-mul_right (peak + 1) a)

module _ (seed peak : ℕ) where
  pub number_none : number_after seed 0 ≡ seed
  unfolding number_after
  number_none = refl

  pub number_more : (n : ℕ) → number_after seed (suc n) ≡ next_number (number_after seed n)
  unfolding number_after
  number_more n = refl

  pub number_below : (k : ℕ) → number_after seed (suc k) < numbers
  unfolding number_after
  number_below k = omega arith

  pub arrivals_length : (n : ℕ) → length (arrivals_of seed peak n) ≡ n
  unfolding arrivals_of
  arrivals_length n = length_list _ n

  pub arrivals_at_lem : (n k : ℕ) → k < n → at (arrivals_of seed peak n) k ≡ arrival_at seed peak k
  unfolding arrivals_of
  arrivals_at_lem n k l = list_at (arrival_at seed peak) n k l

  -- both cases of the answer, by the peak
  module _ (h : most_rate < peak) where
    pub refused_answer : (n : ℕ) → loading_of seed peak n ≡ load_with 25 seed
    unfolding loading_of
    refused_answer n = rw (lt-leb peak most_rate h)

    pub refused_list : (list : List ℕ) → loaded_list seed peak list ≡ list
    unfolding loaded_list
    refused_list list = rw (lt-leb peak most_rate h)

  module _ (h : peak ≤ most_rate) where
    pub loaded_answer : (n : ℕ) → loading_of seed peak n ≡ load_with 0 (number_after seed n)
    unfolding loading_of
    loaded_answer n = rw (le-leb peak most_rate h)

    pub loaded_list_lem : (list : List ℕ) → loaded_list seed peak list ≡ arrivals_of seed peak (length list)
    unfolding loaded_list
    loaded_list_lem list = rw (le-leb peak most_rate h)
