-- How a rule changes an error: K times a number of a study, compared with the same number of the study counted K times finer.
-- Laws over numbers, one per rule. Assumes nothing.
use Rattle.std.specs.Prelude.{◌≡◌, ◌⊎◌, ℕ, ◌+◌, ◌-◌, ◌*◌, ◌≤◌, ◌<◌, min}
use Rattle.std.proofs.Common.{ap, ⊎_elim, mul-le-mul_left, mul-le-mul_right, mul-lt-mul_of_pos_right, mul-pos, arith}
use Rattle.std.proofs.Math.Nat.{lt_of_mul-lt-mul_left, le_of_mul-le-mul_left}
use Rattle.numbers.specs.Tests.{order}
use Rattle.model.specs.Flow.{whole, thousandths_of, onward_of}

-- the error of a mean of two numbers, with weights c and s in thousandths, is at most the larger of theirs
mean : (c s P Q R S X : ℕ) → c + s ≡ whole → P ≤ Q + X → R ≤ S + X → c * P + s * R ≤ c * Q + s * S + whole * X
mean c s P Q R S X e h k = omega (arith, mul-le-mul_left c h, mul-le-mul_left s k, ap (λ (z : ℕ). z * X) e)

-- s thousandths of x, rounded down: bounds from below and from above
thousandths_floor : (s x : ℕ) → whole * thousandths_of s x ≤ s * x
unfolding thousandths_of
thousandths_floor s x = omega arith

thousandths_above : (s x : ℕ) → s * x < whole * thousandths_of s x + whole
unfolding thousandths_of
thousandths_above s x = omega arith

-- one rule for demand and for room: A grows by s thousandths of x, where A and x together are what B has let in
module _ (K W s x x' A A' B B' : ℕ) (share : s ≤ whole) (k : 0 < K) (w : 0 < W) (all : x' + A' + K * B ≡ K * x + K * A + B') where
  abbrev c : ℕ
  c = whole - s

  pub thousandths_most : (X : ℕ) → A' * W ≤ K * A * W + X → B' * W ≤ K * B * W + X
      → (A' + thousandths_of s x') * W < K * (A + thousandths_of s x) * W + X + K * W
  thousandths_most X h l =
      let e : c + s ≡ whole = omega arith in
      lt_of_mul-lt-mul_left whole
      (omega (
        arith,
        mean c s (A' * W) (K * A * W) (B' * W) (K * B * W) X e h l,
        ap (λ (z : ℕ). z * (A' * W)) e,
        ap (λ (z : ℕ). z * (K * A * W)) e,
        ap (λ (z : ℕ). s * W * z) all,
        mul-le-mul_right W (thousandths_floor s x'),
        mul-lt-mul_of_pos_right (thousandths_above s x) (mul-pos k w),
      ))

  pub thousandths_least : (X : ℕ) → K * A * W ≤ A' * W + X → K * B * W ≤ B' * W + X
      → K * (A + thousandths_of s x) * W < (A' + thousandths_of s x') * W + X + W
  thousandths_least X h l =
      let e : c + s ≡ whole = omega arith in
      lt_of_mul-lt-mul_left whole
      (omega (
        arith,
        mean c s (K * A * W) (A' * W) (K * B * W) (B' * W) X e h l,
        ap (λ (z : ℕ). z * (A' * W)) e,
        ap (λ (z : ℕ). z * (K * A * W)) e,
        ap (λ (z : ℕ). s * W * z) all,
        mul-le-mul_right (K * W) (thousandths_floor s x),
        mul-lt-mul_of_pos_right (thousandths_above s x') w,
      ))

-- the capacity decides instead; closed lanes may leave the finer study more than K times as much, but by less than K
pub capped_most : (K W X A A' c c' d d' : ℕ) → 0 < W → c' < K * c + K → A' * W ≤ K * A * W + X
    → (A' + d') * W < K * (A + d) * W + X + K * W → (A' + min c' d') * W < K * (A + min c d) * W + X + K * W
capped_most K W X A A' c c' d d' w cap h l = ⊎_elim
    (λ (o : c ≤ d).
    let e : min c d ≡ c = omega arith in
    let m : min c' d' < K * c + K = omega arith in
    omega (arith, ap (λ (z : ℕ). K * z * W) e, mul-lt-mul_of_pos_right m w))
    (λ (o : d < c).
    let e : min c d ≡ d = omega arith in
    let m : min c' d' ≤ d' = omega arith in
    omega (arith, ap (λ (z : ℕ). K * z * W) e, mul-le-mul_right W m))
    (order c d)

pub capped_least : (K W X A A' c c' d d' : ℕ) → 0 < W → K * c ≤ c' → K * A * W ≤ A' * W + X
    → K * (A + d) * W < (A' + d') * W + X + W → K * (A + min c d) * W < (A' + min c' d') * W + X + W
capped_least K W X A A' c c' d d' w cap h l = ⊎_elim
    (λ (o : c' ≤ d').
    let e : min c' d' ≡ c' = omega arith in
    let m : min c d ≤ c = omega arith in
    omega (arith, ap (λ (z : ℕ). z * W) e, mul-le-mul_right W cap, mul-le-mul_right W (mul-le-mul_left K m)))
    (λ (o : d' < c').
    let e : min c' d' ≡ d' = omega arith in
    let m : min c d ≤ d = omega arith in
    omega (arith, ap (λ (z : ℕ). z * W) e, mul-le-mul_right W (mul-le-mul_left K m)))
    (order c' d')

-- an onward total, rounded down, with its bounds
pub onward_floor : (b F : ℕ) → whole * onward_of b F ≤ b * F
unfolding onward_of
onward_floor b F = thousandths_floor b F

pub onward_above : (b F : ℕ) → b * F < whole * onward_of b F + whole
unfolding onward_of
onward_above b F = thousandths_above b F

-- from a cumulative outflow to its onward total, and back; T is the thousands of the shares in W
module _ (K b W T Z F F' : ℕ) (some : W ≤ T) where
  pub share_most : F' * (b * W) ≤ K * F * (b * W) + Z * (whole * T) → onward_of b F' * W ≤ K * onward_of b F * W + (Z + K) * T
  share_most h =
      le_of_mul-le-mul_left {k = whole}
      (omega (
        arith,
        mul-le-mul_right W (onward_floor b F'),
        mul-le-mul_right (K * W) (onward_above b F),
        mul-le-mul_left K some,
      ))
      (omega arith)

  pub share_back_most : onward_of b F' * W ≤ K * onward_of b F * W + Z * T → F' * (b * W) ≤ K * F * (b * W) + (Z + 1) * (whole * T)
  share_back_most h =
      omega (
        arith,
        mul-le-mul_right (K * W) (onward_floor b F),
        mul-le-mul_right W (onward_above b F'),
      )

  pub share_least : K * F * (b * W) ≤ F' * (b * W) + Z * (whole * T) → K * onward_of b F * W ≤ onward_of b F' * W + (Z + 1) * T
  share_least h =
      le_of_mul-le-mul_left {k = whole}
      (omega (
        arith,
        mul-le-mul_right (K * W) (onward_floor b F),
        mul-le-mul_right W (onward_above b F'),
      ))
      (omega arith)

  pub share_back_least : K * onward_of b F * W ≤ onward_of b F' * W + Z * T → K * F * (b * W) ≤ F' * (b * W) + (Z + K) * (whole * T)
  share_back_least h =
      omega (
        arith,
        mul-le-mul_right W (onward_floor b F'),
        mul-le-mul_right (K * W) (onward_above b F),
        mul-le-mul_left K some,
      )

-- the step of one place. G is F plus the demand, M is the onward total plus the room: N, the F after the step, is limited by both.
-- On the side that must keep up, N reaches one of the two
module _ (K b W T Z G G' M M' N N' : ℕ) (k : 0 < K) (some : W ≤ T) where
  pub place_most : G' * (b * W) ≤ K * G * (b * W) + Z * (whole * T) → M' * W ≤ K * M * W + Z * T
      → N' ≤ G' → onward_of b N' ≤ M' → (N ≡ G) ⊎ (onward_of b N ≡ M)
      → (N' * (b * W) ≤ K * N * (b * W) + (Z + K) * (whole * T)) × (onward_of b N' * W ≤ K * onward_of b N * W + (Z + K) * T)
  place_most g m l o = ⊎_elim
      (λ (e : N ≡ G).
      let h : N' * (b * W) ≤ K * N * (b * W) + Z * (whole * T) = omega (arith, ap (λ (z : ℕ). K * z * (b * W)) e, mul-le-mul_right (b * W) l) in
      (omega (arith, h), share_most K b W T Z N N' some h))
      (λ (e : onward_of b N ≡ M).
      let h : onward_of b N' * W ≤ K * onward_of b N * W + Z * T = omega (arith, ap (λ (z : ℕ). K * z * W) e, mul-le-mul_right W o) in
      (omega (arith, share_back_most K b W T Z N N' some h, mul-le-mul_right (whole * T) k), omega (arith, h)))

  pub place_least : K * G * (b * W) ≤ G' * (b * W) + Z * (whole * T) → K * M * W ≤ M' * W + Z * T
      → N ≤ G → onward_of b N ≤ M → (N' ≡ G') ⊎ (onward_of b N' ≡ M')
      → (K * N * (b * W) ≤ N' * (b * W) + (Z + K) * (whole * T)) × (K * onward_of b N * W ≤ onward_of b N' * W + (Z + K) * T)
  place_least g m l o = ⊎_elim
      (λ (e : N' ≡ G').
      let h : K * N * (b * W) ≤ N' * (b * W) + Z * (whole * T) =
      omega (arith, ap (λ (z : ℕ). z * (b * W)) e, mul-le-mul_right (b * W) (mul-le-mul_left K l)) in
      (omega (arith, h), omega (arith, share_least K b W T Z N N' some h, mul-le-mul_right T k)))
      (λ (e : onward_of b N' ≡ M').
      let h : K * onward_of b N * W ≤ onward_of b N' * W + Z * T =
      omega (arith, ap (λ (z : ℕ). z * W) e, mul-le-mul_right W (mul-le-mul_left K o)) in
      (share_back_least K b W T Z N N' some h, omega (arith, h)))
