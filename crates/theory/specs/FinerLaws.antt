-- Laws of the finer study: its lists, the road of each of its steps, and the shares from a place on. Assumes nothing.
use Rattle.std.specs.Prelude.{◌≡◌, Bool, List, [], ◌∷◌, length}
use Rattle.std.proofs.Math.Path.{refl, ap}
use Rattle.std.proofs.Common.{◌∙◌, mul-le-mul_left, le-div_iff_mul-le, div-lt_iff_lt-mul}
use Rattle.std.proofs.Math.Bool.{true, false, cond}
use Prim.Native.Nat.{ℕ, zero, suc, ◌+◌, ◌-◌, ◌*◌, ◌/◌, ◌^◌, ◌≤◌, ◌<◌, min}
use Rattle.std.proofs.Math.Nat.{div-zero, pow-succ', mul-pos, mul-le-mul, mul-div-le, lt-mul-div-succ}
use native.Mathlib.Omega.{arith}
use Rattle.std.specs.Int.Count.{ones}
use Rattle.std.proofs.Math.Dec.{eqb}
use borrow.Author.Tests.{eqb-false, eq-eqb, ne_eqb}
use Rattle.model.specs.Numbers.{at}
use Rattle.model.specs.Flow.{whole}
use Rattle.numbers.specs.RowsLaws.{fill_at}
use Rattle.model.specs.Lanes.{most_number, open_capacity, built_in, open_in}
use Rattle.model.specs.declared.Road.{Road}
use Rattle.model.specs.declared.State.{State}
use Rattle.model.specs.Road.{most_rate}
use Rattle.model.specs.Schedules.{Study, open_road, road_at}
use Rattle.limits.specs.LimitsLaws.{RoadOk}
use Rattle.model.specs.Flow.{capacity_at, share_at}
use Rattle.theory.specs.RulesLaws.{onward_at, share_le}
use Rattle.theory.specs.Roads.{Alike, share_alike, onward_alike}
use Rattle.theory.specs.RunsLaws.{StudyOk}
use Rattle.theory.specs.Finer.{times_of, scaled_road, scaled, product_from, count_from, reach_of, thousands_of}

pub length_times : (K : ℕ) (l : List ℕ) → length (times_of K l) ≡ length l
unfolding times_of
length_times K [] = refl
length_times K (x ∷ l) = ap suc (length_times K l)

pub times_at : (K : ℕ) (l : List ℕ) (i : ℕ) → at (times_of K l) i ≡ K * at l i
unfolding times_of
times_at K [] i = omega arith
times_at K (x ∷ l) zero = refl
times_at K (x ∷ l) (suc i) = times_at K l i

-- the roads of a step: q' has q's cells, speeds, waves and shares, and K times its jam counts and gate capacity. Its capacities are K times
-- q's, except for what closed lanes round down
pub record FinerRoad (K : ℕ) (q q' : Road) : Type 0 where
  pub n : q'.n ≡ q.n
  pub gate : q'.gate_capacity ≡ K * q.gate_capacity
  pub speed : q'.speed ≡ q.speed
  pub wave : q'.wave ≡ q.wave
  pub share : q'.share ≡ q.share
  pub jam : q'.jam ≡ times_of K q.jam
  pub least : (i : ℕ) → i < q.n → K * capacity_at q i ≤ capacity_at q' i
  pub most : (i : ℕ) → i < q.n → capacity_at q' i < K * capacity_at q i + K

module _ {K : ℕ} {q q' : Road} (f : FinerRoad K q q') where
  pub finer_alike : Alike q q'
  finer_alike = record { n = f.n; share = λ i l. ap (λ (x : List ℕ). at x i) f.share }

  pub finer_speed : (i : ℕ) → at q'.speed i ≡ at q.speed i
  finer_speed i = ap (λ (x : List ℕ). at x i) f.speed

  pub finer_wave : (i : ℕ) → at q'.wave i ≡ at q.wave i
  finer_wave i = ap (λ (x : List ℕ). at x i) f.wave

  pub finer_jam : (i : ℕ) → at q'.jam i ≡ K * at q.jam i
  finer_jam i = ap (λ (x : List ℕ). at x i) f.jam ∙ times_at K q.jam i

  pub finer_onward : (u : State) (p : ℕ) → p ≤ q.n → onward_at q' u p ≡ onward_at q u p
  finer_onward u p l = onward_alike q q' finer_alike u p l

-- with all lanes open
pub finer_open : (K : ℕ) (r : Road) → 0 < K → FinerRoad K r (scaled_road K r)
unfolding capacity_at
finer_open K r k = record {
  n = refl;
  gate = refl;
  speed = refl;
  wave = refl;
  share = refl;
  jam = refl;
  least = λ i l. omega (arith, times_at K r.capacity i);
  most = λ i l. omega (arith, times_at K r.capacity i);
}

-- the quotient of a dividend that is K times as large
finer_quotient : (K x y : ℕ) → 0 < y → K * (x / y) ≤ K * x / y
finer_quotient K x y h = (le-div_iff_mul-le {k = y} {x = K * (x / y)} {y = K * x} h).1 (omega (arith, mul-le-mul_left K (mul-div-le x y)))

finer_quotient_most : (K x y : ℕ) → 0 < K → 0 < y → K * x / y < K * (x / y) + K
finer_quotient_most K x y k h =
    (div-lt_iff_lt-mul {k = y} {x = K * x} {y = K * (x / y) + K} h).1 (omega (arith, mul-le-mul_left K (lt-mul-div-succ x h), k))

-- the greatest K for which a finer study's capacities under closed lanes stay within 32 bits
abbrev pub most_finer : ℕ
most_finer = 4294

-- the capacity that open lanes leave of K times a capacity
module _ (K c built usable : ℕ) (k : 0 < K) (m : K ≤ most_finer) (l : open_capacity c built usable ≤ most_rate) where
  quotients : (some : ℕ) → ones built ≡ some
      → (K * min (c * ones usable / some) most_number ≤ min (K * c * ones usable / some) most_number)
      × (min (K * c * ones usable / some) most_number < K * min (c * ones usable / some) most_number + K)
  unfolding open_capacity
  quotients zero e = rw (div-zero (c * ones usable), div-zero (K * c * ones usable)) (omega arith, omega arith)
  quotients (suc b) e =
      let same : K * c * ones usable ≡ K * (c * ones usable) = omega arith in
      let x : ℕ = c * ones usable / suc b in
      let small : min (c * ones usable / suc b) most_number ≤ most_rate = rw e at l in
      let within : c * ones usable / suc b ≤ most_rate = omega arith in
      let i : min (c * ones usable / suc b) most_number ≡ c * ones usable / suc b = omega arith in
      let low : K * (c * ones usable / suc b) ≤ K * (c * ones usable) / suc b = finer_quotient K (c * ones usable) (suc b) (omega arith) in
      let high : K * (c * ones usable) / suc b < K * (c * ones usable / suc b) + K = finer_quotient_most K (c * ones usable) (suc b) k (omega arith) in
      let top : K * (c * ones usable / suc b) + K ≤ most_number = omega (arith, mul-le-mul m within) in
      rw (same, i) (omega arith, omega arith)

  pub closed_capacity : (K * open_capacity c built usable ≤ open_capacity (K * c) built usable)
      × (open_capacity (K * c) built usable < K * open_capacity c built usable + K)
  unfolding open_capacity
  closed_capacity = quotients (ones built) refl

-- with closed lanes
pub finer_closed : (K : ℕ) (r : Road) (built usable : List ℕ) → 0 < K → K ≤ most_finer → r.n ≤ length r.capacity
    → RoadOk (open_road r built usable) → FinerRoad K (open_road r built usable) (open_road (scaled_road K r) built usable)
unfolding capacity_at
finer_closed K r built usable k m sized ok =
    let there : (i : ℕ) → i < r.n → at (open_road r built usable).capacity i ≡ open_capacity (at r.capacity i) (at built i) (at usable i) =
    λ i l. fill_at (λ j. open_capacity (at r.capacity j) (at built j) (at usable j)) r.n r.capacity i l sized in
    let finer : (i : ℕ) → i < r.n
    → at (open_road (scaled_road K r) built usable).capacity i ≡ open_capacity (K * at r.capacity i) (at built i) (at usable i) =
    λ i l.
    fill_at (λ j. open_capacity (at (times_of K r.capacity) j) (at built j) (at usable j)) r.n (times_of K r.capacity) i l
    (omega (arith, length_times K r.capacity))
    ∙ ap (λ (x : ℕ). open_capacity x (at built i) (at usable i)) (times_at K r.capacity i) in
    let both : (i : ℕ) → i < r.n
    → (K * open_capacity (at r.capacity i) (at built i) (at usable i) ≤ open_capacity (K * at r.capacity i) (at built i) (at usable i))
    × (open_capacity (K * at r.capacity i) (at built i) (at usable i) < K * open_capacity (at r.capacity i) (at built i) (at usable i) + K) =
    λ i l. closed_capacity K (at r.capacity i) (at built i) (at usable i) k m (omega (arith, ok.capacity i l, there i l)) in
    record {
      n = refl;
      gate = refl;
      speed = refl;
      wave = refl;
      share = refl;
      jam = refl;
      least = λ i l. rw (there i l, finer i l) (both i l).0;
      most = λ i l. rw (there i l, finer i l) (both i l).1;
    }

-- the roads of every step of a study and of the finer study, with all lanes open
pub roads_open : (K : ℕ) (a : Study) → 0 < K → length a.lanes ≡ 0 → (j : ℕ) → FinerRoad K (road_at a j) (road_at (scaled K a) j)
unfolding road_at
roads_open K a k e j = rw (eq-eqb (length a.lanes) 0 e) (finer_open K a.road k)

-- the same with any table of lanes, for K up to 4,294
pub roads_closed : (K : ℕ) (a : Study) → 0 < K → K ≤ most_finer → a.road.n ≤ length a.road.capacity → StudyOk a
    → (j : ℕ) → FinerRoad K (road_at a j) (road_at (scaled K a) j)
unfolding road_at
roads_closed K a k m sized ok j = go (eqb (length a.lanes) 0) (ok.roads j).ok
  where
    go : (t : Bool)
        → RoadOk (cond t a.road (open_road a.road (built_in a.lanes a.road.n) (open_in a.lanes a.road.n j)))
        → FinerRoad K (cond t a.road (open_road a.road (built_in a.lanes a.road.n) (open_in a.lanes a.road.n j)))
        (cond t (scaled_road K a.road) (open_road (scaled_road K a.road) (built_in a.lanes a.road.n) (open_in a.lanes a.road.n j)))
    go true h = finer_open K a.road k
    go false h = finer_closed K a.road (built_in a.lanes a.road.n) (open_in a.lanes a.road.n j) k m sized h

-- the shares from a place on
module _ (b : ℕ → ℕ) where
  product_stop : (p m : ℕ) → b p ≡ 0 → (product_from b p m ≡ 1) × (count_from b p m ≡ 0)
  unfolding product_from count_from
  product_stop p zero e = (refl, refl)
  product_stop p (suc m) e = rw (eq-eqb (b p) 0 e) (refl, refl)

  product_on : (p m : ℕ) → (b p ≡ 0 → ⊥)
      → (product_from b p (suc m) ≡ b p * product_from b (suc p) m) × (count_from b p (suc m) ≡ suc (count_from b (suc p) m))
  unfolding product_from count_from
  product_on p m h = rw (ne_eqb (b p) 0 h) (refl, refl)

  product_pos : (p m : ℕ) → 0 < product_from b p m
  unfolding product_from
  product_pos p zero = omega arith
  product_pos p (suc m) = go (eqb (b p) 0) refl (product_pos (suc p) m)
    where
      go : (t : Bool) → eqb (b p) 0 ≡ t → 0 < product_from b (suc p) m → 0 < cond t 1 (b p * product_from b (suc p) m)
      go true e rest = omega arith
      go false e rest = let h = eqb-false (b p) 0 e in mul-pos (omega arith) rest

  -- none of them is above 1,000
  product_le : (p m : ℕ) → ((i : ℕ) → i < m → b (p + i) ≤ whole) → product_from b p m ≤ whole ^ count_from b p m
  unfolding product_from count_from
  product_le p zero h = omega arith
  product_le p (suc m) h =
      let z : p + 0 ≡ p = omega arith in
      go (eqb (b p) 0) (rw z at (h 0 (omega arith)))
      (product_le (suc p) m (λ i l. let e : p + suc i ≡ suc p + i = omega arith in rw e at (h (suc i) (omega arith))))
    where
      go : (t : Bool) → b p ≤ whole → product_from b (suc p) m ≤ whole ^ count_from b (suc p) m
          → cond t 1 (b p * product_from b (suc p) m) ≤ whole ^ cond t 0 (suc (count_from b (suc p) m))
      go true first rest = omega arith
      go false first rest = omega (arith, mul-le-mul first rest, pow-succ' whole (count_from b (suc p) m))

module _ (r : Road) where
  pub reach_stop : (p : ℕ) → share_at r p ≡ 0 → (reach_of r p ≡ 1) × (thousands_of r p ≡ 1)
  unfolding reach_of thousands_of
  reach_stop p e =
      let h = product_stop (share_at r) p (r.n - p) e in
      (h.0, ap (λ (m : ℕ). whole ^ m) h.1)

  pub reach_on : (p : ℕ) → p < r.n → (share_at r p ≡ 0 → ⊥)
      → (reach_of r p ≡ share_at r p * reach_of r (suc p)) × (thousands_of r p ≡ whole * thousands_of r (suc p))
  unfolding reach_of thousands_of
  reach_on p l some =
      let e : r.n - p ≡ suc (r.n - suc p) = omega arith in
      let h = product_on (share_at r) p (r.n - suc p) some in (
        ap (product_from (share_at r) p) e ∙ h.0,
        ap (λ (m : ℕ). whole ^ count_from (share_at r) p m) e ∙ ap (λ (m : ℕ). whole ^ m) h.1
            ∙ pow-succ' whole (count_from (share_at r) (suc p) (r.n - suc p)),
      )

  pub reach_pos : (p : ℕ) → 0 < reach_of r p
  unfolding reach_of
  reach_pos p = product_pos (share_at r) p (r.n - p)

  pub reach_le : RoadOk r → (p : ℕ) → p ≤ r.n → reach_of r p ≤ thousands_of r p
  unfolding reach_of thousands_of
  reach_le ok p l = product_le (share_at r) p (r.n - p) (λ i m. share_le r ok (p + i) (omega arith))

-- roads with the same cells and shares
module _ (a b : Road) (h : Alike a b) where
  product_same : (p m : ℕ) → p + m ≤ a.n
      → (product_from (share_at b) p m ≡ product_from (share_at a) p m) × (count_from (share_at b) p m ≡ count_from (share_at a) p m)
  unfolding product_from count_from
  product_same p zero l = (refl, refl)
  product_same p (suc m) l =
      let rest = product_same (suc p) m (omega arith) in
      (rw (share_alike a b h p (omega arith), rest.0), rw (share_alike a b h p (omega arith), rest.1))

  pub reach_alike : (p : ℕ) → p ≤ a.n → (reach_of b p ≡ reach_of a p) × (thousands_of b p ≡ thousands_of a p)
  unfolding reach_of thousands_of
  reach_alike p l =
      let same = product_same p (a.n - p) (omega arith) in (
        ap (λ (n : ℕ). product_from (share_at b) p (n - p)) h.n ∙ same.0,
        ap (λ (n : ℕ). whole ^ count_from (share_at b) p (n - p)) h.n ∙ ap (λ (m : ℕ). whole ^ m) same.1,
      )
