-- Laws of wishes, of their releases and of refusal 16: callers use these and do not unfold the definitions. Assumes nothing.
use Rattle.std.specs.Prelude.{◌≡◌, ℕ, zero, suc, ◌+◌, ◌-◌, ◌*◌, ◌^◌, ◌<◌, ◌≤◌, min, Bool, true, false, cond, not, ◌&&◌, ◌||◌}
use Rattle.std.specs.Prelude.{T, List, [], ◌∷◌, length, pos, negsuc, ◌==◌, ◌≢◌, nat_le, nat_lt, slice_index_or, refl, Float}
use Rattle.std.proofs.Common.{sym, ap, subst, ◌∙◌, true≢false, le_refl, le-div_iff_mul-le, div-lt_iff_lt-mul, mul-pos, zero-mul, le_of_suc-le-suc}
use Rattle.std.proofs.Common.{arith, leb-true, leb-false, ltb-true, le-leb, le-ltb, eqb-true, eq-eqb, ne_eqb, le→leb, leb→le, lt→ltb, lit<}
use Rattle.std.proofs.Math.Logic.{⊎_elim}
use Rattle.std.proofs.Math.Nat.{sub_self}
use Rattle.std.proofs.lemmas.Bool.{eqb-false}
use Rattle.std.proofs.Math.ListN.{get_or-eq_default}
use Rattle.std.specs.Float.Ieee.{nan, up, down, round, sub, eq, lt, le, of_int, of_bits, to_unsigned}
use Rattle.std.specs.Float.{inf, fin, binary64}
use Rattle.std.specs.Float.Ieee.Fits.{down_pos}
use Rattle.std.specs.Float.Ieee.Exact.{HasValue}
use Rattle.std.specs.Float.Ieee.Back.{round_whole}
use Rattle.std.specs.Float.Ieee.Order.{le_of_values}
use Rattle.std.specs.Float.Ieee.Positive.{above, positive as positive_float, positive_of_value, above_of_le, values_of_le}
use Rattle.std.specs.Float.Ieee.Scale.{finite, round_same}
use Rattle.model.specs.Numbers.{at, unless, first_of, all_of}
use Rattle.numbers.specs.Tests.{order}
use Rattle.numbers.specs.FirstLaws.{First, PassedTests, first, first_is, all_at, all_true, passed_stop, passed_fails, passed_all}
use Rattle.model.specs.declared.DemandCapacity.{DemandCapacity}
use Rattle.model.specs.declared.Law.{Law}
use Rattle.model.specs.Meter.{count, demand_capacity_of, whole_below, law_finite, law_at, law_ok, law_fault_of}

-- the wish of demand-capacity, up to the critical count and above it
module _ (p : DemandCapacity) (entered held : ℕ) where
  pub up_to_critical : le (count held) p.critical ≡ true → sub binary64 p.capacity (count entered) ≡ demand_capacity_of p entered held
  unfolding demand_capacity_of
  up_to_critical h = rw h

  pub above_critical : le (count held) p.critical ≡ false → p.least ≡ demand_capacity_of p entered held
  unfolding demand_capacity_of
  above_critical h = rw h

-- the release

-- the release of 2.5, of 3, of −2.5 and of an infinite wish
on_paper : (whole_below (fin false 5 (negsuc 0)) 9 ≡ 2)
    × ((whole_below (fin false 3 (pos 0)) 9 ≡ 3) × ((whole_below (fin true 5 (negsuc 0)) 9 ≡ 0) × (whole_below (inf false) 9 ≡ 9)))
unfolding whole_below
on_paper = (refl, (refl, (refl, refl)))

-- the release is at most the cap
pub whole_most : (x : Float) (cap : ℕ) → whole_below x cap ≤ cap
unfolding whole_below
whole_most nan cap = omega arith
whole_most (inf true) cap = omega arith
whole_most (inf false) cap = omega arith
whole_most (fin true m e) cap = omega arith
whole_most (fin false m e) cap = omega arith

-- with a smaller cap the release is the smaller of the two
pub whole_cap : (x : Float) (most cap : ℕ) → cap ≤ most → whole_below x cap ≡ min (whole_below x most) cap
unfolding whole_below
whole_cap nan most cap h = omega arith
whole_cap (inf true) most cap h = omega arith
whole_cap (inf false) most cap h = omega arith
whole_cap (fin true m e) most cap h = omega arith
whole_cap (fin false m e) most cap h = omega arith

-- it is 0 for a wish that is negative or not a number, and positive infinity gives the cap
pub whole_nan : (cap : ℕ) → whole_below nan cap ≡ 0
unfolding whole_below
whole_nan cap = refl

pub whole_negative : (x : Float) (cap : ℕ) → lt x (count 0) ≡ true → whole_below x cap ≡ 0
unfolding whole_below lt of_int
whole_negative nan cap h = refl
whole_negative (inf true) cap h = refl
whole_negative (inf false) cap h = absurd (true≢false (sym h))
whole_negative (fin true m e) cap h = refl
whole_negative (fin false m e) cap h = absurd (omega (arith, ltb-true (m * up e * 1) (0 * down e) h, zero-mul (down e)))

pub whole_infinite : (cap : ℕ) → whole_below (inf false) cap ≡ cap
unfolding whole_below
whole_infinite cap = refl

-- a 64-bit float represents each count of 32 bits exactly
pub count_value : (k : ℕ) → k < 2 ^ 32 → HasValue (count k) false k 1
unfolding of_int
count_value k h = round_whole binary64 false k (omega arith)

below_infinity : (y : Float) (k : ℕ) → HasValue y false k 1 → T (le y (inf false))
unfolding le
below_infinity nan k h = absurd h
below_infinity (inf s) k h = absurd h
below_infinity (fin s m e) k h = tt

module _ (cap k : ℕ) (some : 0 < k) (within : k ≤ cap) (short : k < 2 ^ 32) where
  -- a count up to the cap that is not above the wish is at most the release
  at_most : (x : Float) → T (le (count k) x) → k ≤ whole_below x cap
  unfolding whole_below
  at_most x t = go x t (above_of_le (count k) x positive t)
    where
      positive : T (positive_float (count k))
      positive = positive_of_value (count k) k 1 (count_value k short) some

      go : (x : Float) → T (le (count k) x) → T (above x) → k ≤ whole_below x cap
      go nan t a = absurd a
      go (inf true) t a = absurd a
      go (inf false) t a = within
      go (fin true m e) t a = absurd a
      go (fin false m e) t a =
          let h = values_of_le (count k) (fin false m e) k 1 (m * up e) (down e) positive a (count_value k short) (refl, refl) t in
          omega (arith, (le-div_iff_mul-le {k = down e} {x = k} {y = m * up e} (down_pos e)).1 (omega arith))

  -- a count that is at most the release is not above the wish
  not_above : (x : Float) → k ≤ whole_below x cap → T (le (count k) x)
  unfolding whole_below
  not_above nan h = absurd (omega arith)
  not_above (inf true) h = absurd (omega arith)
  not_above (inf false) h = below_infinity (count k) k (count_value k short)
  not_above (fin true m e) h = absurd (omega arith)
  not_above (fin false m e) h =
      let l : k * down e ≤ m * up e = (le-div_iff_mul-le {k = down e} {x = k} {y = m * up e} (down_pos e)).0 (omega arith) in
      le_of_values (count k) (fin false m e) k 1 (m * up e) (down e) (lit< tt) (down_pos e) (count_value k short) (refl, refl) (omega arith)

-- two tests that imply each other are equal
same : (a b : Bool) → (T a → T b) → (T b → T a) → a ≡ b
same true true f g = refl
same false false f g = refl
same true false f g = absurd (f tt)
same false true f g = absurd (g tt)

-- so the release is the greatest whole number up to the cap that is not above the wish
pub whole_agrees : (x : Float) (cap k : ℕ) → 0 < k → k ≤ cap → k < 2 ^ 32 → le (count k) x ≡ nat_le k (whole_below x cap)
whole_agrees x cap k some within short =
    same (le (count k) x) (nat_le k (whole_below x cap))
    (λ t. le→leb k (whole_below x cap) (at_most cap k some within short x t))
    (λ t. not_above cap k some within short x (leb→le k (whole_below x cap) t))

pub whole_not_above : (x : Float) (cap : ℕ) → 0 < whole_below x cap → cap < 2 ^ 32 → le (count (whole_below x cap)) x ≡ true
whole_not_above x cap some short =
    let most = whole_most x cap in
    whole_agrees x cap (whole_below x cap) some most (omega arith) ∙ le-leb (whole_below x cap) (whole_below x cap) (le_refl (whole_below x cap))

pub whole_greatest : (x : Float) (cap k : ℕ) → 0 < k → k ≤ cap → cap < 2 ^ 32 → le (count k) x ≡ true → k ≤ whole_below x cap
whole_greatest x cap k some within short h = leb-true k (whole_below x cap) (sym (whole_agrees x cap k some within (omega arith)) ∙ h)

pub whole_under : (x : Float) (cap k : ℕ) → 0 < k → k ≤ cap → cap < 2 ^ 32 → le (count k) x ≡ false → whole_below x cap < k
whole_under x cap k some within short h = leb-false k (whole_below x cap) (sym (whole_agrees x cap k some within (omega arith)) ∙ h)

-- the wish without its fraction

-- if the cap is below 2 ^ 32, the release is the smaller of the cap and the wish without its fraction
whole_cut : (x : Float) (cap : ℕ) → cap < 2 ^ 32 → whole_below x cap ≡ min (to_unsigned 64 x) cap
unfolding whole_below to_unsigned
whole_cut nan cap h = omega arith
whole_cut (inf true) cap h = omega arith
whole_cut (inf false) cap h = omega arith
whole_cut (fin true m e) cap h = omega arith
whole_cut (fin false m e) cap h = omega arith

-- a wish at or above the cap gives the cap
pub whole_all : (x : Float) (cap : ℕ) → cap < 2 ^ 32 → le (count cap) x ≡ true → cap ≡ whole_below x cap
whole_all x zero h t = omega (arith, whole_most x 0)
whole_all x (suc k) h t = omega (arith, whole_most x (suc k), whole_greatest x (suc k) (suc k) (omega arith) (omega arith) h t)

zero_value : HasValue (of_bits binary64 0) false 0 1
unfolding of_bits
zero_value = (refl, refl)

-- a wish that is not at least 0 gives 0
pub whole_none : (x : Float) (cap : ℕ) → le (of_bits binary64 0) x ≡ false → 0 ≡ whole_below x cap
unfolding whole_below
whole_none nan cap h = refl
whole_none (inf true) cap h = refl
whole_none (inf false) cap h = absurd (subst T h (below_infinity (of_bits binary64 0) 0 zero_value))
whole_none (fin true m e) cap h = refl
whole_none (fin false m e) cap h =
    absurd (subst T h (le_of_values (of_bits binary64 0) (fin false m e) 0 1 (m * up e) (down e) (lit< tt) (down_pos e) zero_value (refl, refl) (omega arith)))

-- between 0 and the cap the release is the wish without its fraction
pub whole_between : (x : Float) (cap : ℕ) → cap < 2 ^ 32 → le (count cap) x ≡ false → le (of_bits binary64 0) x ≡ true → to_unsigned 64 x ≡ whole_below x cap
unfolding of_bits le of_int
whole_between x zero h t u = absurd (true≢false (sym u ∙ t))
whole_between x (suc k) h t u =
    omega (arith, whole_cut x (suc k) h, whole_under x (suc k) (suc k) (omega arith) (omega arith) h t)

first_true : (s t : Bool) → s && t ≡ true → s ≡ true
first_true true t h = refl
first_true false t h = h

-- such a wish is above −1
pub above_minus_one : (x : Float) → le (of_bits binary64 0) x ≡ true → T (lt (fin true 1 (pos 0)) x)
unfolding lt le eq of_bits
above_minus_one nan h = absurd (true≢false (sym h))
above_minus_one (inf true) h = absurd (true≢false (sym h))
above_minus_one (inf false) h = tt
above_minus_one (fin true m e) h =
    let zero_wish = eqb-true (0 * down e) (m * up e * 1) (first_true _ _ h) in
    lt→ltb (m * up e * 1) (1 * down e) (omega (arith, zero_wish, down_pos e, zero-mul (down e)))
above_minus_one (fin false m e) h = lt→ltb 0 (1 * down e + m * up e * 1) (omega (arith, down_pos e))

-- and it is below 2 ^ 64
pub below_cast : (x : Float) (cap : ℕ) → cap < 2 ^ 32 → le (count cap) x ≡ false → le (of_bits binary64 0) x ≡ true → T (lt x (fin false 1 (pos 64)))
unfolding lt le eq of_bits of_int whole_below
below_cast nan cap h t u = absurd (true≢false (sym u))
below_cast (inf true) cap h t u = tt
below_cast (inf false) cap h t u = absurd (subst T t (below_infinity (count cap) cap (count_value cap h)))
below_cast (fin true m e) cap h t u = lt→ltb 0 (m * up e * 1 + 18446744073709551616 * down e) (omega (arith, down_pos e))
below_cast (fin false m e) zero h t u = absurd (true≢false (sym u ∙ t))
below_cast (fin false m e) (suc k) h t u =
    let low = whole_under (fin false m e) (suc k) (suc k) (omega arith) (omega arith) h t in
    let cut = (div-lt_iff_lt-mul {k = down e} {x = m * up e} {y = 2 ^ 64} (down_pos e)).0 (omega (arith, low)) in
    lt→ltb (m * up e * 1) (18446744073709551616 * down e) (omega (arith, cut))

-- finite numbers

-- a zero over any c rounds to 0
zero_rounds : (sign : Bool) (c : ℕ) → sign ≡ false → 0 < c → eq (round binary64 sign 0 c) (of_bits binary64 0) ≡ true
unfolding eq of_bits round
zero_rounds sign c p h = rw (p, round_same binary64 false 0 c 0 1 h (lit< tt) (sym (zero-mul c)))

-- a finite number less itself is 0
less_itself : (a c : ℕ) (s : Bool) → 0 < c
    → eq (cond (nat_lt a a) (round binary64 (not s) (a - a) c) (round binary64 (s && nat_lt a a) (a - a) c)) (of_bits binary64 0) ≡ true
less_itself a c s h = rw (le-ltb a a (le_refl a), sub_self a) (zero_rounds (s && false) c (none s) h)
  where
    none : (s : Bool) → (s && false) ≡ false
    none true = refl
    none false = refl

-- a number less itself is 0 exactly if it is finite
pub finite_test : (x : Float) → eq (sub binary64 x x) (of_bits binary64 0) ≡ finite x
unfolding sub eq of_bits
finite_test nan = refl
finite_test (inf true) = refl
finite_test (inf false) = refl
finite_test (fin true m e) = less_itself (m * up e * down e) (down e * down e) true (mul-pos (down_pos e) (down_pos e))
finite_test (fin false m e) = less_itself (m * up e * down e) (down e * down e) false (mul-pos (down_pos e) (down_pos e))

-- two tests joined by `&&`, each replaced by an equal one
pub both_are : {s t u v : Bool} → s ≡ u → t ≡ v → s && t ≡ u && v
both_are p q = rw (p, q)

-- 16

-- the cell at i passes if it has no ramp, or if all numbers of its law are finite
pub ok_no_ramp : (laws : List Law) (ramp : List ℕ) (i : ℕ) → at ramp i ≡ 0 → law_ok laws ramp i ≡ true
unfolding law_ok
ok_no_ramp laws ramp i e = rw (eq-eqb (at ramp i) 0 e)

pub ok_ramp : (laws : List Law) (ramp : List ℕ) (i : ℕ) → (at ramp i ≢ 0) → law_ok laws ramp i ≡ law_finite (law_at laws i)
unfolding law_ok
ok_ramp laws ramp i ne = rw (ne_eqb (at ramp i) 0 ne)

-- an entry within a list does not depend on the default
any_default : (l : List Law) (i : ℕ) (d e : Law) → i < length l → slice_index_or l i d ≡ slice_index_or l i e
any_default [] i d e h = absurd (omega arith)
any_default (x ∷ l) zero d e h = refl
any_default (x ∷ l) (suc i) d e h = any_default l i d e (le_of_suc-le-suc h)

pub law_at_lem : (laws : List Law) (i : ℕ) (d : Law) → i < length laws → slice_index_or laws i d ≡ law_at laws i
law_at_lem laws i d h = any_default laws i d (law_at [] 0) h

-- the code's test of the cell at i is this test
pub ok_is : (laws : List Law) (ramp : List ℕ) (i : ℕ) (d : Law) {t : Bool} → i < length laws → t ≡ law_finite (slice_index_or laws i d)
    → (at ramp i == 0) || t ≡ law_ok laws ramp i
unfolding law_ok
ok_is laws ramp i d h e = rw (e, law_at_lem laws i d h)

-- the loop over the cells ends at the first that fails, after the last, or past the arrays, where there is no ramp
module _ (laws : List Law) (ramp : List ℕ) {n i : ℕ} (h : PassedTests (law_ok laws ramp) n i) where
  pub fault_stop : {t : Bool} → i < n → t ≡ law_ok laws ramp i → t ≡ false → i + 1 ≡ law_fault_of laws ramp n
  unfolding law_fault_of
  fault_stop l e z = rw (← passed_fails h l e z, ← passed_stop h l e z)

  pub fault_end : n ≤ i → 0 ≡ law_fault_of laws ramp n
  unfolding law_fault_of
  fault_end l = rw (← passed_all h l)

  pub fault_past : length ramp ≤ i → 0 ≡ law_fault_of laws ramp n
  unfolding law_fault_of
  fault_past l = rw (all_true (law_ok laws ramp) n (λ j m. ⊎_elim (past j) (h.before j) (order i j)))
    where
      past : (j : ℕ) → i ≤ j → law_ok laws ramp j ≡ true
      past j m = ok_no_ramp laws ramp j (get_or-eq_default ramp 0 (omega arith))

-- the place of 16 is 0 if every ramp's law has only finite numbers
pub fault_none : (laws : List Law) (ramp : List ℕ) (n : ℕ) → law_fault_of laws ramp n ≡ 0
    → (i : ℕ) → i < n → (at ramp i ≢ 0) → law_finite (law_at laws i) ≡ true
unfolding law_fault_of
fault_none laws ramp n h i l ne = sym (ok_ramp laws ramp i ne) ∙ go (all_of (law_ok laws ramp) n) refl h
  where
    go : (t : Bool) → all_of (law_ok laws ramp) n ≡ t → unless t (first_of (law_ok laws ramp) n + 1) 0 ≡ 0 → law_ok laws ramp i ≡ true
    go true e z = all_at (law_ok laws ramp) n e i l
    go false e z = absurd (omega arith)

-- otherwise it is the lowest cell, counted from 1, with a ramp and a law with a number that isn't finite
pub record LowestFault (laws : List Law) (ramp : List ℕ) (n i : ℕ) : Type 0 where
  pub cell : i < n
  pub marked : at ramp i ≡ 0 → ⊥
  pub broken : law_finite (law_at laws i) ≡ false
  pub before : (j : ℕ) → j < i → (at ramp j ≢ 0) → law_finite (law_at laws j) ≡ true

pub fault_lowest : (laws : List Law) (ramp : List ℕ) (n i : ℕ) → law_fault_of laws ramp n ≡ i + 1 → LowestFault laws ramp n i
unfolding law_fault_of
fault_lowest laws ramp n i h = go (all_of (law_ok laws ramp) n) refl h
  where
    go : (t : Bool) → all_of (law_ok laws ramp) n ≡ t → unless t (first_of (law_ok laws ramp) n + 1) 0 ≡ i + 1 → LowestFault laws ramp n i
    go true e q = absurd (omega arith)
    go false e q =
        let f = law_ok laws ramp in
        let there : first_of f n ≡ i = omega arith in
        let lowest : First f n i = subst (First f n) there (first f n) in
        let cell : i < n = omega (arith, lowest.within, eqb-false (first_of f n) n e) in
        let stops = lowest.stops cell in
        let marked : at ramp i ≡ 0 → ⊥ = λ z. true≢false (sym (ok_no_ramp laws ramp i z) ∙ stops) in
        record {
          cell = cell;
          marked = marked;
          broken = sym (ok_ramp laws ramp i marked) ∙ stops;
          before = λ j l ne. sym (ok_ramp laws ramp j ne) ∙ lowest.before j l;
        }

-- laws of cells without a ramp and past cell n are ignored
pub fault_unread : (laws laws' : List Law) (ramp : List ℕ) (n : ℕ)
    → ((i : ℕ) → i < n → (at ramp i ≢ 0) → law_at laws i ≡ law_at laws' i) → law_fault_of laws ramp n ≡ law_fault_of laws' ramp n
unfolding law_fault_of
fault_unread laws laws' ramp n h = ap (λ (p : ℕ). unless (p == n) (p + 1) 0) (sym (first_is (law_ok laws' ramp) n (first_of (law_ok laws ramp) n) found))
  where
    alike : (i : ℕ) → i < n → law_ok laws' ramp i ≡ law_ok laws ramp i
    alike i l = go (at ramp i == 0) refl
      where
        go : (t : Bool) → (at ramp i == 0) ≡ t → law_ok laws' ramp i ≡ law_ok laws ramp i
        go true e = let z = eqb-true (at ramp i) 0 e in ok_no_ramp laws' ramp i z ∙ sym (ok_no_ramp laws ramp i z)
        go false e =
            let ne = eqb-false (at ramp i) 0 e in
            ok_ramp laws' ramp i ne ∙ ap law_finite (sym (h i l ne)) ∙ sym (ok_ramp laws ramp i ne)

    found : First (law_ok laws' ramp) n (first_of (law_ok laws ramp) n)
    found =
        let f = first (law_ok laws ramp) n in
        record {
          within = f.within;
          before = λ j l. alike j (omega (arith, f.within)) ∙ f.before j l;
          stops = λ l. alike (first_of (law_ok laws ramp) n) l ∙ f.stops l;
        }
