-- Laws of the grants of a street. Assumes nothing.
use Rattle.std.specs.Prelude.{◌≡◌, true, false, List, take, leb}
use Rattle.std.proofs.Math.Path.{refl, ap}
use Rattle.std.proofs.Common.{sym, le_refl, eq-or-lt_of_le, take_all}
use Rattle.std.proofs.Math.Logic.{⊎_elim}
use Prim.Native.Nat.{ℕ, zero, suc, ◌+◌, ◌≤◌, ◌<◌, min}
use native.Mathlib.Omega.{arith}
use Rattle.std.proofs.Math.ListN.{length}
use borrow.Author.Tests.{leb-true, le-leb}
use Rattle.model.specs.Numbers.{sum_of, list_of, at}
use Rattle.numbers.specs.SumLaws.{sum_start, sum_more, sum_halves}
use Rattle.numbers.specs.RowsLaws.{length_list, list_at, sum_list_none, sum_list_more}
use Rattle.model.specs.Road.{most_rate, most_ramps}
use Rattle.numbers.specs.Tests.{and_true, both_true, le_head, eq_head, le_then, eq_then}
use Rattle.model.specs.Limits.{all_within}
use Rattle.limits.specs.AllWithin.{within_at, within_true}
use Rattle.model.specs.Street.{GrantRequest, street_frame_ok, street_ok, sure_of, rest_before, street_grant, grants_of, granting_of, grants_after}

module _ (limit : ℕ) (guarantees wishes : List ℕ) where
  -- the test of 24 passes exactly if its limits hold
  pub ok_request : (places : ℕ) → street_ok limit guarantees wishes places ≡ true → GrantRequest limit guarantees wishes × (places ≡ length guarantees)
  unfolding street_ok
  ok_request places h =
      let both = and_true (street_frame_ok limit (length guarantees) (length wishes) places) _ h in
      let some = le_head _ _ _ both.0 in
      let most = le_head _ _ _ some.1 in
      let same = eq_head _ _ _ most.1 in
      let place = eq_head _ _ _ same.1 in
      let sure = and_true (all_within guarantees most_rate) _ both.1 in
      let wish = and_true (all_within wishes most_rate) _ sure.1 in (
        record {
          some = some.0;
          most = most.0;
          same = same.0;
          limits = leb-true _ _ place.1;
          guaranteed = within_at guarantees most_rate sure.0;
          wished = within_at wishes most_rate wish.0;
          together = leb-true _ _ wish.1;
        },
        place.0,
      )

  pub request_ok : (places : ℕ) → GrantRequest limit guarantees wishes → places ≡ length guarantees → street_ok limit guarantees wishes places ≡ true
  unfolding street_ok
  request_ok places h e =
      both_true (street_frame_ok limit (length guarantees) (length wishes) places) _
      (le_then _ _ _ h.some (le_then _ _ _ h.most (eq_then _ _ _ h.same (eq_then _ _ _ e (le-leb _ _ h.limits)))))
      (both_true (all_within guarantees most_rate) _ (sym (within_true guarantees most_rate h.guaranteed))
      (both_true (all_within wishes most_rate) _ (sym (within_true wishes most_rate h.wished)) (le-leb _ _ h.together)))

  -- the parts of the test, in its order
  module _ (places : ℕ) where
    pub frame_fails : street_frame_ok limit (length guarantees) (length wishes) places ≡ false → false ≡ street_ok limit guarantees wishes places
    unfolding street_ok
    frame_fails n = rw n

    module _ (f : street_frame_ok limit (length guarantees) (length wishes) places ≡ true) where
      pub frame_ramps : length guarantees ≤ most_ramps
      frame_ramps =
          let some = le_head 1 (length guarantees) _ f in
          let most = le_head (length guarantees) most_ramps _ some.1 in
          most.0

      pub guarantees_fail : all_within guarantees most_rate ≡ false → false ≡ street_ok limit guarantees wishes places
      unfolding street_ok
      guarantees_fail n = rw (f, n)

      module _ (g : all_within guarantees most_rate ≡ true) where
        pub wishes_fail : all_within wishes most_rate ≡ false → false ≡ street_ok limit guarantees wishes places
        unfolding street_ok
        wishes_fail n = rw (f, g, n)

        pub sum_decides : all_within wishes most_rate ≡ true → {sum : ℕ} → sum ≡ sum_of guarantees → leb sum limit ≡ street_ok limit guarantees wishes places
        unfolding street_ok
        sum_decides w e = rw (f, g, w, e)

  -- the sums up to ramp i: of the smaller of wish and guarantee, of the grants, and of the wishes
  abbrev pub sure_sum : ℕ → ℕ
  sure_sum i = sum_of (list_of (sure_of guarantees wishes) i)

  abbrev pub grant_sum : ℕ → ℕ
  grant_sum i = sum_of (list_of (street_grant limit guarantees wishes) i)

  sure_least : (i : ℕ) → i ≤ length guarantees → sure_sum i ≤ sum_of (take i guarantees)
  sure_least zero l = omega (arith, sum_list_none (sure_of guarantees wishes))
  sure_least (suc i) l =
      omega (arith, sum_list_more (sure_of guarantees wishes) i, sum_more i guarantees l, sure_least i (omega arith))

  pub sure_fits : GrantRequest limit guarantees wishes → (i : ℕ) → i ≤ length guarantees → sure_sum i ≤ limit
  sure_fits h i l = omega (arith, sure_least i l, sum_halves i guarantees, h.together)

  -- grants and rest together are the limit, less the smaller of wish and guarantee of each ramp that follows
  balance : GrantRequest limit guarantees wishes → (i : ℕ) → i ≤ length guarantees
      → grant_sum i + rest_before limit guarantees wishes i + sure_sum (length guarantees) ≡ limit + sure_sum i
  unfolding rest_before
  balance h zero l =
      omega (arith, sum_list_none (sure_of guarantees wishes), sum_list_none (street_grant limit guarantees wishes), sure_fits h (length guarantees) (le_refl _))
  balance h (suc i) l =
      omega (arith, balance h i (omega arith), sum_list_more (sure_of guarantees wishes) i, sum_list_more (street_grant limit guarantees wishes) i)

  pub grants_length : length (grants_of limit guarantees wishes) ≡ length guarantees
  unfolding grants_of
  grants_length = length_list _ _

  pub grants_at : (i : ℕ) → i < length guarantees → at (grants_of limit guarantees wishes) i ≡ street_grant limit guarantees wishes i
  unfolding grants_of
  grants_at i l = list_at (street_grant limit guarantees wishes) (length guarantees) i l

  -- the sum of the grants never exceeds the limit
  pub grants_limit : GrantRequest limit guarantees wishes → sum_of (grants_of limit guarantees wishes) ≤ limit
  unfolding grants_of
  grants_limit h = omega (arith, balance h (length guarantees) (le_refl _))

  -- no ramp gets less than the smaller of wish and guarantee, whatever the others wish
  pub grants_sure : (i : ℕ) → i < length guarantees → min (at wishes i) (at guarantees i) ≤ at (grants_of limit guarantees wishes) i
  grants_sure i l = omega (arith, grants_at i l)

  -- no ramp gets more than its wish
  pub grants_wish : (i : ℕ) → i < length guarantees → at (grants_of limit guarantees wishes) i ≤ at wishes i
  grants_wish i l = omega (arith, grants_at i l)

  -- nothing remains after a ramp that got less than its wish
  nothing_left : (i : ℕ) → street_grant limit guarantees wishes i < at wishes i → rest_before limit guarantees wishes (suc i) ≡ 0
  unfolding rest_before
  nothing_left i h = omega arith

  stays_nothing : (i j : ℕ) → i ≤ j → rest_before limit guarantees wishes i ≡ 0 → rest_before limit guarantees wishes j ≡ 0
  unfolding rest_before
  stays_nothing i zero l h = let e : i ≡ 0 = omega arith in rw e at h
  stays_nothing i (suc j) l h = ⊎_elim
      (λ (e : i ≡ suc j). let p : rest_before limit guarantees wishes (suc j) ≡ 0 = rw e at h in p)
      (λ (m : i < suc j). omega (arith, stays_nothing i j (omega arith) h))
      (eq-or-lt_of_le l)

  -- what remains goes in ramp order: after a ramp that got less than its wish, each gets exactly the smaller of wish and guarantee
  pub grants_order : (i j : ℕ) → i < j → j < length guarantees → at (grants_of limit guarantees wishes) i < at wishes i
      → at (grants_of limit guarantees wishes) j ≡ min (at wishes j) (at guarantees j)
  grants_order i j a b h =
      let z = stays_nothing (suc i) j a (nothing_left i (omega (arith, grants_at i (omega arith)))) in
      omega (arith, grants_at j b)

  -- either the whole limit is granted or every wish
  all_wished : (i : ℕ) → i ≤ length wishes → 0 < rest_before limit guarantees wishes i → grant_sum i ≡ sum_of (take i wishes)
  unfolding rest_before
  all_wished zero l h = omega (arith, sum_list_none (street_grant limit guarantees wishes), sum_start wishes)
  all_wished (suc i) l h =
      omega (arith, all_wished i (omega arith) (omega arith), sum_list_more (street_grant limit guarantees wishes) i, sum_more i wishes l)

  grants_below : (i : ℕ) → i ≤ length wishes → grant_sum i ≤ sum_of (take i wishes)
  grants_below zero l = omega (arith, sum_list_none (street_grant limit guarantees wishes))
  grants_below (suc i) l =
      omega (arith, grants_below i (omega arith), sum_list_more (street_grant limit guarantees wishes) i, sum_more i wishes l)

  pub grants_whole : GrantRequest limit guarantees wishes → sum_of (grants_of limit guarantees wishes) ≡ min limit (sum_of wishes)
  unfolding grants_of
  grants_whole h =
      let n = length guarantees in
      let e : sum_of (take n wishes) ≡ sum_of wishes = ap sum_of (take_all n wishes (omega (arith, h.same))) in
      go (rest_before limit guarantees wishes n) refl (balance h n (le_refl _)) (grants_below n (omega (arith, h.same))) e
    where
      go : (rest : ℕ) → rest_before limit guarantees wishes (length guarantees) ≡ rest
          → grant_sum (length guarantees) + rest_before limit guarantees wishes (length guarantees) + sure_sum (length guarantees) ≡ limit + sure_sum (length guarantees)
          → grant_sum (length guarantees) ≤ sum_of (take (length guarantees) wishes) → sum_of (take (length guarantees) wishes) ≡ sum_of wishes
          → grant_sum (length guarantees) ≡ min limit (sum_of wishes)
      go zero z b l e = omega arith
      go (suc r) z b l e = omega (arith, all_wished (length guarantees) (omega (arith, h.same)) (omega arith))

  -- both cases of the answer
  module _ (grants : List ℕ) where
    module _ (e : street_ok limit guarantees wishes (length grants) ≡ false) where
      pub refused_answer : granting_of limit guarantees wishes (length grants) ≡ 24
      unfolding granting_of
      refused_answer = rw e

      pub refused_grants : grants_after limit guarantees wishes grants ≡ grants
      unfolding grants_after
      refused_grants = rw e

    module _ (e : street_ok limit guarantees wishes (length grants) ≡ true) where
      pub granted_answer : granting_of limit guarantees wishes (length grants) ≡ 0
      unfolding granting_of
      granted_answer = rw e

      pub granted_grants : grants_after limit guarantees wishes grants ≡ grants_of limit guarantees wishes
      unfolding grants_after
      granted_grants = rw e
