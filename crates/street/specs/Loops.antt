-- The invariants of the loops over the ramps. Assumes nothing.
use Rattle.std.specs.Prelude.{◌≡◌, ℕ, suc, ◌+◌, ◌-◌, ◌≤◌, ◌<◌, min, set}
use Rattle.std.proofs.Math.Path.{refl, ap}
use Rattle.std.proofs.Common.{◌∙◌, add-one, arith, drop_of_length-le}
use mathlib.Core.List.{List, ◌++◌, append-nil}
use Rattle.std.proofs.Math.ListN.{length}
use Rattle.model.specs.Numbers.{sum_of, fill_of, list_of, at}
use Rattle.numbers.specs.RowsLaws.{fill_more, fill_list, length_fill, sum_list_none, sum_list_more}
use Rattle.model.specs.Street.{GrantRequest, sure_of, rest_before, more_of, street_grant, grants_of}
use Rattle.street.specs.StreetLaws.{sure_fits}

-- what remains of the limit after the smaller of wish and guarantee of i ramps
pub record RestSoFar (limit : ℕ) (guarantees wishes : List ℕ) (left i : ℕ) : Type 0 where
  pub within : i ≤ length guarantees
  pub sure : left + sum_of (list_of (sure_of guarantees wishes) i) ≡ limit

-- the grants of i ramps are stored
pub record StoredGrants (limit : ℕ) (guarantees wishes lent : List ℕ) (left i : ℕ) (grants : List ℕ) : Type 0 where
  pub within : i ≤ length guarantees
  pub same : length lent ≡ length guarantees
  pub rest : left ≡ rest_before limit guarantees wishes i
  pub stored : grants ≡ fill_of (street_grant limit guarantees wishes) i lent

module _ {limit : ℕ} {guarantees wishes : List ℕ} where
  pub left_none : RestSoFar limit guarantees wishes limit 0
  left_none = record { within = omega arith; sure = omega (arith, sum_list_none (sure_of guarantees wishes)) }

  module _ {left i : ℕ} (h : RestSoFar limit guarantees wishes left i) where
    pub left_fits : GrantRequest limit guarantees wishes → i < length guarantees → {sure : ℕ} → sure ≡ sure_of guarantees wishes i → sure ≤ left
    left_fits q l e =
        omega (arith, h.sure, sure_fits limit guarantees wishes q (suc i) l, sum_list_more (sure_of guarantees wishes) i)

    pub left_more : GrantRequest limit guarantees wishes → i < length guarantees → {sure : ℕ} → sure ≡ sure_of guarantees wishes i
        → RestSoFar limit guarantees wishes (left - sure) (i + 1)
    left_more q l e = record {
      within = omega arith;
      sure = rw (add-one i) (omega (arith, left_fits q l e, h.sure, sum_list_more (sure_of guarantees wishes) i));
    }

    pub left_end : length guarantees ≤ i → left ≡ rest_before limit guarantees wishes 0
    unfolding rest_before
    left_end l =
        let e : i ≡ length guarantees = omega (arith, h.within) in
        omega (arith, h.sure, ap (λ (n : ℕ). sum_of (list_of (sure_of guarantees wishes) n)) e)

  module _ {lent : List ℕ} where
    pub granted_none : {left : ℕ} → length lent ≡ length guarantees → left ≡ rest_before limit guarantees wishes 0
        → StoredGrants limit guarantees wishes lent left 0 lent
    unfolding fill_of
    granted_none s e = record { within = omega arith; same = s; rest = e; stored = refl }

    module _ {left i : ℕ} {grants : List ℕ} (h : StoredGrants limit guarantees wishes lent left i grants) where
      pub granted_length : length grants ≡ length guarantees
      granted_length = ap length h.stored ∙ length_fill (street_grant limit guarantees wishes) i lent ∙ h.same

      pub granted_more : i < length guarantees → {sure more : ℕ} → sure ≡ sure_of guarantees wishes i → more ≡ min (at wishes i - sure) left
          → StoredGrants limit guarantees wishes lent (left - more) (i + 1) (set grants i (sure + more))
      unfolding rest_before
      granted_more l {sure} {more} e f =
          let m : more ≡ more_of limit guarantees wishes i = rw (f, e, h.rest) in
          record {
            within = omega arith;
            same = h.same;
            rest = rw (add-one i, m, h.rest);
            stored = rw (fill_more, h.stored, m, e);
          }

      pub granted_end : length guarantees ≤ i → grants ≡ grants_of limit guarantees wishes
      unfolding grants_of
      granted_end l =
          let n = length guarantees in
          let f = street_grant limit guarantees wishes in
          let e : i ≡ n = omega (arith, h.within) in
          h.stored ∙ ap (λ (k : ℕ). fill_of f k lent) e ∙ fill_list f n lent (omega (arith, h.same))
          ∙ ap (λ (t : List ℕ). list_of f n ++ t) (drop_of_length-le lent {i = n} (omega (arith, h.same))) ∙ append-nil (list_of f n)
