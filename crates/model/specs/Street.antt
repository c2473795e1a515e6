-- docs/MODEL.md, 'Several ramps on one street': what each ramp is granted in a step, and what granting answers. Assumes nothing.
use Rattle.std.specs.Prelude.{◌≡◌, Bool, ◌&&◌, List, ℕ, zero, suc, ◌+◌, ◌-◌, ◌≤◌, ◌<◌, min, leb, eqb, length}
use Rattle.model.specs.Numbers.{sum_of, list_of, at, unless}
use Rattle.model.specs.Road.{most_rate, most_ramps}
use Rattle.model.specs.Limits.{all_within}

-- the limits of refusal 24, as facts
pub record GrantRequest (limit : ℕ) (guarantees wishes : List ℕ) : Type 0 where
  pub some : 1 ≤ length guarantees
  pub most : length guarantees ≤ most_ramps
  pub same : length wishes ≡ length guarantees
  pub limits : limit ≤ most_rate
  pub guaranteed : (i : ℕ) → i < length guarantees → at guarantees i ≤ most_rate
  pub wished : (i : ℕ) → i < length wishes → at wishes i ≤ most_rate
  pub together : sum_of guarantees ≤ limit

-- refusal 24 applies if these tests fail: 1 to 8 ramps, lists of equal length, no guarantee, wish or limit above 1,000,000, and guarantees within the limit
abbrev pub street_frame_ok : ℕ → ℕ → ℕ → ℕ → Bool
street_frame_ok limit ramps wishes places = leb 1 ramps && (leb ramps most_ramps && (eqb wishes ramps && (eqb places ramps && leb limit most_rate)))

unfoldable pub street_ok : ℕ → List ℕ → List ℕ → ℕ → Bool
street_ok limit guarantees wishes places =
    street_frame_ok limit (length guarantees) (length wishes) places
    && (all_within guarantees most_rate && (all_within wishes most_rate && leb (sum_of guarantees) limit))

-- each ramp first gets the smaller of wish and guarantee
abbrev pub sure_of : List ℕ → List ℕ → ℕ → ℕ
sure_of guarantees wishes i = min (at wishes i) (at guarantees i)

-- what remains of the limit goes in ramp order, each up to its wish: this is what remains before ramp i
unfoldable pub rest_before : ℕ → List ℕ → List ℕ → ℕ → ℕ
rest_before limit guarantees wishes zero = limit - sum_of (list_of (sure_of guarantees wishes) (length guarantees))
rest_before limit guarantees wishes (suc i) =
    rest_before limit guarantees wishes i - min (at wishes i - sure_of guarantees wishes i) (rest_before limit guarantees wishes i)

abbrev pub more_of : ℕ → List ℕ → List ℕ → ℕ → ℕ
more_of limit guarantees wishes i = min (at wishes i - sure_of guarantees wishes i) (rest_before limit guarantees wishes i)

abbrev pub street_grant : ℕ → List ℕ → List ℕ → ℕ → ℕ
street_grant limit guarantees wishes i = sure_of guarantees wishes i + more_of limit guarantees wishes i

unfoldable pub grants_of : ℕ → List ℕ → List ℕ → List ℕ
grants_of limit guarantees wishes = list_of (street_grant limit guarantees wishes) (length guarantees)

-- granting answers a refusal's number, 0 for none
unfoldable pub granting_of : ℕ → List ℕ → List ℕ → ℕ → ℕ
granting_of limit guarantees wishes places = unless (street_ok limit guarantees wishes places) 24 0

-- the lent grants afterwards; 24 leaves them unchanged
unfoldable pub grants_after : ℕ → List ℕ → List ℕ → List ℕ → List ℕ
grants_after limit guarantees wishes grants = unless (street_ok limit guarantees wishes (length grants)) grants (grants_of limit guarantees wishes)

-- the grants of a street's ramps in a step
pub record Fair (limit : ℕ) (guarantees wishes grants : List ℕ) : Type 0 where
  pub ramps : length grants ≡ length guarantees
  -- the sum of the grants never exceeds the limit
  pub limited : sum_of grants ≤ limit
  -- no ramp gets less than the smaller of wish and guarantee
  pub sure : (i : ℕ) → i < length guarantees → min (at wishes i) (at guarantees i) ≤ at grants i
  -- no ramp gets more than its wish
  pub wish : (i : ℕ) → i < length guarantees → at grants i ≤ at wishes i
  -- in ramp order: after a ramp that got less than its wish, each gets exactly the smaller of wish and guarantee
  pub order : (i j : ℕ) → i < j → j < length guarantees → at grants i < at wishes i → at grants j ≡ min (at wishes j) (at guarantees j)
  -- either the whole limit is granted or every wish
  pub whole : sum_of grants ≡ min limit (sum_of wishes)

-- both cases of the answer, with the lent grants that each leaves
pub data GrantEnds (limit : ℕ) (guarantees wishes grants : List ℕ) : ℕ → List ℕ → Type 0 where
  refused : (GrantRequest limit guarantees wishes → length grants ≡ length guarantees → ⊥) → GrantEnds limit guarantees wishes grants 24 grants
  granted : GrantRequest limit guarantees wishes → length grants ≡ length guarantees → {filled : List ℕ} → Fair limit guarantees wishes filled
      → GrantEnds limit guarantees wishes grants 0 filled
