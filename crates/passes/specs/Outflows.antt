-- Outflows and move of all cells in one pass, on columns. Assumes nothing.
use Rattle.std.specs.Prelude.{◌≡◌, refl, List, ℕ, zero, suc, ◌+◌, ◌-◌, ◌*◌, ◌≤◌, ◌<◌, length, set, take}
use Rattle.std.proofs.Common.{sym, subst, ◌∙◌, le_refl, arith}
use Rattle.std.proofs.Math.Path.{ap}
use Rattle.std.proofs.Math.Numerals.{add-one}
use Rattle.std.proofs.Math.ListN.{length-set}
use Rattle.model.specs.Flow.{whole, entering_of, outflow_of}
use Rattle.flow.specs.FlowLaws.{outflow_le, entering_le}
use Rattle.model.specs.Numbers.{sum_of, fill_of, at}
use Rattle.numbers.specs.SumLaws.{sum_start, sum_set}
use Rattle.numbers.specs.RowsLaws.{fill_more, fill_past}
use Rattle.model.specs.Road.{most_cells, most_rate, most_steps}
use Rattle.passes.specs.Rest.{rest_of, rest_small, OutflowByRest}

-- what the pass uses: the gate's outflow, and shares, demands, rooms, held counts and cumulative outflows
pub record Pass : Type 0 where
  pub first : ℕ
  pub share : List ℕ
  pub demand : List ℕ
  pub room : List ℕ
  pub held : List ℕ
  pub cumulative : List ℕ

abbrev pub pass_of : ℕ → List ℕ → List ℕ → List ℕ → List ℕ → List ℕ → Pass
pass_of first share demand room held cumulative = record {
  first = first;
  share = share;
  demand = demand;
  room = room;
  held = held;
  cumulative = cumulative;
}

-- the outflow of the cell at i, and of place p
unfoldable pub out_at : Pass → ℕ → ℕ
out_at c i = outflow_of (at c.share i) (at c.cumulative i) (at c.room (i + 1)) (at c.demand i)

unfoldable pub place_at : Pass → ℕ → ℕ
place_at c zero = c.first
place_at c (suc i) = out_at c i

-- what enters the cell at i
unfoldable pub enter_at : Pass → ℕ → ℕ
enter_at c zero = c.first
enter_at c (suc i) = entering_of (at c.share i) (at c.cumulative i) (out_at c i)

-- the held count of the cell at i afterwards, without its release; its F; the remainder of b × F
abbrev pub left_at : Pass → ℕ → ℕ
left_at c i = at c.held i + enter_at c i - out_at c i

abbrev pub grown_at : Pass → ℕ → ℕ
grown_at c i = at c.cumulative i + out_at c i

abbrev pub rest_at : Pass → ℕ → ℕ
rest_at c i = rest_of (at c.share i) (grown_at c i)

-- what sending requires
pub record SendRequires (n : ℕ) (c : Pass) (rest : List ℕ) : Type 0 where
  pub cells : n ≤ most_cells
  pub long_held : n ≤ length c.held
  pub long_rest : n ≤ length rest
  pub long_cumulative : n ≤ length c.cumulative
  pub gate : c.first ≤ most_rate
  pub shares : (i : ℕ) → i < n → at c.share i ≤ whole
  pub demands : (i : ℕ) → i < n → at c.demand i ≤ at c.held i
  pub helds : (i : ℕ) → i < n → at c.held i ≤ most_rate
  pub cumulatives : (i : ℕ) → i < n → at c.cumulative i ≤ most_rate * most_steps
  pub rests : (i : ℕ) → i < n → at rest i ≡ rest_of (at c.share i) (at c.cumulative i)

-- the columns after n cells
pub record SendGives (n : ℕ) (c : Pass) (rest₀ y₀ held rest cumulative y : List ℕ) (sum : ℕ) : Type 0 where
  pub row : y ≡ fill_of (place_at c) (n + 1) y₀
  pub helds : held ≡ fill_of (left_at c) n c.held
  pub cumulatives : cumulative ≡ fill_of (grown_at c) n c.cumulative
  pub rests : rest ≡ fill_of (rest_at c) n rest₀
  pub sums : sum ≡ sum_of (take n held)
  pub bound : sum ≤ 2 * most_rate * n

-- the loop
pub record SendSoFar (n : ℕ) (c : Pass) (rest₀ y₀ held rest cumulative y : List ℕ) (entering sum i : ℕ) : Type 0 where
  pub within : i ≤ n
  pub enters : entering ≡ enter_at c i
  pub most : entering ≤ most_rate
  pub long_held : n ≤ length held
  pub to : SendGives i c rest₀ y₀ held rest cumulative y sum

pub send_none : {n : ℕ} {c : Pass} {rest l y : List ℕ} → SendRequires n c rest → y ≡ set l 0 c.first
    → SendSoFar n c rest l c.held rest c.cumulative y c.first 0 0
unfolding fill_of place_at enter_at
send_none {n} {c} {rest} {l} {y} k e = record {
  within = omega arith;
  enters = refl;
  most = k.gate;
  long_held = k.long_held;
  to = record {
    row = e;
    helds = refl;
    cumulatives = refl;
    rests = refl;
    sums = sym (sum_start c.held);
    bound = omega arith;
  };
}

-- the facts about the numbers of a turn
pub record Turn (out on hold total enter sums i : ℕ) : Type 0 where
  pub held : hold ≤ most_rate
  pub outflow : out ≤ hold
  pub onward : on ≤ most_rate
  pub cumulative : total ≤ most_rate * most_steps
  pub entering : enter ≤ most_rate
  pub sum : sums ≤ 2 * most_rate * i
  pub cells : i < most_cells

module _ {n : ℕ} {c : Pass} {rest₀ y₀ held rest cumulative y : List ℕ} {entering sum i : ℕ}
    (k : SendRequires n c rest₀) (h : SendSoFar n c rest₀ y₀ held rest cumulative y entering sum i) where
  -- the cell at i is not moved yet
  pub held_here : at held i ≡ at c.held i
  held_here = ap (λ (x : List ℕ). at x i) h.to.helds ∙ fill_past (left_at c) i c.held i (le_refl i)

  pub cumulative_here : at cumulative i ≡ at c.cumulative i
  cumulative_here = ap (λ (x : List ℕ). at x i) h.to.cumulatives ∙ fill_past (grown_at c) i c.cumulative i (le_refl i)

  pub rest_here : at rest i ≡ at rest₀ i
  rest_here = ap (λ (x : List ℕ). at x i) h.to.rests ∙ fill_past (rest_at c) i rest₀ i (le_refl i)

  pub known_rest : i < n → at rest i ≡ rest_of (at c.share i) (at c.cumulative i)
  known_rest l = rest_here ∙ k.rests i l

  -- the facts about the numbers of a turn
  pub turn_ready : i < n → (at c.share i ≤ whole) × ((at c.demand i ≤ most_rate) × (at rest i ≤ 999))
  turn_ready l = (
    k.shares i l,
    (
      omega (arith, k.demands i l, k.helds i l),
      omega (arith, known_rest l, rest_small (at c.share i) (at c.cumulative i)),
    ),
  )

  -- what the cell at i sends, computed from its remainder
  module _ {outflow onward next : ℕ} (l : i < n)
      (sent : (F : ℕ) → at rest i ≡ rest_of (at c.share i) F → OutflowByRest (at c.share i) F (at c.room (i + 1)) (at c.demand i) outflow onward next) where
    here : OutflowByRest (at c.share i) (at c.cumulative i) (at c.room (i + 1)) (at c.demand i) outflow onward next
    here = sent (at c.cumulative i) (known_rest l)

    pub out_here : outflow ≡ out_at c i
    unfolding out_at
    out_here = here.outflows

    pub turn : Turn outflow onward (at held i) (at cumulative i) entering sum i
    turn =
        let o = outflow_le (at c.share i) (at c.cumulative i) (at c.room (i + 1)) (at c.demand i) in
        let e = entering_le (at c.share i) (at c.cumulative i) outflow (k.shares i l) in
        let hh = held_here in
        let hc = cumulative_here in
        let out = here.outflows in
        let ent = here.enters in
        let d = k.demands i l in
        let m = k.helds i l in
        let g = k.cumulatives i l in
        record {
          held = omega arith;
          outflow = omega arith;
          onward = omega arith;
          cumulative = omega arith;
          entering = h.most;
          sum = h.to.bound;
          cells = omega (arith, k.cells);
        }

    pub send_more : SendSoFar n c rest₀ y₀ (set held i (at held i + entering - outflow)) (set rest i next) (set cumulative i (at cumulative i + outflow))
        (set y (i + 1) outflow) onward (sum + (at held i + entering - outflow)) (i + 1)
    unfolding place_at enter_at
    send_more =
        let t = turn in
        let hh = held_here in
        let hc = cumulative_here in
        let out = out_here in
        let ent = h.enters in
        let left : at held i + entering - outflow ≡ left_at c i = cc in
        let grown : at cumulative i + outflow ≡ grown_at c i = cc in
        let rested : next ≡ rest_at c i = cc here.rests in
        let place : outflow ≡ place_at c (i + 1) = rw add-one out in
        let fr = h.to.row in
        let fh = h.to.helds in
        let fc = h.to.cumulatives in
        let fe = h.to.rests in
        record {
          within = omega arith;
          enters = rw add-one (here.enters ∙ ap (entering_of (at c.share i) (at c.cumulative i)) out);
          most = t.onward;
          long_held = simp length-set h.long_held;
          to = record {
            row = cc (fill_more (place_at c) (i + 1) y₀);
            helds = cc (fill_more (left_at c) i c.held);
            cumulatives = cc (fill_more (grown_at c) i c.cumulative);
            rests = cc (fill_more (rest_at c) i rest₀);
            sums = omega (arith, h.to.sums, sum_set held i (at held i + entering - outflow) (omega (arith, h.long_held, k.cells)));
            bound = omega (arith, h.to.bound);
          };
        }

pub send_end : {n : ℕ} {c : Pass} {rest₀ y₀ held rest cumulative y : List ℕ} {entering sum i : ℕ}
    → SendSoFar n c rest₀ y₀ held rest cumulative y entering sum i → n ≤ i → SendGives n c rest₀ y₀ held rest cumulative y sum
send_end {n} {c} {rest₀} {y₀} {held} {rest} {cumulative} {y} {entering} {sum} {i} h l =
    let e : i ≡ n = omega (arith, h.within) in
    subst (λ (k : ℕ). SendGives k c rest₀ y₀ held rest cumulative y sum) e h.to
