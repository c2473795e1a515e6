-- A road and a state in a record: values up to cell n, and 0 past it. Assumes nothing.
use Rattle.std.specs.Prelude.{◌≡◌, refl, Bool, true, false, List, ℕ, ◌≤◌, ◌<◌, eqb}
use Rattle.std.proofs.Common.{◌∙◌, arith, eq-eqb, ne_eqb}
use Rattle.model.specs.Numbers.{at}
use Rattle.numbers.specs.RowsLaws.{fill_at, fill_past}
use Rattle.model.specs.declared.Road.{Road}
use Rattle.model.specs.declared.State.{State}
use Rattle.model.specs.Road.{most_cells, zeros}
use Rattle.numbers.specs.Zeros.{length_zeros, zeros_at}
use Rattle.model.specs.Record.{second_version}
use Rattle.model.specs.Reading.{seconds_ok}
use Rattle.limits.specs.LimitsLaws.{RoadOk, StateOk, RowOk}
use Rattle.model.specs.Writing.{cut_of, kept_seconds, cut_road, cut_state}

-- the same values up to cell n and 0 past it
pub cut_at : (n : ℕ) (l : List ℕ) → n ≤ most_cells → (i : ℕ) → i < n → at (cut_of n l) i ≡ at l i
cut_at n l h i k = fill_at (λ j. at l j) n zeros i k (omega (arith, length_zeros))

pub cut_past : (n : ℕ) (l : List ℕ) (i : ℕ) → n ≤ i → at (cut_of n l) i ≡ 0
cut_past n l i h = fill_past (λ j. at l j) n zeros i h ∙ zeros_at i

-- version 2 keeps its seconds, other versions have none, and the seconds kept are within the limit of those given
pub kept_second : (version seconds : ℕ) → version ≡ second_version → kept_seconds version seconds ≡ seconds
kept_second version seconds e = rw (eq-eqb version second_version e)

pub kept_none : (version seconds : ℕ) → (version ≡ second_version → ⊥) → kept_seconds version seconds ≡ 0
kept_none version seconds h = rw (ne_eqb version second_version h)

pub kept_ok : (version seconds : ℕ) → seconds_ok version (kept_seconds version seconds) ≡ seconds_ok version seconds
kept_ok version seconds = go (eqb version second_version) refl
  where
    go : (b : Bool) → eqb version second_version ≡ b → seconds_ok version (kept_seconds version seconds) ≡ seconds_ok version seconds
    go true e = rw e
    go false e = rw e

-- the limits don't depend on entries past cell n
pub cut_road_lem : (r : Road) → RoadOk r → RoadOk (cut_road r)
cut_road_lem r ok =
    let m = ok.cells in
    record {
      some = ok.some;
      cells = m;
      gate = ok.gate;
      speed = λ i l. rw (cut_at r.n r.speed m i l) (ok.speed i l);
      wave = λ i l. rw (cut_at r.n r.wave m i l) (ok.wave i l);
      share = λ i l. rw (cut_at r.n r.share m i l) (ok.share i l);
      last = λ i e. let l : i < r.n = omega (arith, e) in rw (cut_at r.n r.share m i l) (ok.last i e);
      ramp = λ i l. rw (cut_at r.n r.ramp m i l) (ok.ramp i l);
      jam = λ i l. rw (cut_at r.n r.jam m i l) (ok.jam i l);
      capacity = λ i l. rw (cut_at r.n r.capacity m i l) (ok.capacity i l);
    }

pub cut_state_lem : (r : Road) (s : State) → RoadOk r → StateOk r s → StateOk (cut_road r) (cut_state r.n s)
cut_state_lem r s road ok =
    let m = road.cells in
    record {
      done = ok.done;
      total = ok.total;
      gate_queue = ok.gate_queue;
      gate_cumulative = ok.gate_cumulative;
      held = λ i l. rw (cut_at r.n s.held m i l, cut_at r.n r.jam m i l) (ok.held i l);
      queue = λ i l. rw (cut_at r.n s.queue m i l) (ok.queue i l);
      no_ramp = λ i l e. rw (cut_at r.n s.queue m i l) (ok.no_ramp i l (rw (cut_at r.n r.ramp m i l) at e));
      cumulative = λ i l. rw (cut_at r.n s.cumulative m i l) (ok.cumulative i l);
    }

pub cut_row : (r : Road) (row : List ℕ) → RoadOk r → RowOk r row → RowOk (cut_road r) row
cut_row r row road ok =
    let m = road.cells in
    record {
      numbers = ok.numbers;
      gate = ok.gate;
      arrivals = ok.arrivals;
      release = ok.release;
      no_arrivals = λ i l e. ok.no_arrivals i l (rw (cut_at r.n r.ramp m i l) at e);
      no_release = λ i l e. ok.no_release i l (rw (cut_at r.n r.ramp m i l) at e);
    }
