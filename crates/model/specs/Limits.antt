-- docs/MODEL.md, 'The operations and their refusals': the limits of 5, 6 and 7, as tests. Assumes nothing.
use Rattle.std.specs.Prelude.{Bool, cond, ◌&&◌, List, ℕ, zero, suc, ◌+◌, ◌*◌, leb, eqb, length}
use Rattle.model.specs.declared.State.{State}
use Rattle.model.specs.declared.Road.{Road}
use Rattle.model.specs.Numbers.{at, all_of}
use Rattle.model.specs.Road.{most_cells, most_steps, most_rate, most_start, most_present, total_of}
use Rattle.model.specs.Flow.{whole}

-- after s steps: a queue is at most 1,000,000,000 + 1,000,000 × s, an F at most 1,000,000 × s, the total at most 200,000,000,000 × s
abbrev pub most_queue : ℕ → ℕ
most_queue done = most_start + most_rate * done

abbrev pub most_cumulative : ℕ → ℕ
most_cumulative done = most_rate * done

abbrev pub most_total : ℕ → ℕ
most_total done = most_present * done

-- the limit of a queue, arrivals or a release: `most` at a cell with a ramp (mark 1), 0 at a cell without one (mark 0)
abbrev pub at_ramp : ℕ → ℕ → ℕ
at_ramp most ramp = most * ramp

-- the greatest share that the cell at i may have: 1,000, and 0 at the last cell
abbrev pub most_share : ℕ → ℕ → ℕ
most_share n i = cond (eqb (i + 1) n) 0 whole

-- 5 applies if this fails: the gate is within its limits; in 7, within those after `done` steps
abbrev pub gate_ok : ℕ → ℕ → ℕ → ℕ → Bool
gate_ok capacity queue cumulative done =
    leb capacity most_rate && (leb queue (most_queue done) && leb cumulative (most_cumulative done))

-- 5 applies if this fails: a cell is within its limits, and its ramp mark is at most 1
abbrev pub cell_ok : ℕ → ℕ → ℕ → ℕ → ℕ → ℕ → ℕ → Bool
cell_ok most speed wave share ramp jam capacity =
    leb speed whole && (leb wave whole && (leb share most && (leb ramp 1 && (leb jam most_rate && leb capacity most_rate))))

-- 5 applies if this fails: held is at most J, and a cell without a ramp has no queue; in 7, the limits are those after `done` steps
abbrev pub counts_ok : ℕ → ℕ → ℕ → ℕ → ℕ → ℕ → Bool
counts_ok ramp jam held queue cumulative done =
    leb held jam && (leb queue (at_ramp (most_queue done) ramp) && leb cumulative (most_cumulative done))

-- a place, the gate (0) or a cell, is within its limits after the steps that the state has done
unfoldable pub place_ok : Road → State → ℕ → Bool
place_ok r s zero = gate_ok r.gate_capacity s.gate_queue s.gate_cumulative s.done
place_ok r s (suc i) =
    cell_ok (most_share r.n i) (at r.speed i) (at r.wave i) (at r.share i) (at r.ramp i) (at r.jam i) (at r.capacity i)
    && counts_ok (at r.ramp i) (at r.jam i) (at s.held i) (at s.queue i) (at s.cumulative i) s.done

-- 6 applies if this fails: a row's numbers are at most 1,000,000, and 0 for a cell without a ramp
abbrev pub rates_ok : ℕ → ℕ → ℕ → Bool
rates_ok ramp arrivals release = leb arrivals (at_ramp most_rate ramp) && leb release (at_ramp most_rate ramp)

abbrev pub rates_at : List ℕ → List ℕ → ℕ → Bool
rates_at ramp row i = rates_ok (at ramp i) (at row (2 * i + 1)) (at row (2 * i + 2))

unfoldable pub row_ok : List ℕ → ℕ → List ℕ → Bool
row_ok ramp n row = leb (at row 0) most_rate && all_of (rates_at ramp row) n

-- 7 applies if this fails: n is 1 to 64, the steps done are at most 1,440, the row has 1 + 2n numbers, and the total is within its limit
unfoldable pub frame_ok : ℕ → ℕ → ℕ → ℕ → Bool
frame_ok n done total numbers =
    leb 1 n && (leb n most_cells && (leb done most_steps && (eqb numbers (1 + 2 * n) && leb total (most_total done))))

-- 7 applies if this fails: that, and the gate, the cells and the row are within their limits
unfoldable pub input_ok : Road → State → List ℕ → Bool
input_ok r s row =
    frame_ok r.n s.done (total_of s) (length row) && (all_of (place_ok r s) (r.n + 1) && row_ok r.ramp r.n row)

-- the limits of 7 for the state alone: steps done, total, gate and cells
unfoldable pub state_ok : Road → State → Bool
state_ok r s = leb s.done most_steps && (leb (total_of s) (most_total s.done) && all_of (place_ok r s) (r.n + 1))

-- no number of the list is above `most`
unfoldable pub all_within : List ℕ → ℕ → Bool
all_within list most = all_of (λ i. leb (at list i) most) (length list)
