-- docs/MODEL.md, 'Edges': the starred ones, and the printed run, as one fact about a table of rules. Assumes nothing.
use Rattle.std.specs.Prelude.{◌≡◌, refl, Bool, true, ◌&&◌, List, [], ◌∷◌, ◌++◌, ℕ, zero, suc, ◌+◌, eqb}
use Rattle.std.specs.Int.Count.{ones_in, ones}
use Rattle.model.specs.declared.State.{State}
use Rattle.model.specs.Numbers.{sum_of, fill_of, list_of, at, first_from, first_of, first_fault}
use Rattle.model.specs.Road.{total_of}
use Rattle.model.specs.Flow.{thousandths_of, demand_of, gate_demand_of, supply_of, room_of, onward_of, entering_of, greatest_of, outflow_of}
use Rattle.model.specs.Flow.{capacity_at, demand_at, most_release_at, share_at, cumulative_at}
use Rattle.model.specs.Move.{moved_to, counted_of, exits_of}
use Rattle.model.specs.Lanes.{open_capacity, lanes_ok}
use Rattle.model.specs.Schedules.{outflows_of}
use Rattle.model.specs.Limits.{place_ok, row_ok, frame_ok, input_ok}
use Rattle.model.specs.Stepping.{Answer, lowest_of, stepping_of}
use Rattle.model.specs.WorkedPrinted.{past, road, start, row, built, works}

-- what a rule gives, and the number on the page
pub record Edge : Type 0 where
  pub gives : ℕ
  pub page : ℕ

unfoldable pub edge : ℕ → ℕ → Edge
edge a b = record { gives = a; page = b }

unfoldable pub holds : List Edge → Bool
holds [] = true
holds (e ∷ es) = eqb e.gives e.page && holds es

-- the state after k steps with all lanes open, each from the state that the last one left
unfoldable pub after : ℕ → State
after zero = start
after (suc k) = (stepping_of road (after k) (row 300) built built).state

-- one line of the printed run: outflow in step k, held or gate queue after it, ramp queue after it
unfoldable pub gate_line : ℕ → ℕ → ℕ → List Edge
gate_line k outflow queue =
    edge (after (suc k)).gate_cumulative ((after k).gate_cumulative + outflow)
    ∷ edge (after (suc k)).gate_queue queue
    ∷ []

unfoldable pub cell_line : ℕ → ℕ → ℕ → ℕ → ℕ → List Edge
cell_line k i outflow held queue =
    edge (at (after (suc k)).cumulative i) (at (after k).cumulative i + outflow)
    ∷ edge (at (after (suc k)).held i) held
    ∷ edge (at (after (suc k)).queue i) queue
    ∷ []

-- a step from the start with the ramp's queue, the release and the lanes open at cell 2
unfoldable pub released_by : ℕ → ℕ → List ℕ → Answer
released_by queue release usable = stepping_of road (record {
  done = 0;
  gate_time = 0;
  road_time = 0;
  ramp_time = 0;
  gate_queue = 3000;
  gate_cumulative = 0;
  held = 2000 ∷ 4000 ∷ past 62;
  queue = 0 ∷ queue ∷ past 62;
  cumulative = past 64;
}) (row release) built usable

unfoldable pub released : ℕ → ℕ → Answer
released queue release = released_by queue release built

unfoldable pub rules : List Edge
rules =
    -- v 500, C 2000: held 2566 and 2567 both give demand 1283; v 1000, held 2001: 2000
    edge (demand_of 500 2000 2566) 1283
    ∷ edge (demand_of 500 2000 2567) 1283
    ∷ edge (demand_of 1000 2000 2001) 2000
    -- w 250, J 8000, C 2000: held 2566 gives supply 1358; held 8000: 0
    ∷ edge (supply_of 250 2000 8000 2566) 1358
    ∷ edge (supply_of 250 2000 8000 8000) 0
    -- b 750, F 934: outflow 933 lets in 700, 934 lets in 701
    ∷ edge (entering_of 750 934 933) 700
    ∷ edge (entering_of 750 934 934) 701
    -- arrivals 500: a release equal to queue plus arrivals passes; one more is refused with 9
    ∷ edge (released 0 500).number 0
    ∷ edge (released 0 501).number 9
    ∷ edge (released 0 501).place 2
    ∷ edge (released 300 800).number 0
    ∷ edge (released 300 801).number 9
    ∷ edge (released 300 801).place 2
    -- a release equal to the supply passes; one more is refused with 10
    ∷ edge (released 1500 1000).number 0
    ∷ edge (released 1500 1001).number 10
    ∷ edge (released 1500 1001).place 2
    -- one of three lanes closed at cell 2, C 1000: supply 666
    ∷ edge (open_capacity 1000 7 6) 666
    ∷ edge (released_by 1500 666 works).number 0
    ∷ edge (released_by 1500 667 works).number 10
    ∷ edge (released_by 1500 300 (7 ∷ 0 ∷ past 62)).number 10
    -- an open lane that is not built is refused with 18, before 10; entries past cell 2 are not read
    ∷ edge (released_by 1500 1001 (7 ∷ 8 ∷ past 62)).number 18
    ∷ edge (released_by 1500 1001 (7 ∷ 8 ∷ past 62)).place 2
    ∷ edge (released_by 1500 300 (7 ∷ 7 ∷ 8 ∷ past 61)).number 0
    ∷ []

-- steps 0, 1 and 2 of the printed run, and its last line
unfoldable pub run : List Edge
run =
    gate_line 0 1500 2500
    ++ cell_line 0 0 934 2566 0
    ++ cell_line 0 1 1000 4000 1700
    ++ gate_line 1 1358 2142
    ++ cell_line 1 0 933 2991 0
    ++ cell_line 1 1 1000 4000 1900
    ++ gate_line 2 1252 1890
    ++ cell_line 2 0 934 3309 0
    ++ cell_line 2 1 1000 4000 2100
    ++ (edge (total_of (after 3)) 33098
    ∷ edge (after 3).gate_time 6532
    ∷ edge (after 3).road_time 20866
    ∷ edge (after 3).ramp_time 5700
    ∷ edge (exits_of road (after 3)) 3701
    ∷ edge (after 3).done 3
    ∷ [])

pub edges_hold : holds (rules ++ run) ≡ true
unfolding holds edge rules run gate_line cell_line released released_by road start row built works after open_capacity ones ones_in lanes_ok
    thousandths_of demand_of gate_demand_of supply_of room_of onward_of entering_of greatest_of outflow_of
    sum_of fill_of list_of first_from first_of first_fault place_ok row_ok frame_ok input_ok
    capacity_at demand_at most_release_at share_at cumulative_at moved_to counted_of exits_of outflows_of lowest_of stepping_of
edges_hold = refl
