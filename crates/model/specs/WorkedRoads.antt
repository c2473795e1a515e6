-- docs/MODEL.md, 'Weights': a larger share may make the total larger, and a larger v may cause a refusal. Assumes nothing.
use Rattle.std.specs.Prelude.{◌≡◌, refl, List, [], ◌∷◌, ◌++◌, ℕ, replicate}
use Rattle.model.specs.Numbers.{one_of, first_from, first_of, first_fault, sum_of, fill_of, list_of}
use Rattle.model.specs.Road.{total_of}
use Rattle.model.specs.Flow.{thousandths_of, demand_of, gate_demand_of, supply_of, room_of, onward_of, entering_of, greatest_of, outflow_of}
use Rattle.model.specs.Flow.{capacity_at, demand_at, most_release_at, share_at, cumulative_at}
use Rattle.model.specs.Move.{moved_to, counted_of}
use Rattle.model.specs.Schedules.{road_at, outflows_of, engine_after}
use Rattle.model.specs.Record.{number_of, seconds_size}
use Rattle.model.specs.Limits.{place_ok, row_ok}
use Rattle.model.specs.Reading.{reading_by}
use Rattle.model.specs.Stepping.{lowest_of, table_fault}
use Rattle.model.specs.Running.{EndAnswer, end_of, opening_of, running_of}

-- a number of two bytes with this high and low byte, and one of four with this low byte
unfoldable pub two : ℕ → ℕ → List ℕ
two high low = high ∷ low ∷ []

unfoldable pub four : ℕ → List ℕ
four low = 0 ∷ 0 ∷ 0 ∷ low ∷ []

-- version 1, n 2, T steps, `bytes` bytes after the first field; gate capacity 0, gate queue 0
unfoldable pub header : ℕ → ℕ → List ℕ
header bytes T = four bytes ++ (1 ∷ 2 ∷ 0 ∷ T ∷ (four 0 ++ four 0))

-- v by its two bytes, w 1000, b by its two bytes, the ramp mark; J 1, C 1, held and ramp queue
unfoldable pub cell : List ℕ → List ℕ → ℕ → ℕ → ℕ → List ℕ
cell speed share ramp held queue = speed ++ (two 3 232 ++ (share ++ (two 0 ramp ++ (four 1 ++ (four 1 ++ (four held ++ four queue))))))

-- no arrivals, and a release at cell 2
unfoldable pub row : ℕ → List ℕ
row release = four 0 ++ (four 0 ++ (four 0 ++ (four 0 ++ four release)))

-- one part in cell 1, with speed 1000 and the share given: in the one step it leaves by the off-ramp or enters cell 2, which has speed 0
unfoldable pub shared : List ℕ → List ℕ
shared share = header 80 1 ++ (cell (two 3 232) share 0 1 0 ++ (cell (two 0 0) (two 0 0) 0 0 0 ++ row 0))

-- one part in cell 1, with share 1000 and the speed given, and one at the ramp of cell 2, which is released in step 1
unfoldable pub hastened : List ℕ → List ℕ
hastened speed = header 100 2 ++ (cell speed (two 3 232) 0 1 0 ++ (cell (two 3 232) (two 0 0) 1 0 1 ++ (row 0 ++ row 1)))

abbrev pub list : List ℕ
list = replicate 6 0

-- of an answer: the refusal's number, step and place, and the total
abbrev shown : EndAnswer → List ℕ
shown e = e.number ∷ e.step ∷ e.place ∷ total_of e.state ∷ []

pub record RaisedNumbers : Type 0 where
  -- with share 0 and with share 1000 the run is not refused, and the total is 0 and 1
  pub left : shown (running_of (shared (two 0 0)) [] list) ≡ 0 ∷ 0 ∷ 0 ∷ 0 ∷ []
  pub gone_on : shown (running_of (shared (two 3 232)) [] list) ≡ 0 ∷ 0 ∷ 0 ∷ 1 ∷ []
  -- with speed 500 cell 2 is empty when the release comes; with speed 1000 step 1 is refused with 10 at cell 2, and the total is that of step 0
  pub slow : (running_of (hastened (two 1 244)) [] list).number ≡ 0
  pub fast : shown (running_of (hastened (two 3 232)) [] list) ≡ 10 ∷ 1 ∷ 2 ∷ 2 ∷ []

pub raised_numbers : RaisedNumbers
unfolding two four header cell row shared hastened reading_by one_of number_of seconds_size
    thousandths_of demand_of gate_demand_of supply_of room_of onward_of entering_of greatest_of outflow_of
    sum_of fill_of list_of first_from first_of first_fault place_ok row_ok
    capacity_at demand_at most_release_at share_at cumulative_at moved_to counted_of outflows_of lowest_of
    table_fault road_at engine_after end_of opening_of running_of
raised_numbers = record { left = refl; gone_on = refl; slow = refl; fast = refl }
