-- docs/MODEL.md, 'A run printed whole': its record, read by the definitions, and the same record with faults. Assumes nothing.
use Rattle.std.specs.Prelude.{◌≡◌, refl, true, false, List, [], ◌∷◌, ◌++◌, map, ℕ, length, set, replicate}
use Rattle.model.specs.declared.State.{State}
use Rattle.model.specs.declared.Road.{Road}
use Rattle.model.specs.Numbers.{fill_of, list_of, one_of, first_from, first_of}
use Rattle.model.specs.Road.{zeros}
use Rattle.model.specs.Record.{number_of, seconds_size, record_row}
use Rattle.model.specs.Limits.{place_ok, row_ok}
use Rattle.model.specs.Reading.{cells_and_steps_ok, accepted_of, reading_by, reading_of}

-- 120 bytes follow the first field; version 1, n 2, T 3; gate capacity 2000, queue 3000
unfoldable pub header : List ℕ
header = 0 ∷ 0 ∷ 0 ∷ 120 ∷ 1 ∷ 2 ∷ 0 ∷ 3 ∷ 0 ∷ 0 ∷ 7 ∷ 208 ∷ 0 ∷ 0 ∷ 11 ∷ 184 ∷ []

-- v 500, w 250, b 750, no ramp, J 8000, C 2000, held 2000
unfoldable pub upstream : List ℕ
upstream = 1 ∷ 244 ∷ 0 ∷ 250 ∷ 2 ∷ 238 ∷ 0 ∷ 0 ∷ 0 ∷ 0 ∷ 31 ∷ 64 ∷ 0 ∷ 0 ∷ 7 ∷ 208 ∷ 0 ∷ 0 ∷ 7 ∷ 208 ∷ 0 ∷ 0 ∷ 0 ∷ 0 ∷ []

-- v 500, w 250, b 0, ramp, J 8000, C 1000, held 4000, queue 1500
unfoldable pub downstream : List ℕ
downstream = 1 ∷ 244 ∷ 0 ∷ 250 ∷ 0 ∷ 0 ∷ 0 ∷ 1 ∷ 0 ∷ 0 ∷ 31 ∷ 64 ∷ 0 ∷ 0 ∷ 3 ∷ 232 ∷ 0 ∷ 0 ∷ 15 ∷ 160 ∷ 0 ∷ 0 ∷ 5 ∷ 220 ∷ []

-- gate arrivals 1000, ramp arrivals 500, release 300
unfoldable pub row : List ℕ
row = 0 ∷ 0 ∷ 3 ∷ 232 ∷ 0 ∷ 0 ∷ 0 ∷ 0 ∷ 0 ∷ 0 ∷ 0 ∷ 0 ∷ 0 ∷ 0 ∷ 1 ∷ 244 ∷ 0 ∷ 0 ∷ 1 ∷ 44 ∷ []

unfoldable pub sample : List ℕ
sample = header ++ (upstream ++ (downstream ++ (row ++ (row ++ row))))

bytes : length sample ≡ 124
unfolding sample header upstream downstream row
bytes = refl

-- two cells in an array of 64
unfoldable pub cells : ℕ → ℕ → List ℕ
cells a b = a ∷ b ∷ replicate 62 0

road : Road
road = record {
  n = 2;
  version = 1;
  seconds = 0;
  gate_capacity = 2000;
  speed = cells 500 500;
  wave = cells 250 250;
  share = cells 750 0;
  ramp = cells 0 1;
  jam = cells 8000 8000;
  capacity = cells 2000 1000;
}

unfoldable pub start : State
start = record {
  done = 0;
  gate_time = 0;
  road_time = 0;
  ramp_time = 0;
  gate_queue = 3000;
  gate_cumulative = 0;
  held = cells 2000 4000;
  queue = cells 0 1500;
  cumulative = zeros;
}

accepted : reading_of sample ≡ accepted_of 3 road start
unfolding sample header upstream downstream row cells road start reading_by one_of number_of seconds_size fill_of list_of first_from first_of place_ok row_ok
accepted = refl

rows : map (record_row sample 2) (0 ∷ 1 ∷ 2 ∷ []) ≡ replicate 3 (1000 ∷ 0 ∷ 0 ∷ 500 ∷ 300 ∷ [])
unfolding sample header upstream downstream row number_of seconds_size list_of
rows = refl

-- n 64 and T 1,440 pass; 65, 0 and 1,441 are refused with 3
counts : cells_and_steps_ok 64 1440 ∷ cells_and_steps_ok 65 3 ∷ cells_and_steps_ok 0 3 ∷ cells_and_steps_ok 2 1441 ∷ cells_and_steps_ok 2 0 ∷ []
    ≡ true ∷ false ∷ false ∷ false ∷ false ∷ []
counts = refl

-- number and place of the refusal if byte i is replaced
fault : ℕ → ℕ → List ℕ
fault i byte = (reading_of (set sample i byte)).number ∷ (reading_of (set sample i byte)).place ∷ []

-- the first field is one too large; version 3; T 0; n 3
faults_header : fault 3 121 ∷ fault 4 3 ∷ fault 7 0 ∷ fault 5 3 ∷ [] ≡ (1 ∷ 0 ∷ []) ∷ (2 ∷ 0 ∷ []) ∷ (3 ∷ 0 ∷ []) ∷ (4 ∷ 0 ∷ []) ∷ []
unfolding fault sample header upstream downstream row reading_by one_of number_of seconds_size fill_of list_of first_from first_of place_ok row_ok
faults_header = refl

-- the gate's queue above its limit; at cell 1 mark 256, held above J, a queue without a ramp; at cell 2 a share other than 0, and a queue above its limit
faults_place : fault 12 60 ∷ fault 22 1 ∷ fault 34 32 ∷ fault 39 1 ∷ fault 45 1 ∷ fault 60 60 ∷ []
    ≡ (5 ∷ 0 ∷ []) ∷ (5 ∷ 1 ∷ []) ∷ (5 ∷ 1 ∷ []) ∷ (5 ∷ 1 ∷ []) ∷ (5 ∷ 2 ∷ []) ∷ (5 ∷ 2 ∷ []) ∷ []
unfolding fault sample header upstream downstream row reading_by one_of number_of seconds_size fill_of list_of first_from first_of place_ok row_ok
faults_place = refl

-- gate arrivals above 1,000,000 in step 0; a release at cell 1, which has no ramp, in step 1; ramp arrivals above 1,000,000 at cell 2 in step 2
faults_step : fault 65 16 ∷ fault 95 1 ∷ fault 117 16 ∷ [] ≡ (6 ∷ 0 ∷ []) ∷ (6 ∷ 1 ∷ []) ∷ (6 ∷ 2 ∷ []) ∷ []
unfolding fault sample header upstream downstream row reading_by one_of number_of seconds_size fill_of list_of first_from first_of place_ok row_ok
faults_step = refl
