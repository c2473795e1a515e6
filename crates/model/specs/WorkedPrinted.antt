-- docs/MODEL.md, 'A run printed whole': its road, start, row and lanes, which other files use. Assumes nothing.
use Rattle.std.specs.Prelude.{List, [], ◌∷◌, ℕ, replicate}
use Rattle.model.specs.declared.State.{State}
use Rattle.model.specs.declared.Road.{Road}

-- the printed run: its road, its start and its row
abbrev pub past : ℕ → List ℕ
past n = replicate n 0

unfoldable pub road : Road
road = record {
  n = 2;
  version = 1;
  seconds = 0;
  gate_capacity = 2000;
  speed = 500 ∷ 500 ∷ past 62;
  wave = 250 ∷ 250 ∷ past 62;
  share = 750 ∷ 0 ∷ past 62;
  ramp = 0 ∷ 1 ∷ past 62;
  jam = 8000 ∷ 8000 ∷ past 62;
  capacity = 2000 ∷ 1000 ∷ past 62;
}

unfoldable pub start : State
start = record {
  done = 0;
  gate_time = 0;
  road_time = 0;
  ramp_time = 0;
  gate_queue = 3000;
  gate_cumulative = 0;
  held = 2000 ∷ 4000 ∷ past 62;
  queue = 0 ∷ 1500 ∷ past 62;
  cumulative = past 64;
}

unfoldable pub row : ℕ → List ℕ
row release = 1000 ∷ 0 ∷ 0 ∷ 500 ∷ release ∷ []

-- three lanes built in each cell; all open, or one closed in cell 2
unfoldable pub built : List ℕ
built = 7 ∷ 7 ∷ past 62

unfoldable pub works : List ℕ
works = 7 ∷ 6 ∷ past 62
