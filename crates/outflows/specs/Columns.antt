-- A road and a state whose columns are lent: everything else may be that of any road and any state. Assumes nothing.
use Rattle.std.specs.Prelude.{List, ℕ}
use Rattle.model.specs.declared.Road.{Road}
use Rattle.model.specs.declared.State.{State}
use Rattle.outflows.specs.declared.Ledger.{Ledger}

-- a road with these columns; everything else is r's
abbrev pub road_of : Road → ℕ → ℕ → List ℕ → List ℕ → List ℕ → List ℕ → List ℕ → Road
road_of r n gate speed wave share jam capacity = record {
  n = n;
  version = r.version;
  seconds = r.seconds;
  gate_capacity = gate;
  speed = speed;
  wave = wave;
  share = share;
  ramp = r.ramp;
  jam = jam;
  capacity = capacity;
}

-- a road with these shares; everything else is r's
abbrev pub with_share_column : Road → ℕ → List ℕ → Road
with_share_column r n share = road_of r n r.gate_capacity r.speed r.wave share r.jam r.capacity

-- a road with the columns from which places send; everything else is r's
abbrev pub with_demands : Road → ℕ → ℕ → List ℕ → List ℕ → List ℕ → Road
with_demands r n gate speed share capacity = road_of r n gate speed r.wave share r.jam capacity

-- a road with the columns of the supplies; everything else is r's
abbrev pub with_supplies : Road → ℕ → List ℕ → List ℕ → List ℕ → Road
with_supplies r n wave jam capacity = road_of r n r.gate_capacity r.speed wave r.share jam capacity

-- the ledger of a state
abbrev pub ledger_of : State → Ledger
ledger_of s = record {
  done = s.done;
  gate_time = s.gate_time;
  road_time = s.road_time;
  ramp_time = s.ramp_time;
  gate_queue = s.gate_queue;
  gate_cumulative = s.gate_cumulative;
}

-- a ledger with this gate queue and this F of the gate; everything else is l's
abbrev pub with_gate : Ledger → ℕ → ℕ → Ledger
with_gate l queue cumulative = record {
  done = l.done;
  gate_time = l.gate_time;
  road_time = l.road_time;
  ramp_time = l.ramp_time;
  gate_queue = queue;
  gate_cumulative = cumulative;
}

-- the state of a ledger and columns
abbrev pub state_of : Ledger → List ℕ → List ℕ → List ℕ → State
state_of l held queue cumulative = record {
  done = l.done;
  gate_time = l.gate_time;
  road_time = l.road_time;
  ramp_time = l.ramp_time;
  gate_queue = l.gate_queue;
  gate_cumulative = l.gate_cumulative;
  held = held;
  queue = queue;
  cumulative = cumulative;
}
