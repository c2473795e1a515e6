-- The same study counted finer: for a whole K every count is K times as large, so its parts are K times smaller. Assumes nothing.
use Rattle.std.specs.Prelude.{cond, List, [], ◌∷◌, ℕ, zero, suc, ◌-◌, ◌*◌, ◌^◌, eqb}
use Rattle.model.specs.Flow.{whole}
use Rattle.model.specs.declared.Road.{Road}
use Rattle.model.specs.declared.State.{State}
use Rattle.model.specs.Schedules.{Study, study}
use Rattle.model.specs.Flow.{share_at}

-- every number of a list times K
unfoldable pub times_of : ℕ → List ℕ → List ℕ
times_of K [] = []
times_of K (x ∷ l) = K * x ∷ times_of K l

-- jam counts and capacities times K; speeds, waves and shares are the road's
abbrev pub scaled_road : ℕ → Road → Road
scaled_road K r = record {
  n = r.n;
  version = r.version;
  seconds = r.seconds;
  gate_capacity = K * r.gate_capacity;
  speed = r.speed;
  wave = r.wave;
  share = r.share;
  ramp = r.ramp;
  jam = times_of K r.jam;
  capacity = times_of K r.capacity;
}

-- queues, held counts, cumulative outflows and times, times K
abbrev pub scaled_state : ℕ → State → State
scaled_state K s = record {
  done = s.done;
  gate_time = K * s.gate_time;
  road_time = K * s.road_time;
  ramp_time = K * s.ramp_time;
  gate_queue = K * s.gate_queue;
  gate_cumulative = K * s.gate_cumulative;
  held = times_of K s.held;
  queue = times_of K s.queue;
  cumulative = times_of K s.cumulative;
}

-- arrivals and releases times K; steps and lanes are the study's
abbrev pub scaled : ℕ → Study → Study
scaled K a = study (scaled_road K a.road) (scaled_state K a.start) a.steps (λ k. times_of K (a.rows k)) a.lanes

-- the product of the shares of place p and of those after it, at most m places, up to the first with share 0; and the number of these shares
unfoldable pub product_from : (ℕ → ℕ) → ℕ → ℕ → ℕ
product_from share p zero = 1
product_from share p (suc m) = cond (eqb (share p) 0) 1 (share p * product_from share (suc p) m)

unfoldable pub count_from : (ℕ → ℕ) → ℕ → ℕ → ℕ
count_from share p zero = 0
count_from share p (suc m) = cond (eqb (share p) 0) 0 (suc (count_from share (suc p) m))

-- R: the part of the outflow of place p that reaches the end, as a product of shares b, each in thousandths
unfoldable pub reach_of : Road → ℕ → ℕ
reach_of r p = product_from (share_at r) p (r.n - p)

-- 1,000^m, where m is the number of these shares
unfoldable pub thousands_of : Road → ℕ → ℕ
thousands_of r p = whole ^ count_from (share_at r) p (r.n - p)
