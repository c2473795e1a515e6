-- Theorem: every number of a road and a state that were read is that at its offset; past cell n all are 0. Assumes nothing.
use Rattle.std.specs.Prelude.{◌≡◌, refl, List, ℕ, length}
use Rattle.std.proofs.Common.{ap, ◌∙◌, arith}
use Rattle.model.specs.declared.Road.{Road}
use Rattle.model.specs.declared.State.{State}
use Rattle.model.specs.Road.{zeros}
use Rattle.model.specs.Record.{short_size, number_size, number_of, version_of, seconds_of, gate_capacity_offset}
use Rattle.model.specs.Record.{gate_queue_offset, speed_offset, wave_offset, share_offset, ramp_offset}
use Rattle.model.specs.Record.{jam_offset, capacity_offset, held_offset, queue_offset}
use Rattle.fields.specs.FieldsLaws.{Column, column}
use Rattle.numbers.specs.Zeros.{length_zeros}
use Rattle.model.specs.Reading.{cells_of, steps_of, ReadAnswer, reading_of}
use Rattle.reading.specs.Cases.{ReadingEnds, read_found, early_refused}

pub record Numbers (s : List ℕ) (T : ℕ) (r : Road) (q : State) : Type 0 where
  pub cells : r.n ≡ cells_of s
  pub steps : T ≡ steps_of s
  pub version : r.version ≡ version_of s
  pub seconds : r.seconds ≡ seconds_of s
  pub gate_capacity : r.gate_capacity ≡ number_of s (gate_capacity_offset (version_of s)) number_size
  pub speed : Column s speed_offset short_size r.n r.speed
  pub wave : Column s wave_offset short_size r.n r.wave
  pub share : Column s share_offset short_size r.n r.share
  pub ramp : Column s ramp_offset short_size r.n r.ramp
  pub jam : Column s jam_offset number_size r.n r.jam
  pub capacity : Column s capacity_offset number_size r.n r.capacity
  pub gate_queue : q.gate_queue ≡ number_of s (gate_queue_offset (version_of s)) number_size
  pub held : Column s held_offset number_size r.n q.held
  pub queue : Column s queue_offset number_size r.n q.queue
  -- the state before step 0, with every F, every time and the steps done 0
  pub done : q.done ≡ 0
  pub gate_time : q.gate_time ≡ 0
  pub road_time : q.road_time ≡ 0
  pub ramp_time : q.ramp_time ≡ 0
  pub gate_cumulative : q.gate_cumulative ≡ 0
  pub cumulative : q.cumulative ≡ zeros

found_numbers : (s : List ℕ) {a : ReadAnswer} → ReadingEnds s a → a.number ≡ 0 → Numbers s a.steps a.road a.state
found_numbers s (ReadingEnds.early k l) h = absurd (early_refused l h)
found_numbers s (ReadingEnds.at_place p l) h = absurd (omega arith)
found_numbers s (ReadingEnds.at_step t l) h = absurd (omega arith)
found_numbers s (ReadingEnds.clear w) h =
    let n = cells_of s in
    let m = w.road.cells in
    record {
      cells = refl;
      steps = refl;
      version = refl;
      seconds = refl;
      gate_capacity = refl;
      speed = column s speed_offset short_size n m;
      wave = column s wave_offset short_size n m;
      share = column s share_offset short_size n m;
      ramp = column s ramp_offset short_size n m;
      jam = column s jam_offset number_size n m;
      capacity = column s capacity_offset number_size n m;
      gate_queue = refl;
      held = column s held_offset number_size n m;
      queue = column s queue_offset number_size n m;
      done = refl;
      gate_time = refl;
      road_time = refl;
      ramp_time = refl;
      gate_cumulative = refl;
      cumulative = refl;
    }

pub read_numbers : (s : List ℕ) (a : ReadAnswer) → a ≡ reading_of s → a.number ≡ 0 → Numbers s a.steps a.road a.state
read_numbers s a e h = let f : ReadingEnds s a = rw e (read_found s) in found_numbers s f h

-- the state's arrays have 64 entries
pub record Entries (q : State) : Type 0 where
  pub held : length q.held ≡ 64
  pub queue : length q.queue ≡ 64
  pub cumulative : length q.cumulative ≡ 64

pub read_entries : (s : List ℕ) (a : ReadAnswer) → a ≡ reading_of s → a.number ≡ 0 → Entries a.state
read_entries s a e h =
    let n = read_numbers s a e h in
    record { held = n.held.entries; queue = n.queue.entries; cumulative = ap length n.cumulative ∙ length_zeros }
