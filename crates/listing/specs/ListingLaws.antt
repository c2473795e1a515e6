-- Laws of the listing: the lengths of its lines, and their words put one after the other. Assumes nothing.
use Rattle.std.specs.Prelude.{List, ◌++◌, ℕ, zero, suc, ◌+◌, ◌*◌, ◌≤◌, ◌<◌, ◌≡◌, length}
use Rattle.std.proofs.Math.Path.{refl, sym}
use Rattle.std.proofs.Common.{◌∙◌, add-one, length-append}
use native.Mathlib.Omega.{arith}
use Rattle.model.specs.declared.State.{State}
use Rattle.model.specs.Numbers.{at}
use Rattle.numbers.specs.PlacedText.{Puts, placed_none, puts_more, Room, room, room_more, Text}
use Rattle.model.specs.Words.{blank, newline, word_of, named_of}
use Rattle.listing.specs.WordsLaws.{word_length, named_length, Word, NamedNumber}
use Rattle.model.specs.Listing.{most_line, most_last, most_time, refused_word, total_word, gate_word, road_word}
use Rattle.model.specs.Listing.{ramp_word, exits_word, seconds_word, header_line, line_of, cell_lines}
use Rattle.model.specs.Listing.{lines_of, total_line, seconds_line, refused_line}

-- a state with the gate's queue and the columns that the lines show; everything else is s's
abbrev pub showing : State → ℕ → List ℕ → List ℕ → State
showing s gate held queue = record {
  done = s.done;
  gate_time = s.gate_time;
  road_time = s.road_time;
  ramp_time = s.ramp_time;
  gate_queue = gate;
  gate_cumulative = s.gate_cumulative;
  held = held;
  queue = queue;
  cumulative = s.cumulative;
}

line_length : (step place outflow held queue : ℕ) → length (line_of step place outflow held queue) ≤ most_line
unfolding line_of
line_length step place outflow held queue =
    let e = word_of queue newline in
    let d = word_of held blank ++ word_of queue newline in
    let c = word_of outflow blank ++ (word_of held blank ++ word_of queue newline) in
    let b = word_of place blank ++ (word_of outflow blank ++ (word_of held blank ++ word_of queue newline)) in
    omega (
      arith,
      length-append (word_of step blank) b,
      length-append (word_of place blank) c,
      length-append (word_of outflow blank) d,
      length-append (word_of held blank) e,
      word_length step blank,
      word_length place blank,
      word_length outflow blank,
      word_length held blank,
      word_length queue newline,
    )

line_room : (a : List ℕ) (start step place outflow held queue : ℕ) (b : List ℕ) (m : ℕ) → Puts a start (line_of step place outflow held queue) b m
    → Room a start b m most_line
line_room a start step place outflow held queue b m p =
    room a start (line_of step place outflow held queue) b m most_line p (line_length step place outflow held queue)

cells_length : (step : ℕ) (y : List ℕ) (s : State) (i : ℕ) → length (cell_lines step y s i) ≤ most_line * i
unfolding cell_lines
cells_length step y s zero = omega arith
cells_length step y s (suc i) =
    let e = line_of step (suc i) (at y (suc i)) (at s.held i) (at s.queue i) in
    omega (
      arith,
      length-append (cell_lines step y s i) e,
      cells_length step y s i,
      line_length step (suc i) (at y (suc i)) (at s.held i) (at s.queue i),
    )

pub lines_length : (step : ℕ) (y : List ℕ) (s : State) (n : ℕ) → length (lines_of step y s n) ≤ most_line * (n + 1)
lines_length step y s n =
    let gate = line_of step 0 (at y 0) s.gate_queue 0 in
    omega (
      arith,
      length-append gate (cell_lines step y s n),
      line_length step 0 (at y 0) s.gate_queue 0,
      cells_length step y s n,
    )

pub lines_room : (a : List ℕ) (start step : ℕ) (y : List ℕ) (s : State) (n : ℕ) (b : List ℕ) (m : ℕ) → Puts a start (lines_of step y s n) b m
    → Room a start b m (most_line * (n + 1))
lines_room a start step y s n b m p = room a start (lines_of step y s n) b m (most_line * (n + 1)) p (lines_length step y s n)

pub header_room : (a : List ℕ) (start : ℕ) (b : List ℕ) (m : ℕ) → Puts a start header_line b m → Room a start b m most_line
unfolding header_line
header_room a start b m p = room a start header_line b m most_line p (omega arith)

pub total_length : (total gate road ramp exits : ℕ) → length (total_line total gate road ramp exits) ≤ most_last
unfolding total_line
total_length total gate road ramp exits =
    let e = named_of exits_word exits newline in
    let d = named_of ramp_word ramp blank ++ e in
    let c = named_of road_word road blank ++ d in
    let g = named_of gate_word gate blank ++ c in
    omega (
      arith,
      length-append (named_of total_word total blank) g,
      length-append (named_of gate_word gate blank) c,
      length-append (named_of road_word road blank) d,
      length-append (named_of ramp_word ramp blank) e,
      named_length total_word total blank,
      named_length gate_word gate blank,
      named_length road_word road blank,
      named_length ramp_word ramp blank,
      named_length exits_word exits newline,
    )

pub total_room : (a : List ℕ) (start total gate road ramp exits : ℕ) (b : List ℕ) (m : ℕ) → Puts a start (total_line total gate road ramp exits) b m
    → Room a start b m most_last
total_room a start total gate road ramp exits b m p =
    room a start (total_line total gate road ramp exits) b m most_last p (total_length total gate road ramp exits)

pub seconds_length : (time : ℕ) → length (seconds_line time) ≤ most_time
unfolding seconds_line
seconds_length time = omega (arith, named_length seconds_word time newline)

pub refused_room : (a : List ℕ) (start number step place : ℕ) (b : List ℕ) (m : ℕ) → Puts a start (refused_line number step place) b m
    → Room a start b m most_line
unfolding refused_line
refused_room a start number step place b m p =
    let d = word_of step blank ++ word_of place newline in
    let c = word_of number blank ++ (word_of step blank ++ word_of place newline) in
    room a start (refused_line number step place) b m most_line p (omega (
      arith,
      length-append refused_word c,
      length-append (word_of number blank) d,
      length-append (word_of step blank) (word_of place newline),
      word_length number blank,
      word_length step blank,
      word_length place newline,
    ))

-- the words of a line, put one after the other
module _ {a : List ℕ} {start : ℕ} {b : List ℕ} {p : ℕ} {c : List ℕ} {q : ℕ} {d : List ℕ} {u : ℕ} {e : List ℕ} {v : ℕ} where
  pub line_put : {step place outflow held queue : ℕ} {f : List ℕ} {w : ℕ}
      → Word a start step blank b p → Word b p place blank c q → Word c q outflow blank d u → Word d u held blank e v → Word e v queue newline f w
      → Puts a start (line_of step place outflow held queue) f w
  unfolding line_of
  line_put {f = f} {w = w} (Word.put h) (Word.put i) (Word.put j) (Word.put k) (Word.put l) =
      puts_more a start _ b p _ f w h (puts_more b p _ c q _ f w i (puts_more c q _ d u _ f w j (puts_more d u _ e v _ f w k l)))

  pub total_put : {total gate road ramp exits : ℕ} {f : List ℕ} {w : ℕ}
      → NamedNumber a start total_word total blank b p → NamedNumber b p gate_word gate blank c q → NamedNumber c q road_word road blank d u
      → NamedNumber d u ramp_word ramp blank e v → NamedNumber e v exits_word exits newline f w
      → Puts a start (total_line total gate road ramp exits) f w
  unfolding total_line
  total_put {f = f} {w = w} (NamedNumber.put h) (NamedNumber.put i) (NamedNumber.put j) (NamedNumber.put k) (NamedNumber.put l) =
      puts_more a start _ b p _ f w h (puts_more b p _ c q _ f w i (puts_more c q _ d u _ f w j (puts_more d u _ e v _ f w k l)))

  pub refused_put : {number step place : ℕ} → Text a start refused_word b p → Word b p number blank c q → Word c q step blank d u → Word d u place newline e v
      → Puts a start (refused_line number step place) e v
  unfolding refused_line
  refused_put (Text.put h) (Word.put i) (Word.put j) (Word.put k) =
      puts_more a start _ b p _ e v h (puts_more b p _ c q _ e v i (puts_more c q _ d u _ e v j k))

-- the lines of i cells are put after those before, for every state with these columns
pub record ListedCells (a : List ℕ) (start step n : ℕ) (y : List ℕ) (gate : ℕ) (held queue b : List ℕ) (end i : ℕ) : Type 0 where
  pub within : i ≤ n
  pub puts : (s : State) → Puts a start (cell_lines step y (showing s gate held queue) i) b end
  pub room : Room a start b end (most_line * i)

module _ {a : List ℕ} {start step n : ℕ} {y : List ℕ} {gate : ℕ} {held queue : List ℕ} where
  pub listed_none : ListedCells a start step n y gate held queue a start 0
  unfolding cell_lines
  listed_none = record {
    within = omega arith;
    puts = λ s. (omega arith, sym (placed_none a start));
    room = record { end = omega arith; same = refl };
  }

  module _ {b : List ℕ} {end i : ℕ} (h : ListedCells a start step n y gate held queue b end i) where
    pub listed_more : {c : List ℕ} {m : ℕ} → i < n
        → Puts b end (line_of step (i + 1) (at y (i + 1)) (at held i) (at queue i)) c m → ListedCells a start step n y gate held queue c m (i + 1)
    unfolding cell_lines
    listed_more {c} {m} l p =
        let z = line_room b end _ _ _ _ _ c m p in
        record {
          within = omega arith;
          puts = λ s. rw (add-one i) (puts_more a start (cell_lines step y (showing s gate held queue) i) b end _ c m (h.puts s) (rw (add-one i) at p));
          room = record { end = omega (arith, z.end, h.room.end); same = z.same ∙ h.room.same };
        }

    -- after the gate's line: the room that is used, and the lines of the step
    module _ (g : List ℕ) (from : ℕ) (p : Puts g from (line_of step 0 (at y 0) gate 0) a start) where
      pub listed_room : Room g from b end (most_line + most_line * i)
      listed_room = room_more (line_room g from _ _ _ _ _ a start p) h.room

      pub listed_end : n ≤ i → (s : State) → Puts g from (lines_of step y (showing s gate held queue) n) b end
      listed_end l s =
          let e : i ≡ n = omega (arith, h.within) in
          puts_more g from _ a start _ b end p (rw e at (h.puts s))
