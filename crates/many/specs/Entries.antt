-- The loops of an entry: the longest queues of the ramps stored in it, and its numbers put into their part of the answers. Assumes nothing.
use Rattle.std.specs.Prelude.{◌≡◌, List, ◌∷◌, ℕ, suc, ◌+◌, ◌≤◌, ◌<◌, min, length, set}
use Rattle.std.proofs.Math.Path.{refl}
use Rattle.std.proofs.Common.{sym, ap, ◌∙◌, arith, ext_get_or}
use Rattle.model.specs.Numbers.{at, fill_of}
use Rattle.numbers.specs.RowsLaws.{fill_at, fill_more, length_fill}
use Rattle.numbers.specs.Zeros.{length_zeros}
use Rattle.model.specs.Road.{zeros, most_long, total_of}
use Rattle.model.specs.Move.{present_of, exits_of}
use Rattle.model.specs.Running.{EndAnswer}
use Rattle.model.specs.Longest.{queues_of}
use Rattle.model.specs.Many.{entry_size, answer_entry}

-- a list stored number by number over another of the same length
fill_whole : (l start : List ℕ) (m : ℕ) → length l ≡ m → length start ≡ m → fill_of (at l) m start ≡ l
fill_whole l start m h k =
    ext_get_or 0 (fill_of (at l) m start) l (length_fill (at l) m start ∙ k ∙ sym h)
    (λ i j. fill_at (at l) m start i (omega (arith, length_fill (at l) m start)) (omega arith))

-- an answer's entry with the queues of the first i ramps and 0 for the others
abbrev first_ramps : EndAnswer → ℕ → ℕ → List ℕ → ℕ → List ℕ
first_ramps e gate waiting ramps i = answer_entry e (queues_of gate waiting (fill_of (at ramps) i zeros))

-- the numbers before those of the ramps, as the code stores them
pub entry_start_lem : (e : EndAnswer) (gate waiting : ℕ) {number total exits present : ℕ} → number ≡ e.number → total ≡ min (total_of e.state) most_long
    → exits ≡ exits_of e.road e.state → present ≡ present_of e.road e.state
    → number ∷ e.step ∷ e.place ∷ e.state.gate_time ∷ e.state.road_time ∷ e.state.ramp_time
    ∷ total ∷ exits ∷ present ∷ gate ∷ waiting ∷ zeros
    ≡ answer_entry e (queues_of gate waiting zeros)
unfolding answer_entry
entry_start_lem e gate waiting n t x p = rw (n, t, x, p) refl

-- the loop over the ramps: an entry without their queues has become one with those of the first i
pub record RampsPut (ramps start r : List ℕ) (i : ℕ) : Type 0 where
  pub within : i ≤ 64
  pub entry : (e : EndAnswer) (gate waiting : ℕ) → start ≡ answer_entry e (queues_of gate waiting zeros) → r ≡ first_ramps e gate waiting ramps i

pub ramps_none : {ramps start : List ℕ} → RampsPut ramps start start 0
unfolding fill_of
ramps_none = record { within = omega arith; entry = λ e gate waiting h. h }

-- number 11 + i of an entry is the queue of the ramp at i
set_ramp : (e : EndAnswer) (gate waiting : ℕ) (l : List ℕ) (i x : ℕ)
    → set (answer_entry e (queues_of gate waiting l)) (11 + i) x ≡ answer_entry e (queues_of gate waiting (set l i x))
unfolding answer_entry
set_ramp e gate waiting l i x =
    let n : 11 + i ≡ suc (suc (suc (suc (suc (suc (suc (suc (suc (suc (suc i)))))))))) = omega arith in
    rw n refl

module _ {ramps start r : List ℕ} {i : ℕ} (h : RampsPut ramps start r i) where
  pub ramps_more : i < 64 → {x : ℕ} → x ≡ at ramps i → RampsPut ramps start (set r (11 + i) x) (i + 1)
  ramps_more l {x} ex = record {
    within = omega arith;
    entry = λ e gate waiting s.
        ap (λ (y : List ℕ). set y (11 + i) x) (h.entry e gate waiting s)
        ∙ set_ramp e gate waiting (fill_of (at ramps) i zeros) i x
        ∙ ap (λ (y : ℕ). answer_entry e (queues_of gate waiting (set (fill_of (at ramps) i zeros) i y))) ex
        ∙ ap (λ (y : List ℕ). answer_entry e (queues_of gate waiting y)) (sym (fill_more (at ramps) i zeros));
  }

  pub ramps_end : 64 ≤ i → length ramps ≡ 64 → (e : EndAnswer) (gate waiting : ℕ) → start ≡ answer_entry e (queues_of gate waiting zeros)
      → r ≡ answer_entry e (queues_of gate waiting ramps)
  ramps_end l m e gate waiting s =
      let k : i ≡ 64 = omega (arith, h.within) in
      h.entry e gate waiting s
      ∙ ap (first_ramps e gate waiting ramps) k
      ∙ ap (λ (y : List ℕ). answer_entry e (queues_of gate waiting y)) (fill_whole ramps zeros 64 m length_zeros)

-- the loop over an entry's numbers: the first k are in its part of the answers
pub record EntryPut (entry start part : List ℕ) (k : ℕ) : Type 0 where
  pub within : k ≤ length start
  pub numbers : part ≡ fill_of (at entry) k start

module _ {entry start : List ℕ} where
  pub put_none : EntryPut entry start start 0
  unfolding fill_of
  put_none = record { within = omega arith; numbers = refl }

  module _ {part : List ℕ} {k : ℕ} (h : EntryPut entry start part k) where
    pub put_length : length part ≡ length start
    put_length = ap length h.numbers ∙ length_fill (at entry) k start

    pub put_more : k < length start → {x : ℕ} → x ≡ at entry k → EntryPut entry start (set part k x) (k + 1)
    put_more l e = record { within = omega arith; numbers = cc (fill_more (at entry) k start, e, h.numbers) }

    pub put_end : length start ≡ entry_size → length entry ≡ entry_size → length start ≤ k → part ≡ entry
    put_end m n l =
        let e : k ≡ entry_size = omega (arith, h.within) in
        h.numbers ∙ ap (λ (j : ℕ). fill_of (at entry) j start) e ∙ fill_whole entry start entry_size n m
