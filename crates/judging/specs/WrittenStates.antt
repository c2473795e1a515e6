-- The invariant of the loop over the steps about the lent lists, and the answers of history. Assumes nothing.
use Rattle.std.specs.Prelude.{List, ◌++◌, ℕ, suc, ◌+◌, ◌-◌, ◌*◌, ◌≤◌, ◌<◌, ◌≡◌, refl, Bool, true, false, cond, length, take, drop}
use Rattle.std.proofs.Common.{append_assoc, sym, ap, ◌∙◌, add-one, arith, drop-drop}
use Rattle.model.specs.Schedules.{Study, places, table_size, scheduled_at}
use Rattle.model.specs.Judging.{judge_fault, judge_end}
use Rattle.model.specs.Running.{first_step, EndAnswer, end_with}
use Rattle.model.specs.Judging.{held_table, queue_table, places_of, held_row, queue_row}
use Rattle.numbers.specs.FirstLaws.{faultless_stop, faultless_end}
use Rattle.numbers.specs.RowsLaws.{length_list}
use Rattle.model.specs.Numbers.{placed, front_of}
use Rattle.numbers.specs.PlacedText.{placed_there, length_placed}
use Rattle.numbers.specs.TablesLaws.{row_ends, front_more, front_none}
use Rattle.model.specs.Refusals.{FaultAnswer}
use Rattle.model.specs.declared.Road.{Road}
use Rattle.model.specs.declared.State.{State}
use Rattle.theory.specs.StepLaws.{number_of_lem}
use Rattle.theory.specs.Readable.{Readable}
use Rattle.judging.specs.JudgedStep.{JudgeStepGives}
use Rattle.judging.specs.JudgingLoop.{ObeyedSteps, JudgeTurn, obeyed_none, obeyed_end, obeyed_more, fault_is, ends_fault}

-- the steps before a schedule's first fault, and the lists after them
abbrev pub passed_steps : Study → List ℕ → ℕ
passed_steps a zs = first_step (judge_fault a zs) a.steps

abbrev pub held_end : Study → List ℕ → List ℕ → List ℕ
held_end a zs list = held_table a zs list (passed_steps a zs)

abbrev pub queue_end : Study → List ℕ → List ℕ → List ℕ
queue_end a zs list = queue_table a zs list (passed_steps a zs)

-- what judging step by step requires: a record that reads, a schedule of the right length and, if states are written, lists that are long enough
pub record Judgeable (bytes : List ℕ) (a : Study) (zs : List ℕ) (writes : Bool) (held queue : List ℕ) : Type 0 where
  pub readable : Readable bytes a
  pub right : length zs ≡ table_size a
  pub long : writes ≡ true → (table_size a ≤ length held) × (table_size a ≤ length queue)

-- row k of a table is within every bound of the table
pub row_ends_by : (a : Study) (k most : ℕ) → table_size a ≤ most → k < a.steps → k * places a + places a ≤ most
row_ends_by a k most m l = omega (arith, row_ends k a.steps (places a) l)

-- a lent list with k rows of w numbers in front, if states are written; its length is unchanged
pub record WrittenRows (writes : Bool) (rows : ℕ → List ℕ) (w : ℕ) (list₀ list : List ℕ) (k : ℕ) : Type 0 where
  pub rows_there : writes ≡ true → list ≡ front_of rows w list₀ k
  pub same : length list ≡ length list₀

pub written_none : {writes : Bool} (rows : ℕ → List ℕ) (w : ℕ) (list : List ℕ) → WrittenRows writes rows w list list 0
written_none rows w list = record { rows_there = λ e. sym (front_none rows w list); same = refl }

length_cond : (b : Bool) (x y : List ℕ) → length x ≡ length y → length (cond b x y) ≡ length y
length_cond true x y e = e
length_cond false x y e = refl

module _ {writes : Bool} (rows : ℕ → List ℕ) (w : ℕ) (wide : (k : ℕ) → length (rows k) ≡ w) {list₀ list : List ℕ} {k : ℕ} where
  -- one more row
  pub written_more : WrittenRows writes rows w list₀ list k → (writes ≡ true → k * w + w ≤ length list₀) → {next row : List ℕ} → row ≡ rows k
      → next ≡ cond writes (placed list (k * w) row) list → WrittenRows writes rows w list₀ next (k + 1)
  written_more h fits {next} {row} er e = record {
    rows_there = λ on.
        let size : length row ≡ w = ap length er ∙ wide k in
        let left : k * w + w - k * w ≡ w = omega arith in
        e
        ∙ ap (λ (b : Bool). cond b (placed list (k * w) row) list) on
        ∙ placed_there list (k * w) row (omega (arith, size, h.same, fits on))
        ∙ append_assoc (take (k * w) list) row (drop (k * w + length row) list)
        ∙ ap (λ (x : List ℕ). take (k * w) list ++ (row ++ x))
        (ap (λ (j : ℕ). drop (k * w + j) list) size ∙ sym (drop-drop w (k * w) list) ∙ ap (λ (j : ℕ). drop j (drop (k * w) list)) (sym left))
        ∙ front_more rows w wide list₀ k list row (k * w) (h.rows_there on) er refl;
    same = ap length e ∙ length_cond writes (placed list (k * w) row) list (length_placed list (k * w) row) ∙ h.same;
  }

-- each row has a number for each place
held_wide : (a : Study) (zs : List ℕ) (k : ℕ) → length (held_row a zs k) ≡ places a
held_wide a zs k = length_list _ (places a)

queue_wide : (a : Study) (zs : List ℕ) (k : ℕ) → length (queue_row a zs k) ≡ places a
queue_wide a zs k = length_list _ (places a)

-- a schedule judged up to step k, with its states in the lists if they are written
pub record JudgedSoFar (a : Study) (zs : List ℕ) (writes : Bool) (held₀ queue₀ held queue : List ℕ) (u : State) (k : ℕ) : Type 0 where
  pub obeyed : ObeyedSteps a zs u k
  pub helds : WrittenRows writes (held_row a zs) (places a) held₀ held k
  pub queues : WrittenRows writes (queue_row a zs) (places a) queue₀ queue k

-- the answer of judging and the lists at its end
abbrev pub Ends : Study → List ℕ → Bool → List ℕ → List ℕ → EndAnswer → List ℕ → List ℕ → Type 0
Ends a zs writes held₀ queue₀ e held queue =
    (e ≡ judge_end a zs) × ((writes ≡ true → held ≡ held_end a zs held₀) × (writes ≡ true → queue ≡ queue_end a zs queue₀))

module _ {a : Study} {zs : List ℕ} {writes : Bool} {held₀ queue₀ : List ℕ} where
  pub judged_none : JudgedSoFar a zs writes held₀ queue₀ held₀ queue₀ a.start 0
  judged_none = record {
    obeyed = obeyed_none;
    helds = written_none (held_row a zs) (places a) held₀;
    queues = written_none (queue_row a zs) (places a) queue₀;
  }

  module _ {held queue : List ℕ} {u : State} {k : ℕ} (h : JudgedSoFar a zs writes held₀ queue₀ held queue u k) where
    ends : {e : EndAnswer} → e ≡ judge_end a zs → k ≡ passed_steps a zs → Ends a zs writes held₀ queue₀ e held queue
    ends g s = (
      g,
      (λ on. h.helds.rows_there on ∙ ap (held_table a zs held₀) s, λ on. h.queues.rows_there on ∙ ap (queue_table a zs queue₀) s),
    )

    -- all steps are made
    pub judged_end : {e : EndAnswer} → a.steps ≤ k → e ≡ end_with 0 0 0 a.road u → Ends a zs writes held₀ queue₀ e held queue
    judged_end l g = ends (obeyed_end h.obeyed l g) (faultless_end h.obeyed.faultless l)

    module _ {q : Road} {row y : List ℕ} (t : JudgeTurn a zs u k q row y) {f : FaultAnswer} {v : State} (j : JudgeStepGives q u row y f v) where
      -- a fault leaves the rows before it
      pub judged_fault : {e : EndAnswer} → (f.number ≡ 0 → ⊥) → e ≡ end_with f.number k f.place a.road v
          → Ends a zs writes held₀ queue₀ e held queue
      judged_fault n g = ends (ends_fault t j n g) (faultless_stop t.obeyed.faultless t.left (number_of_lem (fault_is t j)) n)

      -- without a fault the state after the step is written too
      pub judged_more : f.number ≡ 0 → (writes ≡ true → (table_size a ≤ length held₀) × (table_size a ≤ length queue₀)) → {held₁ queue₁ : List ℕ}
          → held₁ ≡ cond writes (placed held (k * places a) (places_of v.gate_queue v.held a.road.n)) held
          → queue₁ ≡ cond writes (placed queue (k * places a) (places_of 0 v.queue a.road.n)) queue
          → JudgedSoFar a zs writes held₀ queue₀ held₁ queue₁ v (k + 1)
      judged_more z long eh eq =
          let p = obeyed_more t j z in
          let s : v ≡ scheduled_at a zs (suc k) = p.state ∙ ap (scheduled_at a zs) (add-one k) in
          record {
            obeyed = p;
            helds =
                written_more (held_row a zs) (places a) (held_wide a zs) h.helds (λ on. row_ends_by a k (length held₀) (long on).0 t.left)
                (ap (λ (x : State). places_of x.gate_queue x.held a.road.n) s) eh;
            queues =
                written_more (queue_row a zs) (places a) (queue_wide a zs) h.queues (λ on. row_ends_by a k (length queue₀) (long on).1 t.left)
                (ap (λ (x : State). places_of 0 x.queue a.road.n) s) eq;
          }
