-- Laws of the table that running writes: the laws of rows in front of a list, for the engine's rows. Assumes nothing.
use Rattle.std.specs.Prelude.{◌≡◌, List, ◌++◌, ℕ, suc, ◌+◌, ◌-◌, ◌*◌, ◌≤◌, ◌<◌, length, take, drop}
use Rattle.std.proofs.Common.{ap, ◌∙◌, mul-le-mul_right, arith}
use Rattle.model.specs.Numbers.{front_of}
use Rattle.numbers.specs.Concat.{length_concat}
use Rattle.numbers.specs.TablesLaws.{concat_row, length_front, front_row, front_past, front_rows, front_more, front_none, front_same}
use Rattle.model.specs.Schedules.{Study, road_at, places, table_size, engine_after, outflows_at, proposed_at}
use Rattle.theory.specs.RulesLaws.{length_outflows}
use Rattle.theory.specs.RunsLaws.{StudyOk, SharedSteps}
use Rattle.theory.proofs.RunsLaws.{shared_less, outflows_shared}
use Rattle.model.specs.Running.{table_of}
use Rattle.theory.specs.TableLaws.{flows_of}

module _ (a : Study) (ok : StudyOk a) where
  length_row : (k : ℕ) → length (outflows_at a k) ≡ places a
  length_row k = length_outflows (road_at a k) (engine_after a k) (a.rows k) ∙ ap (λ (n : ℕ). n + 1) (ok.roads k).n

  pub length_flows : (k : ℕ) → length (flows_of a k) ≡ k * places a
  length_flows k = length_concat (outflows_at a) (places a) length_row k

  -- row j of these rows
  pub flows_row : (k j : ℕ) → j < k → proposed_at a (flows_of a k) j ≡ outflows_at a j
  flows_row k j l = concat_row (outflows_at a) (places a) length_row k j l

  -- the list keeps its length
  pub length_table : (list : List ℕ) (k : ℕ) → k ≤ a.steps → table_size a ≤ length list → length (table_of a list k) ≡ length list
  length_table list k h l =
      length_front (outflows_at a) (places a) length_row list k (omega (arith, mul-le-mul_right {m = k} {n = a.steps} (places a) h))

  -- row j of those written is the engine's
  pub table_row : (list : List ℕ) (k j : ℕ) → j < k → proposed_at a (table_of a list k) j ≡ outflows_at a j
  table_row list k j l = front_row (outflows_at a) (places a) length_row list k j l

  -- numbers beyond the written rows are unchanged
  pub table_past : (list : List ℕ) (k : ℕ) → drop (k * places a) (table_of a list k) ≡ drop (k * places a) list
  table_past list k = front_past (outflows_at a) (places a) length_row list k

  pub table_front : (list : List ℕ) (k : ℕ) → take (k * places a) (table_of a list k) ≡ flows_of a k
  table_front list k = front_rows (outflows_at a) (places a) length_row list k

  -- one more row, as the code's write to a part of the list leaves it
  pub table_more : (list : List ℕ) (k : ℕ) (out part : List ℕ) (to : ℕ) → out ≡ table_of a list k → part ≡ outflows_at a k → to ≡ k * places a
      → take to out ++ (part ++ drop (to + places a - to) (drop to out)) ≡ table_of a list (k + 1)
  table_more list k = front_more (outflows_at a) (places a) length_row list k

-- without a written row the list is unchanged
pub table_none : (a : Study) (list : List ℕ) → table_of a list 0 ≡ list
table_none a list = front_none (outflows_at a) (places a) list

-- the rows written depend only on the steps written
module _ {a b : Study} (cells : a.road.n ≡ b.road.n) where
  pub table_shared : (list : List ℕ) (k : ℕ) → SharedSteps a b k → table_of a list k ≡ table_of b list k
  table_shared list k h =
      front_same (outflows_at a) (outflows_at b) (places a) list k (λ i l. outflows_shared i (shared_less h (suc i) l))
      ∙ ap (λ (n : ℕ). front_of (outflows_at b) (n + 1) list k) cells
