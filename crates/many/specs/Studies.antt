-- The loops over studies: what they require, and that after k studies the record, the list and the entries are those of the definitions. Assumes nothing.
use Rattle.std.specs.Prelude.{◌≡◌, refl, List, ◌++◌, ℕ, suc, ◌+◌, ◌-◌, ◌*◌, ◌≤◌, ◌<◌, length, take, drop}
use Rattle.std.proofs.Common.{sym, ap, ◌∙◌, mul-le-mul, add-one, arith}
use Rattle.model.specs.Numbers.{row_at, front_of}
use Rattle.numbers.specs.TablesLaws.{row_ends, mul_more, part_row, part_length, length_front, front_more, front_none}
use Rattle.model.specs.Record.{version_of}
use Rattle.fields.specs.FieldsLaws.{HoldsRow}
use Rattle.model.specs.Reading.{reading_of}
use Rattle.reading.specs.Cases.{AcceptedRecord}
use Rattle.reading.specs.Within.{read_within_lem, read_row_lem}
use Rattle.model.specs.Running.{EndAnswer}
use Rattle.model.specs.Longest.{Queues}
use Rattle.model.specs.Many.{arrivals_size, study_count, entry_size, answer_entry}
use Rattle.many.specs.Arrivals.{holds_on}
use Rattle.many.specs.Putting.{TableFits}

-- what the loops require: the record reads, there is a table of arrivals for each study, and the answers have room for the entries
pub record Studies (bytes arrivals : List ℕ) (n T count : ℕ) (answers : List ℕ) : Type 0 where
  pub reads : (reading_of bytes).number ≡ 0
  pub cells : n ≡ (reading_of bytes).road.n
  pub steps : T ≡ (reading_of bytes).steps
  pub whole : length arrivals ≡ count * arrivals_size n T
  pub room : count * entry_size ≤ length answers
  pub counted : count ≡ study_count bytes arrivals

-- the size of a table of arrivals fits a machine number
pub table_small : {bytes arrivals : List ℕ} {n T count : ℕ} {answers : List ℕ} → Studies bytes arrivals n T count answers
    → (n + 1 ≤ 65) × (arrivals_size n T ≤ 93600)
table_small {bytes} {n = n} {T = T} studies =
    let w = read_within_lem bytes (reading_of bytes) refl studies.reads in
    let k : n + 1 ≤ 65 = omega (arith, studies.cells, w.road.cells) in
    let t : T ≤ 1440 = omega (arith, studies.steps, w.steps) in
    (k, omega (arith, mul-le-mul t k))

-- an entry has 75 numbers if there is a queue for each of 64 ramps
pub length_entry : (e : EndAnswer) (q : Queues) → length q.ramps ≡ 64 → length (answer_entry e q) ≡ entry_size
unfolding answer_entry
length_entry e q h = omega (arith, h)

-- the record, the list and the answers after k studies; the arrivals of the next begin at `from`, and its entry at `to`
pub record StudiesSoFar (entries records lists : ℕ → List ℕ) (size count : ℕ) (answers after out left : List ℕ) (from to k : ℕ) : Type 0 where
  pub within : k ≤ count
  pub place : from ≡ k * size
  pub entry : to ≡ k * entry_size
  pub bytes_are : after ≡ records k
  pub list_is : out ≡ lists k
  pub answers_are : left ≡ front_of entries entry_size answers k

module _ (entries records lists : ℕ → List ℕ) {bytes arrivals : List ℕ} {n T count : ℕ} {answers : List ℕ} (studies : Studies bytes arrivals n T count answers)
    (numbers : (k : ℕ) → length (entries k) ≡ entry_size) where
  abbrev After : List ℕ → List ℕ → List ℕ → ℕ → ℕ → ℕ → Type 0
  After after out left from to k = StudiesSoFar entries records lists (arrivals_size n T) count answers after out left from to k

  pub accepted : AcceptedRecord bytes (reading_of bytes).steps (reading_of bytes).road (reading_of bytes).state
  accepted = read_within_lem bytes (reading_of bytes) refl studies.reads

  pub rows_held : (t : ℕ) → t < T → HoldsRow bytes n t
  rows_held t l =
      let h : HoldsRow bytes (reading_of bytes).road.n t = read_row_lem bytes (reading_of bytes) refl studies.reads t (omega (arith, studies.steps)) in
      rw studies.cells h

  pub done_none : {list : List ℕ} → bytes ≡ records 0 → list ≡ lists 0 → After bytes list answers 0 0 0
  done_none eb el = record {
    within = omega arith;
    place = omega arith;
    entry = omega arith;
    bytes_are = eb;
    list_is = el;
    answers_are = sym (front_none entries entry_size answers);
  }

  module _ {after out left : List ℕ} {from to k : ℕ} (h : After after out left from to k) where
    -- the answers keep their length, and the next entry is within them
    pub answers_size : length left ≡ length answers
    answers_size =
        ap length h.answers_are
        ∙ length_front entries entry_size numbers answers k (omega (arith, studies.room, h.within))

    pub entry_fits : k < count → to + entry_size ≤ length left
    entry_fits l = omega (arith, h.entry, studies.room, answers_size)

    -- the next table of arrivals is within the tables, and is that of study k
    pub table_fits : k < count → from + arrivals_size n T ≤ length arrivals
    table_fits l = omega (arith, row_ends k count (arrivals_size n T) l, h.place, studies.whole)

    pub table_is : take (from + arrivals_size n T - from) (drop from arrivals) ≡ row_at arrivals (arrivals_size n T) k
    table_is = part_row arrivals (arrivals_size n T) k from h.place

    -- it can be put into the record
    pub table_into_record : k < count → length after ≡ length bytes → version_of after ≡ version_of bytes
        → TableFits after n T (take (from + arrivals_size n T - from) (drop from arrivals))
    table_into_record l size version =
        let w = accepted in
        record {
          cells = omega (arith, studies.cells, w.road.cells);
          steps = omega (arith, studies.steps, w.steps);
          header = omega (arith, size, w.size);
          holds = λ t m. holds_on size version (rows_held t m);
          size = part_length arrivals from (arrivals_size n T) (table_fits l);
        }

    -- one more study
    pub done_more : k < count → {next written part : List ℕ} → next ≡ records (suc k) → written ≡ lists (suc k) → part ≡ entries k
        → After next written (take to left ++ (part ++ drop (to + entry_size - to) (drop to left))) (from + arrivals_size n T) (to + entry_size) (k + 1)
    done_more l er el ep = record {
      within = omega arith;
      place = omega (arith, h.place, mul_more k (arrivals_size n T));
      entry = omega (arith, h.entry);
      bytes_are = er ∙ ap records (sym (add-one k));
      list_is = el ∙ ap lists (sym (add-one k));
      answers_are = front_more entries entry_size numbers answers k left _ to h.answers_are ep h.entry;
    }

    pub done_end : count ≤ k → (after ≡ records count) × ((out ≡ lists count) × (left ≡ front_of entries entry_size answers count))
    done_end l =
        let e : k ≡ count = omega (arith, h.within) in
        (h.bytes_are ∙ ap records e, (h.list_is ∙ ap lists e, h.answers_are ∙ ap (front_of entries entry_size answers) e))
