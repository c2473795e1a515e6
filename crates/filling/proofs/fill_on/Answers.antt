-- `filling::fill_on`: each return follows from the tests before it. Assumes nothing.
use Rattle.std.proofs.Common.{◌≡◌, ◌∙◌, Bool, ◌&&◌, List, ℕ, ◌+◌, ◌≤◌, leb, length, refl, sym, ap, arith, rules}
use Rattle.model.specs.Numbers.{at, unless, all_of}
use Rattle.model.specs.declared.Law.{Law}
use Rattle.model.specs.declared.Progress.{Progress}
use Rattle.model.specs.Limits.{state_ok}
use Rattle.numbers.specs.Tests.{and_true}
use Rattle.model.specs.Road.{most_cells, most_steps}
use Rattle.model.specs.declared.Longest.{Longest}
use Rattle.model.specs.declared.Ended.{Ended}
use Rattle.model.specs.Reading.{ReadAnswer, study_by}
use Rattle.reading.specs.Within.{read_within_lem}
use Rattle.model.specs.Running.{EndAnswer, end_answer}
use Rattle.model.specs.Longest.{longest_queues}
use Rattle.model.specs.Filling.{meter_state}
use Rattle.model.specs.GoingOn.{progressed}
use Rattle.limits.specs.LimitsLaws.{state_facts}
use Rattle.theory.specs.StartingState.{readable_from}
use Rattle.filling.specs.FillReading.{FillReading}
use Rattle.filling.specs.Long.{Long, ProgressOk, progress_fillable}
use Rattle.filling.specs.LastStep.{last_ready, last_known}
use Rattle.filling.specs.PromiseOn.{nothing, on_refused, on_start, starts_found, on_short, on_all}
use Rattle.filling.proofs.fill_on.Goals as goal

-- the progress's arrays have an entry for each cell
sized : {n : ℕ} {p : Progress} → n ≤ most_cells → length p.state.held ≡ most_cells → length p.state.queue ≡ most_cells
    → length p.state.cumulative ≡ most_cells → length p.releases ≡ most_cells → length p.entries ≡ most_cells → Long n p
sized h held queue sent releases entries =
    record { held = omega arith; queue = omega arith; cumulative = omega arith; releases = omega arith; entries = omega arith }

-- neither 7 nor 8 applies, so the record may be filled from the progress
progress_ok : (laws : List Law) {bytes lanes : List ℕ} (from : Progress) (list : List ℕ) {x : ReadAnswer} {t u : Bool} {g : ℕ}
    → FillReading laws bytes lanes x → x.number ≡ 0 → t ≡ state_ok x.road from.state
    → u ≡ all_of (λ i. leb (at from.entries i) (at from.state.held i)) x.road.n
    → g ≡ unless (t && u) 7 (unless (leb (from.state.done + x.steps) most_steps) 8 0) → g ≡ 0
    → (x.road.n ≤ most_cells → Long x.road.n from)
    → ProgressOk bytes (study_by bytes lanes x.road from.state x.steps) (progressed from)
progress_ok laws {bytes} {lanes} from list h well et eu eg z long-by =
    let k = h.passed well in
    let long = long-by k.held.ok.road.cells in
    let found = starts_found laws bytes lanes (progressed from) list h well et eu eg z in
    record {
      readable = readable_from from.state k.held (record { held = long.held; queue = long.queue; cumulative = long.cumulative }) found.0;
      some = (read_within_lem bytes _ k.same well).some_steps;
      entered = found.1;
      releases = long.releases;
      entries = long.entries;
    }

-- after a refusal the progress is all zero
pub returns-then-number-ne0 : goal.returns-then-number-ne0
returns-then-number-ne0 c =
    let a = c.args in
    let u = c.unbegun.ensures in
    let p = on_refused a.laws a.bytes.now a.table.now (progressed a.from) a.out.now c.fill_reading-a.ensures
    (λ z. c.if-number-ne0.true (c.number.ensures ∙ z)) (ap end_answer u.0) u.1.0
    (nothing (ap (λ (e : Ended). e.state) u.0) u.1.1.0 u.1.1.1) in
    record { answer = p.0; bytes = p.1.0; list = p.1.1.0; longest = p.1.1.1.0; progress = p.1.1.1.1 }

pub start_refusal-begins-requires : goal.start_refusal-begins-requires
start_refusal-begins-requires c =
    let held = (c.fill_reading-a.ensures.passed (sym c.number.ensures ∙ c.if-number-ne0.false)).held in
    (λ y. (state_facts _ _ (sym c.state_within.ensures ∙ (and_true _ _ y).0)).done, omega (arith, held.ok.steps))

pub returns-then-number-ne0-2 : goal.returns-then-number-ne0-2
returns-then-number-ne0-2 c =
    let a = c.args in
    let u = c.unbegun-then-number-ne0-2.ensures in
    let p = on_start a.laws a.bytes.now a.table.now (progressed a.from) a.out.now c.fill_reading-a.ensures
    (sym c.number.ensures ∙ c.if-number-ne0.false) c.state_within.ensures c.entries_within.ensures c.start_refusal-begins.ensures
    (λ z. c.if-number-ne0-2.true (c.number-2.ensures ∙ z)) (ap end_answer u.0) u.1.0
    (nothing (ap (λ (e : Ended). e.state) u.0) u.1.1.0 u.1.1.1) in
    record { answer = p.0; bytes = p.1.0; list = p.1.1.0; longest = p.1.1.1.0; progress = p.1.1.1.1 }

pub returns-then-out-steps : goal.returns-then-out-steps
returns-then-out-steps c =
    let a = c.args in
    let u = c.unbegun-then-out-steps.ensures in
    let p = on_short a.laws a.bytes.now a.table.now (progressed a.from) a.out.now c.fill_reading-a.ensures
    (sym c.number.ensures ∙ c.if-number-ne0.false) c.state_within.ensures c.entries_within.ensures c.start_refusal-begins.ensures
    (sym c.number-2.ensures ∙ c.if-number-ne0-2.false) (omega arith)
    (ap end_answer u.0) u.1.0 (nothing (ap (λ (e : Ended). e.state) u.0) u.1.1.0 u.1.1.1) in
    record { answer = p.0; bytes = p.1.0; list = p.1.1.0; longest = p.1.1.1.0; progress = p.1.1.1.1 }

pub fill_rows-longest-requires : goal.fill_rows-longest-requires
fill_rows-longest-requires c =
    let a = c.args in
    let k = progress_ok a.laws a.from a.out.now c.fill_reading-a.ensures (sym c.number.ensures ∙ c.if-number-ne0.false)
    c.state_within.ensures c.entries_within.ensures c.start_refusal-begins.ensures (sym c.number-2.ensures ∙ c.if-number-ne0-2.false)
    (λ n. sized n (search rules) (search rules) (search rules) (search rules) (search rules)) in
    progress_fillable k (λ k. refl) (omega arith)

pub with_last-requires : goal.with_last-requires
with_last-requires c =
    let a = c.args in
    let made = c.fill_rows-longest.ensures in
    let k = progress_ok a.laws a.from a.out.now c.fill_reading-a.ensures (sym c.number.ensures ∙ c.if-number-ne0.false)
    c.state_within.ensures c.entries_within.ensures c.start_refusal-begins.ensures (sym c.number-2.ensures ∙ c.if-number-ne0-2.false)
    (λ n. sized n (search rules) (search rules) (search rules) (search rules) (search rules)) in
    last_ready a.laws (progressed a.from) (progress_fillable k (λ k. refl) (omega arith)) refl k.some made.releases made.list
    (ap (λ (e : EndAnswer). e.state) made.answer)

pub returns : goal.returns
returns c =
    let a = c.args in
    let w = c.with_last.ensures in
    let made = c.fill_rows-longest.ensures in
    let well = sym c.number.ensures ∙ c.if-number-ne0.false in
    let begins = sym c.number-2.ensures ∙ c.if-number-ne0-2.false in
    let k = progress_ok a.laws a.from a.out.now c.fill_reading-a.ensures well c.state_within.ensures c.entries_within.ensures
    c.start_refusal-begins.ensures begins
    (λ n. sized n (search rules) (search rules) (search rules) (search rules) (search rules)) in
    let state = ap (λ (e : EndAnswer). e.state) made.answer in
    let last = last_known a.laws (progressed a.from) (progress_fillable k (λ k. refl) (omega arith)) refl k.some made.releases made.list state
    w.1.0 w.1.1 in
    let p = on_all a.laws a.bytes.now a.table.now (progressed a.from) a.out.now c.fill_reading-a.ensures well
    c.state_within.ensures c.entries_within.ensures c.start_refusal-begins.ensures begins (search rules)
    (ap (λ (x : Longest). end_answer x.ended) w.0 ∙ made.answer) made.releases made.list (ap longest_queues w.0 ∙ made.longest refl)
    (ap (λ (x : Longest). meter_state x.ended.state c.with_last.result.releases c.with_last.result.entries) w.0 ∙ last) in
    record { answer = p.0; bytes = p.1.0; list = p.1.1.0; longest = p.1.1.1.0; progress = p.1.1.1.1 }
