-- What the last step of filling leaves for a further record: its releases, which are in the record, and what entered each cell. Assumes nothing.
use Rattle.std.specs.Prelude.{◌≡◌, length, drop}
use Rattle.std.proofs.Math.Path.{refl, sym, ap, subst⁻¹}
use Rattle.std.proofs.Common.{◌∙◌, add-one, le_refl, arith, drop_at}
use mathlib.Core.List.{List, ◌++◌}
use Prim.Native.Nat.{ℕ, zero, suc, ◌+◌, ◌-◌, ◌*◌, ◌≤◌, ◌<◌}
use Rattle.model.specs.Numbers.{at, fill_of, list_of, row_at}
use Rattle.numbers.specs.TablesLaws.{mul_more}
use Rattle.numbers.specs.RowsLaws.{fill_list, fill_same, length_fill, length_list}
use Rattle.model.specs.Flow.{whole, entering_of}
use Rattle.flow.specs.FlowLaws.{entering_whole}
use Rattle.model.specs.Road.{most_cells}
use Rattle.model.specs.Listing.{most_outflows}
use Rattle.model.specs.declared.Road.{Road}
use Rattle.model.specs.declared.State.{State}
use Rattle.model.specs.declared.Law.{Law}
use Rattle.model.specs.Flow.{release_at, share_at, cumulative_at, entering_at}
use Rattle.model.specs.Move.{next_of}
use Rattle.model.specs.Schedules.{Study, road_at, outflows_of, outflows_at}
use Rattle.model.specs.Record.{record_row}
use Rattle.fields.specs.FieldsLaws.{HoldsRow}
use Rattle.theory.specs.RulesLaws.{Sized, length_outflows}
use Rattle.theory.specs.MoveLaws.{next_cumulative}
use Rattle.theory.specs.Roads.{step_alike, step_row, sized_alike}
use Rattle.theory.specs.RunsLaws.{StudyOk}
use Rattle.model.specs.Filling.{MeterState, meter_state, granted_at, filled_row, metered_of}
use Rattle.model.specs.Put.{put_table, released_row}
use Rattle.ramps.specs.RampsLaws.{filled_release}
use Rattle.model.specs.Filling.{metered_from, granted_from, rows_from, filled_from}
use Rattle.model.specs.Running.{table_of}
use Rattle.theory.proofs.TableLaws.{table_row, length_table}
use Rattle.put.specs.ReleasesLaws.{PutTable, put_table_lem}
use Rattle.filling.specs.FillingLoop.{FillableFrom}
use Rattle.filling.specs.FillingFrom.{filled_road, filled_run, releases_small, filled_ok, filled_reached}

-- what entered the cell at i in a step with outflows y, from the share and from F after the step of the place before it
unfoldable pub entered_in : List ℕ → List ℕ → List ℕ → ℕ → ℕ
entered_in share cumulative y zero = at y 0
entered_in share cumulative y (suc i) = entering_of (at share i) (at cumulative i - at y (suc i)) (at y (suc i))

-- one more cell, as the code computes it
pub entered_more : (share cumulative y : List ℕ) (i : ℕ) {x : ℕ} → x ≡ entering_of (at share i) (at cumulative i - at y (i + 1)) (at y (i + 1))
    → x ≡ entered_in share cumulative y (i + 1)
unfolding entered_in
entered_more share cumulative y i e = rw (add-one i) (rw (add-one i) at e)

-- the growth of the onward total, in the state before the step
entered_is : (r : Road) (s : State) (row y : List ℕ) → Sized r s → (i : ℕ) → i < r.n
    → entered_in r.share (next_of r s row y).cumulative y i ≡ entering_at r s y i
unfolding entered_in share_at cumulative_at
entered_is r s row y z zero l = sym (entering_whole s.gate_cumulative (at y 0))
entered_is r s row y z (suc i) l =
    let e = next_cumulative r s row y z (suc i) (omega arith) in
    ap (λ (F : ℕ). entering_of (at r.share i) F (at y (suc i)))
    (let g : at (next_of r s row y).cumulative i - at y (suc i) ≡ at s.cumulative i = omega (arith, e) in g)

-- what the code requires: shares, outflows that are at most F, and a row of outflows
pub record EntriesRequire (n : ℕ) (share cumulative y : List ℕ) : Type 0 where
  pub cells : n ≤ most_cells
  pub shares : (i : ℕ) → i < n → at share i ≤ whole
  pub sent : (i : ℕ) → i < n → at y (i + 1) ≤ at cumulative i
  pub places : length y ≡ n + 1

-- the same for a filled record and its list of outflows: the row of the last step is in both
pub record LastStepRequires (bytes : List ℕ) (r : Road) (steps : ℕ) (cumulative out : List ℕ) : Type 0 where
  pub some : 1 ≤ steps
  pub holds : HoldsRow bytes r.n (steps - 1)
  pub small : steps * (r.n + 1) ≤ most_outflows
  pub long : steps * (r.n + 1) ≤ length out
  pub ready : EntriesRequire r.n r.share cumulative (row_at out (r.n + 1) (steps - 1))

-- where it is in the list
pub last_row : {bytes : List ℕ} {r : Road} {steps : ℕ} {cumulative out : List ℕ} → LastStepRequires bytes r steps cumulative out
    → (steps - 1) * (r.n + 1) + (r.n + 1) ≡ steps * (r.n + 1)
last_row {r = r} {steps} h =
    let e : steps ≡ steps - 1 + 1 = omega (arith, h.some) in
    sym (ap (λ (k : ℕ). k * (r.n + 1)) e ∙ mul_more (steps - 1) (r.n + 1))

-- a row that is filled again: only the entries past the cells matter
fill_over : (f : ℕ → ℕ) (n : ℕ) (x l : List ℕ) → n ≤ length x → n ≤ length l → drop n x ≡ drop n l → fill_of f n x ≡ fill_of f n l
fill_over f n x l hx hl e = fill_list f n x hx ∙ ap (λ (d : List ℕ). list_of f n ++ d) e ∙ sym (fill_list f n l hl)

fill_drop : (f : ℕ → ℕ) (n : ℕ) (l : List ℕ) → n ≤ length l → drop n (fill_of f n l) ≡ drop n l
fill_drop f n l h = ap (drop n) (fill_list f n l h) ∙ drop_at (list_of f n) (drop n l) n (length_list f n)

-- the last releases and entries past the cells are unchanged
record Past (n : ℕ) (x l : List ℕ) : Type 0 where
  long : n ≤ length x
  same : drop n x ≡ drop n l

past_fill : (f : ℕ → ℕ) (n m : ℕ) (x l : List ℕ) → m ≡ n → Past n x l → Past n (fill_of f m x) l
past_fill f n m x l e h = record {
  long = omega (arith, length_fill f m x, h.long);
  same = ap (λ (k : ℕ). drop n (fill_of f k x)) e ∙ fill_drop f n x h.long ∙ h.same;
}

module _ (laws : List Law) (a : Study) (m : MeterState) (starts : a.start ≡ m.state) (ok : StudyOk a)
    (long_r : a.road.n ≤ length m.releases) (long_e : a.road.n ≤ length m.entries) where
  past : (k : ℕ) → Past a.road.n (metered_from laws a m k).releases m.releases × Past a.road.n (metered_from laws a m k).entries m.entries
  unfolding metered_from metered_of
  past zero = (record { long = long_r; same = refl }, record { long = long_e; same = refl })
  past (suc k) = (past_fill _ _ _ _ _ (ok.roads k).n (past k).0, past_fill _ _ _ _ _ (ok.roads k).n (past k).1)

  module _ (k : ℕ) (left : k < a.steps) where
    abbrev q : Road
    q = road_at a k

    abbrev M : MeterState
    M = metered_from laws a m k

    cells : (road_at a k).n ≡ a.road.n
    cells = (ok.roads k).n

    -- the releases granted are in the filled row
    pub last_releases_lem : fill_of (release_at (rows_from laws a m k)) a.road.n m.releases ≡ (metered_from laws a m (suc k)).releases
    unfolding metered_from metered_of
    last_releases_lem =
        let f = granted_at laws q M (a.rows k) in
        let numbers = (step_row (ok.roads k) (a.rows k) (ok.row k left)).numbers in
        fill_same (release_at (rows_from laws a m k)) f a.road.n m.releases
        (λ i l. filled_release laws q M (a.rows k) numbers i (omega (arith, cells)))
        ∙ sym (fill_over f a.road.n M.releases m.releases (past k).0.long long_r (past k).0.same)
        ∙ ap (λ (n : ℕ). fill_of f n M.releases) (sym cells)

    -- the outflows of the step are those of the filled study
    pub last_outflows : outflows_at (filled_from laws a m) k ≡ outflows_of (road_at a k) (metered_from laws a m k).state (rows_from laws a m k)
    last_outflows = rw (filled_road laws a m starts k, filled_run laws a m starts k)

    sized : Sized (road_at a k) (metered_from laws a m k).state
    sized =
        sized_alike a.road (road_at a k) (step_alike (ok.roads k)) (metered_from laws a m k).state
        (rw (filled_run laws a m starts k) at (filled_reached laws a m starts ok k (omega arith)).sized)

    -- these outflows and F after the step give what entered
    pub last_entries : {y : List ℕ} → y ≡ outflows_at (filled_from laws a m) k
        → fill_of (entered_in a.road.share (metered_from laws a m (suc k)).state.cumulative y) a.road.n m.entries
        ≡ (metered_from laws a m (suc k)).entries
    unfolding metered_from metered_of
    last_entries {y} ey =
        let row = rows_from laws a m k in
        let z = outflows_of q M.state row in
        let f = entering_at q M.state z in
        ap (λ (x : List ℕ). fill_of (entered_in a.road.share (next_of q M.state row z).cumulative x) a.road.n m.entries) (ey ∙ last_outflows)
        ∙ ap (λ (b : List ℕ). fill_of (entered_in b (next_of q M.state row z).cumulative z) a.road.n m.entries) (sym (ok.roads k).share)
        ∙ fill_same (entered_in q.share (next_of q M.state row z).cumulative z) f a.road.n m.entries
        (λ i l. entered_is q M.state row z sized i (omega (arith, cells)))
        ∙ sym (fill_over f a.road.n M.entries m.entries (past k).1.long long_e (past k).1.same)
        ∙ ap (λ (n : ℕ). fill_of f n M.entries) (sym cells)

    -- so the code's precondition holds
    pub entries_ready : {y : List ℕ} → y ≡ outflows_at (filled_from laws a m) k → length y ≡ a.road.n + 1
        → EntriesRequire a.road.n a.road.share (metered_from laws a m (suc k)).state.cumulative y
    unfolding metered_from metered_of cumulative_at
    entries_ready {y} ey p =
        let row = rows_from laws a m k in
        let z = outflows_of q M.state row in
        record {
          cells = ok.road.cells;
          shares = ok.road.share;
          sent = λ i l.
              let e = next_cumulative q M.state row z sized (suc i) (omega (arith, cells)) in
              omega (arith, e, ap (λ (x : List ℕ). at x (i + 1)) (ey ∙ last_outflows), ap (at z) (add-one i));
          places = p;
        }

-- after all steps: the record and the list that filling leaves
module _ {bytes : List ℕ} {a : Study} {list : List ℕ} (laws : List Law) (m : MeterState) (ok : FillableFrom bytes a m list) (starts : a.start ≡ m.state)
    (some : 1 ≤ a.steps) {after out : List ℕ} (ea : after ≡ put_table bytes a.road.n (granted_from laws a m) a.steps)
    (eo : out ≡ table_of (filled_from laws a m) list a.steps) where
  abbrev k : ℕ
  k = a.steps - 1

  okay : StudyOk a
  okay = ok.fillable.readable.ok

  less : a.steps - 1 < a.steps
  less = omega (arith, some)

  whole_run : suc (a.steps - 1) ≡ a.steps
  whole_run = omega (arith, some)

  table : PutTable bytes after a.road.n (granted_from laws a m) a.steps
  table = rw ea (put_table_lem bytes a.road.n (granted_from laws a m) a.steps ok.fillable.readable.row (λ t i l j. releases_small laws a m starts t i))

  -- its last row is the filled one, and its outflows are in the list
  row_known : record_row after a.road.n (a.steps - 1) ≡ rows_from laws a m (a.steps - 1)
  unfolding filled_row
  row_known =
      table.row k less
      ∙ ap (λ (n : ℕ). released_row (granted_from laws a m k) n (record_row bytes a.road.n k)) (sym (okay.roads k).n)
      ∙ ap (released_row (granted_from laws a m k) (road_at a k).n) (sym (ok.fillable.rows k))

  flows_known : row_at out (a.road.n + 1) (a.steps - 1) ≡ outflows_at (filled_from laws a m) (a.steps - 1)
  flows_known =
      ap (λ (x : List ℕ). row_at x (a.road.n + 1) k) eo
      ∙ table_row (filled_from laws a m) (filled_ok laws a m starts okay) list a.steps k less

  size_known : length out ≡ length list
  size_known =
      ap length eo ∙ length_table (filled_from laws a m) (filled_ok laws a m starts okay) list a.steps (le_refl a.steps) ok.fillable.long

  module _ {u : State} (eu : u ≡ (metered_from laws a m a.steps).state) where
    after_last : u ≡ (metered_from laws a m (suc (a.steps - 1))).state
    after_last = eu ∙ ap (λ (j : ℕ). (metered_from laws a m j).state) (sym whole_run)

    pub last_ready : LastStepRequires after a.road a.steps u.cumulative out
    last_ready = record {
      some = some;
      holds = record {
        cells = (ok.fillable.readable.row k less).cells;
        row = rw table.version (omega (arith, (ok.fillable.readable.row k less).row, table.size));
      };
      small = ok.fillable.readable.outflows;
      long = omega (arith, size_known, ok.fillable.long);
      ready =
          subst⁻¹ (λ (s : State). EntriesRequire a.road.n a.road.share s.cumulative (row_at out (a.road.n + 1) (a.steps - 1))) after_last
          (entries_ready laws a m starts okay ok.long_releases ok.long_entries k less flows_known
          (ap length flows_known ∙ ap length (last_outflows laws a m starts okay ok.long_releases ok.long_entries k less)
          ∙ length_outflows (road_at a k) (metered_from laws a m k).state (rows_from laws a m k) ∙ ap (λ (n : ℕ). n + 1) (okay.roads k).n));
    }

    -- so a further record goes on from the state with these releases and entries
    pub last_known : {releases entries : List ℕ}
        → releases ≡ fill_of (release_at (record_row after a.road.n (a.steps - 1))) a.road.n m.releases
        → entries ≡ fill_of (entered_in a.road.share u.cumulative (row_at out (a.road.n + 1) (a.steps - 1))) a.road.n m.entries
        → meter_state u releases entries ≡ metered_from laws a m a.steps
    last_known {releases} {entries} er en =
        let r = er ∙ ap (λ (x : List ℕ). fill_of (release_at x) a.road.n m.releases) row_known
        ∙ last_releases_lem laws a m starts okay ok.long_releases ok.long_entries k less in
        let e = en
        ∙ ap (λ (s : State). fill_of (entered_in a.road.share s.cumulative (row_at out (a.road.n + 1) k)) a.road.n m.entries) after_last
        ∙ last_entries laws a m starts okay ok.long_releases ok.long_entries k less flows_known in
        ap (λ (s : State). meter_state s releases entries) after_last
        ∙ ap (λ (x : List ℕ). meter_state (metered_from laws a m (suc k)).state x entries) r
        ∙ ap (λ (x : List ℕ). meter_state (metered_from laws a m (suc k)).state (metered_from laws a m (suc k)).releases x) e
        ∙ ap (metered_from laws a m) whole_run
