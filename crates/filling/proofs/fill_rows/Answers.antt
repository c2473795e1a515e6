-- `filling::fill_rows`: a turn's road is that of its step, and one more step is filled; at the end all steps are. Assumes nothing.
use Rattle.std.proofs.Common.{◌≡◌, ◌∙◌, List, ℕ, length, set, refl, sym, ap, arith}
use Rattle.std.proofs.Math.Logic.{inl, inr}
use Rattle.std.proofs.lemmas.Bool.{true≢false}
use Rattle.numbers.specs.TablesLaws.{part_length}
use Rattle.model.specs.Road.{zeros}
use Rattle.model.specs.declared.Road.{Road}
use Rattle.model.specs.Schedules.{Study, with_capacity, places}
use Rattle.model.specs.Reading.{study_by}
use Rattle.model.specs.Listing.{most_outflows}
use Rattle.model.specs.Filling.{metered_from}
use Rattle.model.specs.GoingOn.{progressed}
use Rattle.model.specs.Running.{end_with, end_answer}
use Rattle.model.specs.Longest.{queues_of}
use Rattle.theory.specs.OpenRoad.{OnRoad, RoadTurn, step_road, on_road_lem, turn_road, turn_on_road}
use Rattle.outflows.specs.declared.Ledger.{Ledger}
use Rattle.outflows.specs.Columns.{ledger_of}
use Rattle.passes.specs.Tables.{Table, road_in, state_in, cell_col, RoadTables, road_tables, store_capacities}
use Rattle.passes.specs.declared.columns.Size.{Size}
use Rattle.counts.specs.declared.AtGate.{AtGate}
use Rattle.counts.specs.LongestSoFar.{queues_none, queues_more, queues_end}
use Rattle.filling.specs.FillingLoop.{came_ready, kept_start, FilledSteps, filled_none, goes_by}
use Rattle.filling.specs.FillingLoop.{row_ends_by, row_fits, fills, filled_more, filled_bytes_lem, all_filled, filled_list_lem, filled_state}
use Rattle.filling.proofs.fill_rows.Goals as goal
use Rattle.filling.proofs.fill_rows.Goals.{then-table-ne0, else-table-ne0, then-longs, else-longs}

-- the tables of a turn: the road is that of its step, and the list of cells with a ramp is kept
record TurnTables (a : Study) (r : Road) (z : Size) (rates sizes : Table) (k : ℕ) (now : Table) : Type 0 where
  turn : RoadTurn a (road_in r z rates sizes) k (road_in r z rates now)
  columns : length now ≡ 3
  cells : cell_col now ≡ cell_col sizes

module _ {a : Study} {r : Road} {z : Size} {rates sizes : Table} (before : OnRoad a (road_in r z rates sizes)) (columns : length sizes ≡ 3) (k : ℕ) where
  -- with the capacities of its step, or unchanged with an empty table of lanes
  turn-open : {now : List ℕ} → (length a.lanes ≡ 0 → ⊥) → now ≡ (step_road a k).capacity → TurnTables a r z rates sizes k (set sizes 1 now)
  turn-open {now} some e =
      let st = store_capacities r z rates sizes columns now in
      record {
        turn = record { before = before; came = inl (some, st.road ∙ ap (with_capacity (road_in r z rates sizes)) e) };
        columns = st.columns;
        cells = st.cells;
      }

  turn-kept : length a.lanes ≡ 0 → TurnTables a r z rates sizes k sizes
  turn-kept none = record { turn = record { before = before; came = inr (none, refl) }; columns = columns; cells = refl }

-- before the first step the tables hold the road, the state and the last step that were passed
pub loop-k-init : goal.loop-k-init
loop-k-init c =
    let a = c.args in
    let p = c.requires in
    let g = c.no_queue-gate.ensures in
    let at_ramps_lem = c.list_ramps-size.ensures.1 in
    let t : RoadTables a.r c.list_ramps-size.result c.rates-rates.result (set c.sizes-sizes.result 2 c.list_ramps-size.new.cell) c.list_ramps-size.new.cell =
    road_tables a.r c.list_ramps-size.new.cell zeros c.rates-rates.ensures c.sizes-sizes.ensures c.list_ramps-size.ensures.0 in
    let begins : state_in c.of-l.result c.of_state-state.result ≡ a.from.state =
    ap (λ (l : Ledger). state_in l c.of_state-state.result) c.of-l.ensures ∙ ap (state_in (ledger_of a.from.state)) c.of_state-state.ensures in
    record {
      road = rw t.road on_road_lem;
      columns = t.columns;
      filled = filled_none begins
          (kept_start a.r (came_ready p) p.long_releases p.long_entries (rw t.cells (at_ramps_lem.0, at_ramps_lem.1.0)) c.of_state-state.ensures c.begun-work.ensures);
      longest = rw (g.0, g.1) (queues_none _ _ _);
    }

pub overflow_add-end-in-loop-k : goal.overflow_add-end-in-loop-k
overflow_add-end-in-loop-k c =
    let p = c.requires.fillable in
    omega (arith, row_ends_by p refl c.loop-k.invariant.filled most_outflows p.readable.outflows c.loop-k-test.true)

pub offset_bounds-out-to : goal.offset_bounds-out-to
offset_bounds-out-to c =
    let p = c.requires.fillable in
    omega (arith, row_ends_by p refl c.loop-k.invariant.filled most_outflows p.readable.outflows c.loop-k-test.true)

pub slice_bounds-fill_row-end : goal.slice_bounds-fill_row-end
slice_bounds-fill_row-end c = omega (arith, row_fits c.requires.fillable refl c.loop-k.invariant.filled c.loop-k-test.true)

pub fill_row-next-requires : goal.fill_row-next-requires
fill_row-next-requires c =
    let a = c.args in
    let l = c.loop-k in
    let p = c.requires.fillable in
    let h = l.invariant.filled in
    let study = study_by a.bytes.now a.table.now a.r a.from.state a.steps in
    let m = metered_from a.laws study (progressed a.from) l.k in
    let now : TurnTables study a.r c.list_ramps-size.result c.rates-rates.result l.sizes l.k c.if-table-ne0.sizes =
    elim c.if-table-ne0.branch [
      | then-table-ne0 w ↦
          rw w.sizes-is (turn-open l.invariant.road l.invariant.columns l.k w.if-table-ne0.true w.step_capacities-open_now.ensures)
      | else-table-ne0 w ↦ rw w.sizes-is (turn-kept l.invariant.road l.invariant.columns l.k w.if-table-ne0.false)
    ] in
    record {
      laws = a.laws;
      road = a.r;
      releases = m.releases;
      entries = m.entries;
      ready = rw now.cells
          (fills p refl h c.loop-k-test.true (turn_road now.turn) (goes_by p refl h) c.columns-columns.ensures
          (part_length l.out l.to (places study) (row_fits p refl h c.loop-k-test.true)));
    }

pub loop-k-preserved : goal.loop-k-preserved
loop-k-preserved c =
    let a = c.args in
    let l = c.loop-k in
    let p = c.requires.fillable in
    let study = study_by a.bytes.now a.table.now a.r a.from.state a.steps in
    let m = metered_from a.laws study (progressed a.from) l.k in
    let now : TurnTables study a.r c.list_ramps-size.result c.rates-rates.result l.sizes l.k c.if-table-ne0.sizes =
    elim c.if-table-ne0.branch [
      | then-table-ne0 w ↦
          rw w.sizes-is (turn-open l.invariant.road l.invariant.columns l.k w.if-table-ne0.true w.step_capacities-open_now.ensures)
      | else-table-ne0 w ↦ rw w.sizes-is (turn-kept l.invariant.road l.invariant.columns l.k w.if-table-ne0.false)
    ] in
    let road = turn_road now.turn in
    let h : FilledSteps a.laws a.bytes.now study (progressed a.from) a.out.now l.bytes l.out l.l l.state c.list_ramps-size.result.ramps
    (cell_col c.if-table-ne0.sizes) l.work l.k l.to = rw now.cells l.invariant.filled in
    let by = goes_by p refl h in
    let ready = fills p refl h c.loop-k-test.true road by c.columns-columns.ensures
    (part_length l.out l.to (places study) (row_fits p refl h c.loop-k-test.true)) in
    let made = filled_more p refl h c.loop-k-test.true road by (c.fill_row-next.ensures a.laws a.r m.releases m.entries ready) in
    record {
      road = turn_on_road now.turn;
      columns = now.columns;
      filled = made;
      longest = queues_more _ _ _ l.invariant.longest p.readable.ok.road.cells h.state made.state (λ wanted. elim c.if-longs.branch [
        | then-longs w ↦ ap (λ (g : AtGate). queues_of g.gate g.waiting c.if-longs.most) w.gate-is
            ∙ ap (queues_of w.raised-gate.result.gate w.raised-gate.result.waiting) w.most-is
            ∙ w.raised-gate.ensures
        | else-longs w ↦ absurd (true≢false (sym wanted ∙ w.if-longs.false))
      ]);
    }

pub returns : goal.returns
returns c =
    let p = c.requires.fillable in
    let h = c.loop-k.invariant in
    let end = c.loop-k-test.false in
    record {
      releases = filled_bytes_lem p refl h.filled end;
      list = filled_list_lem p refl h.filled end;
      answer = ap end_answer (c.longest.ensures.0 ∙ c.complete.ensures)
          ∙ ap (end_with 0 0 0 c.args.r) (filled_state p refl h.filled end c.to_state.ensures);
      longest = λ wanted. c.longest.ensures.1 ∙ queues_end _ _ _ h.longest (all_filled p refl h.filled end) wanted;
    }
