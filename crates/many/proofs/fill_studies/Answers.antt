-- `many::fill_studies`: the record filled is what the studies before have left, with the arrivals of the next. Assumes nothing.
use Rattle.std.proofs.Common.{◌≡◌, ◌∙◌, length, refl, arith, rules}
use Rattle.many.specs.Studies.{table_small, done_none, table_is, table_into_record, done_more}
use Rattle.many.specs.FillStudies.{fill_numbers, left_size, left_version, left_arrived, fill_entry_lem, left_more, lists_more, filled_none, lists_none}
use Rattle.many.proofs.fill_studies.Goals as goal

pub overflow_add-size : goal.overflow_add-size
overflow_add-size c = omega (arith, table_small c.requires)

pub overflow_mul-size : goal.overflow_mul-size
overflow_mul-size c = omega (arith, table_small c.requires)

pub loop-k-init : goal.loop-k-init
loop-k-init c =
    let a = c.args in
    let numbers = fill_numbers a.laws a.bytes.now a.table.now a.arrivals.now a.out.now in
    record {
      done = done_none _ _ _ c.requires numbers (filled_none a.laws a.bytes.now a.table.now a.arrivals.now a.out.now)
          (lists_none a.laws a.bytes.now a.table.now a.arrivals.now a.out.now);
      same = refl;
    }

pub put_arrivals-requires : goal.put_arrivals-requires
put_arrivals-requires c =
    let a = c.args in
    let l = c.loop-k in
    let h = l.invariant.done in
    let numbers = fill_numbers a.laws a.bytes.now a.table.now a.arrivals.now a.out.now in
    table_into_record _ _ _ c.requires numbers h c.loop-k-test.true
    (left_size a.laws c.requires a.table.now a.out.now l.k h.bytes_are) (left_version a.laws c.requires a.table.now a.out.now l.k h.bytes_are)

pub loop-k-preserved : goal.loop-k-preserved
loop-k-preserved c =
    let a = c.args in
    let l = c.loop-k in
    let k = l.k in
    let h = l.invariant.done in
    let size = l.invariant.same in
    let numbers = fill_numbers a.laws a.bytes.now a.table.now a.arrivals.now a.out.now in
    let s = left_arrived a.laws c.requires a.table.now a.out.now k h.bytes_are (table_is _ _ _ c.requires numbers h) c.put_arrivals.ensures in
    let e = c.fill_longest-a.ensures in
    let kept : length c.fill_longest-a.new.out ≡ length l.out = search rules in
    record {
      done = done_more _ _ _ c.requires numbers h c.loop-k-test.true
          (left_more a.laws c.requires a.table.now a.out.now k l.out size s e.bytes)
          (lists_more a.laws c.requires a.table.now a.out.now k l.out size s h.list_is e.list)
          (c.put_entry.ensures
          ∙ c.entry-numbers.ensures
          ∙ fill_entry_lem a.laws c.requires a.table.now a.out.now k l.out size s e.answer e.longest);
      same = kept ∙ size;
    }
