-- `many::run_studies`: the record run is that of the study, and its entry is the next of the answers. Assumes nothing.
use Rattle.std.proofs.Common.{◌≡◌, ◌∙◌, length, refl, arith, rules}
use Rattle.many.specs.Studies.{table_small, done_none, table_is, table_into_record, done_more}
use Rattle.many.specs.RunStudies.{run_numbers, run_entry_lem, ran_size, ran_version, ran_study, ran_more, list_none, record_none, list_more}
use Rattle.many.proofs.run_studies.Goals as goal

pub overflow_add-size : goal.overflow_add-size
overflow_add-size c = omega (arith, table_small c.requires)

pub overflow_mul-size : goal.overflow_mul-size
overflow_mul-size c = omega (arith, table_small c.requires)

pub loop-k-init : goal.loop-k-init
loop-k-init c =
    let a = c.args in
    let numbers = run_numbers a.bytes.now a.table.now a.arrivals.now a.out.now in
    record {
      done = done_none _ _ _ c.requires numbers (record_none a.bytes.now a.arrivals.now)
          (list_none a.bytes.now a.table.now a.arrivals.now a.out.now);
      same = refl;
    }

pub put_arrivals-requires : goal.put_arrivals-requires
put_arrivals-requires c =
    let a = c.args in
    let l = c.loop-k in
    let h = l.invariant.done in
    let numbers = run_numbers a.bytes.now a.table.now a.arrivals.now a.out.now in
    table_into_record _ _ _ c.requires numbers h c.loop-k-test.true (ran_size c.requires l.k h.bytes_are) (ran_version c.requires l.k h.bytes_are)

pub loop-k-preserved : goal.loop-k-preserved
loop-k-preserved c =
    let a = c.args in
    let l = c.loop-k in
    let k = l.k in
    let h = l.invariant.done in
    let numbers = run_numbers a.bytes.now a.table.now a.arrivals.now a.out.now in
    let study = ran_study c.requires k h.bytes_are (table_is _ _ _ c.requires numbers h) c.put_arrivals.ensures in
    let e = c.run_longest-a.ensures in
    let kept : length c.run_longest-a.new.out ≡ length l.out = search rules in
    record {
      done = done_more _ _ _ c.requires numbers h c.loop-k-test.true (ran_more a.bytes.now a.arrivals.now k study)
          (list_more a.bytes.now a.table.now a.arrivals.now a.out.now k study h.list_is e.list)
          (c.put_entry.ensures
          ∙ c.entry-numbers.ensures
          ∙ run_entry_lem a.bytes.now a.table.now a.arrivals.now a.out.now k l.out study l.invariant.same e.answer e.longest);
      same = kept ∙ l.invariant.same;
    }
