-- One more byte makes the next number, by `number_more`; it stays below the bound, by `power_more`, and fits, by `power_small`.
use Rattle.std.proofs.Common.{arith, refl}
use Rattle.model.specs.Record.{number_of}
use Rattle.fields.specs.FieldsLaws.{number_more, power_more, power_small}
use Rattle.fields.proofs.number.Goals as goal

pub loop-k-init : goal.loop-k-init
unfolding number_of
loop-k-init c = record { within = omega arith; value = refl; bound = omega arith }

pub overflow_mul-r : goal.overflow_mul-r
overflow_mul-r c = omega (arith, power_small c.loop-k.k (omega arith))

pub overflow_add-r : goal.overflow_add-r
overflow_add-r c = omega (arith, power_small c.loop-k.k (omega arith))

pub loop-k-preserved : goal.loop-k-preserved
loop-k-preserved c =
    let l = c.loop-k in
    record {
      within = omega arith;
      value = cc (number_more c.args.bytes.now c.args.i l.k, l.invariant.value, c.wide-byte.ensures.0);
      bound = power_more l.k l.r c.wide-byte.result l.invariant.bound c.wide-byte.ensures.1;
    }
