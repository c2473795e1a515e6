-- `encoding::put_row` meets its contract: each number is put after those before it.
use Rattle.std.proofs.Common.{arith}
use Rattle.fields.specs.BytesLaws.{length_bytes}
use Rattle.fields.specs.BytesStored.{stored_puts}
use Rattle.encoding.specs.Encoding.{putting_none, putting_more}
use Rattle.encoding.proofs.put_row.Goals as goal

pub loop-k-init : goal.loop-k-init
loop-k-init c = record { within = omega arith; put = putting_none _ _ _ _ }

pub loop-k-preserved : goal.loop-k-preserved
loop-k-preserved c = record {
  within = omega arith;
  put = putting_more _ _ _ _ c.loop-k.k (length_bytes _ _) c.loop-k.invariant.put (stored_puts c.put_number-end.ensures);
}
