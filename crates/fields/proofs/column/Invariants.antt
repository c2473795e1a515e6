-- The loop keeps: the fields of the first i cells are stored.
use Rattle.std.proofs.Common.{◌-◌}
use Rattle.model.specs.Record.{number_size}
use Rattle.fields.specs.FieldsLaws.{CollectedColumn}
use Rattle.fields.proofs.column.Given as goal

abbrev pub invariant-loop-i : goal.invariant-loop-i
invariant-loop-i l = CollectedColumn l.bytes l.offset number_size l.n l.r l.i

abbrev pub decreases-loop-i : goal.decreases-loop-i
decreases-loop-i l = l.n - l.i
