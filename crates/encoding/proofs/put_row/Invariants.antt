-- The first k numbers are put.
use Rattle.std.proofs.Common.{length, ◌-◌, ◌≤◌, get_or}
use Rattle.model.specs.Record.{number_size, bytes_of}
use Rattle.encoding.specs.Encoding.{PuttingLists}
use Rattle.encoding.proofs.put_row.Given as goal

abbrev pub invariant-loop-k : goal.invariant-loop-k
invariant-loop-k l = record {
  within : l.k ≤ length l.row;
  put : PuttingLists l.initial.target l.at (λ j. bytes_of number_size (get_or l.row j 0)) number_size l.k l.target l.end;
}

abbrev pub decreases-loop-k : goal.decreases-loop-k
decreases-loop-k l = length l.row - l.k
