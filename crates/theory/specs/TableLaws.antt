-- Laws of the table that running writes: the laws of rows in front of a list, for the engine's rows. Assumes nothing.
use Rattle.std.specs.Prelude.{List, ℕ}
use Rattle.model.specs.Numbers.{concat_of}
use Rattle.model.specs.Schedules.{Study, outflows_at}

-- the engine's rows of the first k steps by themselves
abbrev pub flows_of : Study → ℕ → List ℕ
flows_of a k = concat_of (outflows_at a) k
