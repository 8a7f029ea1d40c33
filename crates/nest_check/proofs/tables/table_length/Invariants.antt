use Rattle.std.proofs.Common.{ℕ, ◌<◌, get_or}
use Rattle.nest_check.proofs.tables.table_length.Given as goal

abbrev pub invariant-loop-name : goal.invariant-loop-name
invariant-loop-name l = (k : ℕ) → k < l.name-index → get_or l.names k 0 < l.length
