use Rattle.std.proofs.Common.{◌≡◌, None, replicate}
use Rattle.nest_check.proofs.tables.empty_table.Given as goal

abbrev pub invariant-loop-index : goal.invariant-loop-index
invariant-loop-index l = l.table.items ≡ replicate l._index None
