use Rattle.nest_check.proofs.Indexes.{IsIndexed}
use Rattle.nest_check.proofs.tables.index_table.Given as goal

abbrev pub invariant-loop-name : goal.invariant-loop-name
invariant-loop-name l = IsIndexed l.names l.table.items l.name-index l.index
