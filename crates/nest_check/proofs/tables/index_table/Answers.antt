use Rattle.std.proofs.Common.{refl, sym, subst}
use Rattle.nest_check.proofs.Indexes.{IsIndexed, indexing_begins, indexing_goes, indexing_ends}
use Rattle.nest_check.proofs.tables.index_table.Goals as goal

pub loop-name-init : goal.loop-name-init
loop-name-init c = subst (λ items. IsIndexed c.args.names.now items 0 0) (sym c.in_ok-table.ensures) (indexing_begins c.args.names.now c.table_length.result c.table_length.ensures)

pub loop-name-preserved : goal.loop-name-preserved
loop-name-preserved c = indexing_goes _ _ _ _ _ _ c.loop-name-test.true refl c.note_index.ensures c.loop-name.invariant

pub returns : goal.returns
returns c = indexing_ends _ _ _ _ c.loop-name-test.false c.loop-name.invariant
