use Rattle.std.proofs.Common.{◌∙◌}
use Rattle.data_local.specs.Rows.{row_edges, row_starts}
use Rattle.data_local.proofs.Parts.{flat_take}
use Rattle.data_local.proofs.locals.graph_of.Goals as goal

pub loop-row-preserved : goal.loop-row-preserved
loop-row-preserved c = record {
  edges = c.in_ok-draw_row.ensures.edges ∙ flat_take row_edges c.args.rows.now c.loop-row.row-index c.loop-row-test.true c.row-item.result c.row-item.is _ c.loop-row.invariant.edges;
  starts = λ arrays tells. c.in_ok-draw_row.ensures.starts arrays tells ∙ flat_take (row_starts arrays) c.args.rows.now c.loop-row.row-index c.loop-row-test.true c.row-item.result c.row-item.is _ (c.loop-row.invariant.starts arrays tells);
}
