use Rattle.std.proofs.Common.{◌∙◌}
use Rattle.data_local.specs.Rows.{row_names}
use Rattle.data_local.proofs.Parts.{flat_take}
use Rattle.data_local.proofs.locals.reached_names.Goals as goal

pub loop-row-preserved : goal.loop-row-preserved
loop-row-preserved c =
    c.in_ok-add_reached.ensures
    ∙ flat_take (row_names c.args.nodes.now) c.args.rows.now c.loop-row.row-index c.loop-row-test.true c.row-item.result c.row-item.is _ c.loop-row.invariant
