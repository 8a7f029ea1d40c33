use Rattle.std.proofs.Common.{◌≡◌, take}
use Rattle.std.specs.List.{flat_map}
use Rattle.data_local.specs.Rows.{row_names}
use Rattle.data_local.proofs.locals.reached_names.Given as goal

abbrev pub invariant-loop-row : goal.invariant-loop-row
invariant-loop-row l = l.names.items ≡ flat_map (row_names l.nodes) (take l.row-index l.rows)
