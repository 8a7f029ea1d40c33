use Rattle.std.proofs.Common.{◌≡◌, List, take}
use Rattle.std.specs.List.{flat_map}
use Rattle.nest_syntax.specs.Arrays.{Array}
use Rattle.data_local.specs.Written.{TellsWritten}
use Rattle.data_local.specs.Rows.{row_edges, row_starts}
use Rattle.data_local.proofs.locals.graph_of.Given as goal

abbrev pub invariant-loop-row : goal.invariant-loop-row
invariant-loop-row l = record {
  edges : l.graph.edges.items ≡ flat_map row_edges (take l.row-index l.rows);
  starts : (arrays : List Array) → TellsWritten arrays l.written → l.graph.starts.items ≡ flat_map (row_starts arrays) (take l.row-index l.rows);
}
