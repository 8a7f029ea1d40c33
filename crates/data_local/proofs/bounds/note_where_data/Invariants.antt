use Rattle.std.proofs.Common.{◌≡◌, List, map, drop}
use Rattle.nest_syntax.specs.Arrays.{Array}
use Rattle.nest_syntax.specs.Lowest.{lower_of, lines_where}
use Rattle.data_local.specs.Loops.{line_of}
use Rattle.data_local.specs.Written.{TellsWritten}
use Rattle.data_local.specs.Breaches.{has_data_bound}
use Rattle.data_local.proofs.bounds.note_where_data.Given as goal

abbrev pub invariant-loop-one : goal.invariant-loop-one
invariant-loop-one l = (arrays : List Array) → TellsWritten arrays l.written
    → lower_of l.found (lines_where line_of (has_data_bound arrays l.locals) (map (λ x. x.now) (drop l.one-index l.loops))) ≡ lower_of l.fn.found (lines_where line_of (has_data_bound arrays l.locals) (map (λ x. x.now) l.loops))
