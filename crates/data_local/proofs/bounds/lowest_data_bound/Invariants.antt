use Rattle.std.proofs.Common.{None, List, map, take}
use Rattle.nest_syntax.specs.declared.tree.Stmt.{Stmt}
use Rattle.nest_syntax.specs.Arrays.{arrays_of}
use Rattle.nest_syntax.specs.Among.{IsOne}
use Rattle.data_local.specs.Bounds.{HasDataBoundIn}
use Rattle.nest_syntax.specs.Lowest.{Lowers}
use Rattle.data_local.proofs.bounds.lowest_data_bound.Given as goal

abbrev pub invariant-loop-body : goal.invariant-loop-body
invariant-loop-body l = Lowers (λ line. (body : List Stmt) × IsOne (map (λ x. x.now) (take l.body-index l.body-items)) body × HasDataBoundIn (arrays_of l.program.decls) body line) None l.found
