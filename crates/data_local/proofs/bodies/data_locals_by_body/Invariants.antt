use Rattle.std.proofs.Common.{map, take}
use Rattle.nest_syntax.specs.Arrays.{arrays_of}
use Rattle.data_local.specs.Givings.{givings}
use Rattle.data_local.proofs.BodyNodes.{Kept}
use Rattle.data_local.proofs.bodies.data_locals_by_body.Given as goal

abbrev pub invariant-loop-body : goal.invariant-loop-body
invariant-loop-body l = Kept (arrays_of l.program.decls) (map (λ x. givings x.now) (take l.body-index l.body-items)) l.lists.items
