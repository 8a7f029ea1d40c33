use Rattle.nest_scope.proofs.Restored.{restores_last}
use Rattle.nest_scope.proofs.scopes.Shadowed.restore.Goals as goal

pub loop-name-preserved : goal.loop-name-preserved
loop-name-preserved c = restores_last _ _ c.in-Some.name c.in-Some.binding _ _ _ c.in-Some.ensures.items c.bind.ensures c.loop-name.invariant
