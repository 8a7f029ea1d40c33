use Rattle.nest_scope.proofs.Restored.{declared_shadows}
use Rattle.nest_scope.proofs.scopes.Scope.declare.Goals as goal

pub returns-clause-shadowed : goal.returns-clause-shadowed
returns-clause-shadowed c = declared_shadows _ _ _ _ c.args.name c.args.to c.bound.result c.in_ok-push.ensures c.bind.ensures c.bound.ensures
