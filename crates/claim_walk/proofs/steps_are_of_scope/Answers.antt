use Rattle.claim_walk.proofs.Scope.{steps_of_scope}
use Rattle.claim_walk.proofs.steps_are_of_scope.Goals as goal

pub returns : goal.returns
returns c = steps_of_scope
