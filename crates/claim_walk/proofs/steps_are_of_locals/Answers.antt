use Rattle.claim_walk.proofs.Whole.{steps_of_locals}
use Rattle.claim_walk.proofs.steps_are_of_locals.Goals as goal

pub returns : goal.returns
returns c = steps_of_locals
