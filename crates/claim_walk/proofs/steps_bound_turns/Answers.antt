use Rattle.claim_walk.proofs.Whole.{steps_bound}
use Rattle.claim_walk.proofs.steps_bound_turns.Goals as goal

pub returns : goal.returns
returns c = steps_bound
