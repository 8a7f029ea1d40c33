use Rattle.claim_walk.proofs.Rounds.{are_data_locals}
use Rattle.claim_walk.proofs.rounds_find_data_locals.Goals as goal

pub returns : goal.returns
returns c = are_data_locals
