use Rattle.claim_walk.proofs.Whole.{claims_hold}
use Rattle.claim_walk.proofs.claims_hold_turns.Goals as goal

pub returns : goal.returns
returns c = claims_hold
