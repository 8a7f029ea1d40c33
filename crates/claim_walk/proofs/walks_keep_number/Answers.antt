use Rattle.claim_walk.proofs.Lengths.{body_long}
use Rattle.claim_walk.proofs.walks_keep_number.Goals as goal

pub returns : goal.returns
returns c = body_long
