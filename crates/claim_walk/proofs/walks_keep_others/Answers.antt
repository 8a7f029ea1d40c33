use Rattle.claim_walk.proofs.Others.{walks_keep}
use Rattle.claim_walk.proofs.walks_keep_others.Goals as goal

pub returns : goal.returns
returns c = walks_keep
