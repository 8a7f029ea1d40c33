use Rattle.settle_law.proofs.Claims.{apart-from_claims}
use Rattle.settle_law.proofs.claims_part_iterations.Goals as goal

pub returns : goal.returns
returns c = apart-from_claims
