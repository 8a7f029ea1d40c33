use Rattle.nest_profile.proofs.Blaming.{one_least}
use Rattle.nest_profile.proofs.laws.one_least.Goals as goal

pub returns : goal.returns
returns c = one_least
