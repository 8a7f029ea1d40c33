use Rattle.spec_core.proofs.Histories.{commit_truly}
use Rattle.spec_core.proofs.laws.histories_commit_truly.Goals as goal

pub returns : goal.returns
returns g c = commit_truly _
