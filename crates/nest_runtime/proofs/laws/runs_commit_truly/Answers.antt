use Rattle.nest_runtime.proofs.Speculation.{runs_commit_truly}
use Rattle.nest_runtime.proofs.laws.runs_commit_truly.Goals as goal

pub returns : goal.returns
returns c = runs_commit_truly c.histories_speculate.ensures c.histories_speculate-2.ensures
