use Rattle.settle_law.proofs.Nests.{program_is_nest}
use Rattle.settle_law.proofs.program_is_nest.Goals as goal

pub returns : goal.returns
returns c = program_is_nest
