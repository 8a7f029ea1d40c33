use Rattle.settle_law.proofs.Nests.{program_accesses}
use Rattle.settle_law.proofs.program_accesses.Goals as goal

pub returns : goal.returns
returns c = program_accesses
