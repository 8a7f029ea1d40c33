use Rattle.nest_data.proofs.Faulty.{judged}
use Rattle.nest_data.proofs.read.faults_are_of_lines.Goals as goal

pub returns : goal.returns
returns c = judged
