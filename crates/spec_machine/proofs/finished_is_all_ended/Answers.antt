use Rattle.spec_machine.proofs.Runs.{finished_all_ended}
use Rattle.spec_machine.proofs.finished_is_all_ended.Goals as goal

pub returns : goal.returns
returns g c = λ m s. finished_all_ended _ _ _ _ m s
