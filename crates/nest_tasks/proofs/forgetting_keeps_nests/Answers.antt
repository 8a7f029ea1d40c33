use Rattle.nest_tasks.proofs.Carrying.{forgetting_keeps}
use Rattle.nest_tasks.proofs.forgetting_keeps_nests.Goals as goal

pub returns : goal.returns
returns g c = λ m f stop stops nest what start setup. forgetting_keeps _ _ _ _ m f stop stops nest what start setup
