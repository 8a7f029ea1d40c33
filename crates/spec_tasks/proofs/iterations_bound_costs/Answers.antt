use Rattle.spec_tasks.proofs.Costing.{costs}
use Rattle.spec_tasks.proofs.iterations_bound_costs.Goals as goal

pub returns : goal.returns
returns g c = λ m nest what cost bounds start follows. costs m nest what cost bounds start follows
