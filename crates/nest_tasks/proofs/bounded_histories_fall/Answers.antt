use Rattle.nest_tasks.proofs.Longest.{bounded_falls}
use Rattle.nest_tasks.proofs.bounded_histories_fall.Goals as goal

pub returns : goal.returns
returns g c = λ step actors most opening few others. bounded_falls _ step actors most opening few others
