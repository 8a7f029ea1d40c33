use Rattle.nest_mean.proofs.Bound.{has_few}
use Rattle.nest_mean.proofs.laws.few_iterations.Goals as goal

pub returns : goal.returns
returns c = λ nest few_bodies. has_few nest few_bodies
