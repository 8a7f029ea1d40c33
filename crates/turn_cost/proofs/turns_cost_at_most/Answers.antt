use Rattle.turn_cost.proofs.Costly.{turn_costs}
use Rattle.turn_cost.proofs.turns_cost_at_most.Goals as goal

pub returns : goal.returns
returns c = turn_costs
