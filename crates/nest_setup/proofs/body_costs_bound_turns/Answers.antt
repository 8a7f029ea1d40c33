use Rattle.nest_setup.proofs.Costs.{body_costs_bound}
use Rattle.nest_setup.proofs.body_costs_bound_turns.Goals as goal

pub returns : goal.returns
returns c = body_costs_bound
