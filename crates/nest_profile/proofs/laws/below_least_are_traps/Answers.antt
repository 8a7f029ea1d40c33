use Rattle.nest_profile.proofs.Blaming.{below_least_traps}
use Rattle.nest_profile.proofs.laws.below_least_are_traps.Goals as goal

pub returns : goal.returns
returns g c = below_least_traps _ c.histories_give_up_for_trap.ensures
