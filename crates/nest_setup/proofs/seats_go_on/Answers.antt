use Rattle.nest_setup.proofs.Held.{seats_go_on}
use Rattle.nest_setup.proofs.seats_go_on.Goals as goal

pub returns : goal.returns
returns c = seats_go_on
