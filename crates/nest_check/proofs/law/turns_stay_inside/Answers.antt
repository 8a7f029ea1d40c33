use Rattle.nest_check.proofs.Inside.{turns_stay_inside}
use Rattle.nest_check.proofs.law.turns_stay_inside.Goals as goal

pub returns : goal.returns
returns c = turns_stay_inside
