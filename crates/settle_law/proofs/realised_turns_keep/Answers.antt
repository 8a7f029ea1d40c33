use Rattle.settle_law.proofs.Turns.{keeps-from_realises}
use Rattle.settle_law.proofs.realised_turns_keep.Goals as goal

pub returns : goal.returns
returns g c = λ sys sizes t piece realises. keeps-from_realises sys sizes 0 t piece realises
