use Rattle.settle_law.proofs.Turns.{inside_turns_tell}
use Rattle.settle_law.proofs.inside_turns_tell.Goals as goal

pub returns : goal.returns
returns c = inside_turns_tell
