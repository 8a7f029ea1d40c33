use Rattle.settle_law.proofs.Turns.{within_turns}
use Rattle.settle_law.proofs.within_turn_is_within.Goals as goal

pub returns : goal.returns
returns c = within_turns
