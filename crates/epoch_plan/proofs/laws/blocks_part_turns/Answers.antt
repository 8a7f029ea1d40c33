use Rattle.epoch_plan.proofs.Parting.{blocks_part}
use Rattle.epoch_plan.proofs.laws.blocks_part_turns.Goals as goal

pub returns : goal.returns
returns c = λ epoch index workers some. blocks_part epoch index workers some
