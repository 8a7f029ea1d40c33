use Rattle.shadow_memory.proofs.Maximum.{needs_are_greatest}
use Rattle.shadow_memory.proofs.law.needs_are_greatest.Goals as goal

pub returns : goal.returns
returns c = needs_are_greatest
