use Rattle.domore_machine.proofs.Counting as lemmas
use Rattle.domore_machine.proofs.facts_count.Goals as goal

pub returns : goal.returns
returns c = λ waits passed. lemmas.facts_count waits passed
