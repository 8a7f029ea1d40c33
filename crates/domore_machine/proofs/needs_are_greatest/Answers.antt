use Rattle.domore_machine.proofs.Need as lemmas
use Rattle.domore_machine.proofs.needs_are_greatest.Goals as goal

pub returns : goal.returns
returns c = λ clashes width k u. lemmas.needs_are_greatest clashes width k u
