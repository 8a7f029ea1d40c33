use Rattle.bound_names.proofs.Meanings.{have_meaning}
use Rattle.bound_names.proofs.names_have_meaning.Goals as goal

pub returns : goal.returns
returns c = have_meaning
