use Rattle.body_names.proofs.Bodies.{names_are}
use Rattle.body_names.proofs.names_are_local_or_outside.Goals as goal

pub returns : goal.returns
returns c = names_are
