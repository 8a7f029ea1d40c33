use Rattle.body_names.proofs.Programs.{names_in_bodies}
use Rattle.body_names.proofs.programs_name_locals_or_outside.Goals as goal

pub returns : goal.returns
returns c = names_in_bodies
