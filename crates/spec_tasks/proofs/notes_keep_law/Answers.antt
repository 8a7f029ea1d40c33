use Rattle.spec_tasks.proofs.Notes.{law}
use Rattle.spec_tasks.proofs.notes_keep_law.Goals as goal

pub returns : goal.returns
returns g c = λ kind touched keeps. law kind touched keeps
