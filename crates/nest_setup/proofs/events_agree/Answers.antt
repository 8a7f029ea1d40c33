use Rattle.nest_setup.proofs.Courses.{events_agree}
use Rattle.nest_setup.proofs.events_agree.Goals as goal

pub returns : goal.returns
returns c = events_agree
