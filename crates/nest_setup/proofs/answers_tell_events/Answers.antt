use Rattle.nest_setup.proofs.Courses.{answers_tell}
use Rattle.nest_setup.proofs.answers_tell_events.Goals as goal

pub returns : goal.returns
returns c = answers_tell
