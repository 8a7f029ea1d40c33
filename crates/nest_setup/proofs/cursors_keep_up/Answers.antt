use Rattle.nest_setup.proofs.Courses.{cursors_keep_up}
use Rattle.nest_setup.proofs.cursors_keep_up.Goals as goal

pub returns : goal.returns
returns c = cursors_keep_up
