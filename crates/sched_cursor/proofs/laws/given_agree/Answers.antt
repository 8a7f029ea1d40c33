use Rattle.sched_cursor.proofs.Given.{given_agree}
use Rattle.sched_cursor.proofs.laws.given_agree.Goals as goal

pub returns : goal.returns
returns c = given_agree
