use Rattle.domore_machine.proofs.Free.{where_free}
use Rattle.domore_machine.proofs.finished_where_free.Goals as goal

pub returns : goal.returns
returns g c = λ m s some tickets none. where_free _ _ _ m s some tickets none
