use Rattle.nest_parse.proofs.Steps.{not_named}
use Rattle.nest_parse.proofs.cursor.Cursor.pass_name.Goals as goal

pub returns-in_err-name-clause-takes : goal.returns-in_err-name-clause-takes
returns-in_err-name-clause-takes c = rw c.from_residual.ensures (not_named c.in_err-name.ensures)
