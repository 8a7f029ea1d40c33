use Rattle.nest_lex.proofs.OneDivision.{one_division}
use Rattle.nest_lex.proofs.divide.one_division.Goals as goal

pub returns : goal.returns
returns c = one_division
