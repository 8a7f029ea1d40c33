use Rattle.nest_syntax.proofs.Reckoned.{reckoned}
use Rattle.nest_syntax.proofs.laws.reckonings_are_values.Goals as goal

pub returns : goal.returns
returns c = λ arrays scalars words expr line go. reckoned arrays scalars words expr line go
