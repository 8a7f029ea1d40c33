use Rattle.nest_lex.proofs.Reading.{bad_there}
use Rattle.nest_lex.proofs.reader.Reader.step.Goals as goal

pub returns-in-Fault-clause-refused : goal.returns-in-Fault-clause-refused
returns-in-Fault-clause-refused c = bad_there _ _ _ _ _ _ _ c.requires.read.went c.in-Fault.ensures
