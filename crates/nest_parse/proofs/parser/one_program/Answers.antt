use Rattle.nest_parse.proofs.OneFault.{one_fault}
use Rattle.nest_parse.proofs.Unique.{unique}
use Rattle.nest_parse.proofs.parser.one_program.Goals as goal

pub returns-clause-program : goal.returns-clause-program
returns-clause-program c = λ tokens program other derives derives'. unique derives' derives

pub returns-clause-fault : goal.returns-clause-fault
returns-clause-fault c = one_fault

pub returns-clause-never_both : goal.returns-clause-never_both
returns-clause-never_both c = λ tokens program at derives fault. fault.whole program.decls program.regions derives.spelled
