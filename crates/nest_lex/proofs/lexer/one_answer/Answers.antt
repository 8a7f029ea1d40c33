use Rattle.nest_lex.proofs.OneAnswer.{same_tokens, same_fault, no_fault}
use Rattle.nest_lex.proofs.lexer.one_answer.Goals as goal

pub returns-clause-tokens : goal.returns-clause-tokens
returns-clause-tokens c = same_tokens

pub returns-clause-fault : goal.returns-clause-fault
returns-clause-fault c = same_fault

pub returns-clause-never_both : goal.returns-clause-never_both
returns-clause-never_both c = no_fault
