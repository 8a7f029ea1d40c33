use Rattle.std.proofs.lemmas.Result.{err_from_is_err_and}
use Rattle.nest_lex.proofs.OneAnswer.{same_tokens, no_fault, refused_only, refused_fault}
use Rattle.nest_lex.proofs.lexer.lex.Goals as goal

pub loop-reader-init : goal.loop-reader-init
loop-reader-init c = c.new-reader.ensures c.args.bytes.now

pub returns-in_err-step-clause-only : goal.returns-in_err-step-clause-only
returns-in_err-step-clause-only c = λ t are. let p = err_from_is_err_and c.from_residual.result c.from_residual.ensures.1 in rw (p.1, p.2) (refused_only c.args.bytes.now _ t c.in_err-step.ensures.refused are)

pub returns-in_err-step-clause-fault : goal.returns-in_err-step-clause-fault
returns-in_err-step-clause-fault c = λ kind at fault. let p = err_from_is_err_and c.from_residual.result c.from_residual.ensures.1 in rw (p.1, p.2) (refused_fault c.args.bytes.now _ kind at c.in_err-step.ensures.refused fault)

pub returns-clause-only : goal.returns-clause-only
returns-clause-only c = λ t are. same_tokens c.args.bytes.now _ t c.tokens.ensures.tokens are

pub returns-clause-fault : goal.returns-clause-fault
returns-clause-fault c = λ kind at fault. absurd (no_fault c.args.bytes.now _ kind at c.tokens.ensures.tokens fault)
