use Rattle.std.proofs.Common.{◌∷◌}
use Rattle.nest_lex.specs.declared.token.Mark.TheVariants as mark
use Rattle.nest_parse.specs.Expected.{This, Signed}
use Rattle.nest_parse.proofs.Chains.{refused}
use Rattle.nest_parse.proofs.Blocks.{array_read, scalar_opens, declared_read}
use Rattle.nest_parse.proofs.cursor.Cursor.behind_declared.Goals as goal

pub returns-then-pass_mark-clause-reads : goal.returns-then-pass_mark-clause-reads
returns-then-pass_mark-clause-reads c = array_read c.if-pass_mark.ensures.takes c.in_ok-length.ensures.reads

pub returns-in_err-sign-clause-reads : goal.returns-in_err-sign-clause-reads
returns-in_err-sign-clause-reads c = refused c.from_residual-in_err-sign.result c.from_residual-in_err-sign.ensures.1 (λ k. Signed ∷ This mark.Semicolon ∷ k) (λ k. scalar_opens c.if-pass_mark.ensures.takes k) c.in_err-sign.ensures.reads

pub returns-clause-reads : goal.returns-clause-reads
returns-clause-reads c = declared_read c.if-pass_mark.ensures.takes c.in_ok-sign.ensures.reads c.in_ok-scalar.ensures.reads c.in_ok-sign-2.ensures.reads
