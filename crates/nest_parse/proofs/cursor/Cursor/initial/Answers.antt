use Rattle.std.proofs.Common.{refl, ◌∷◌}
use Rattle.nest_lex.specs.declared.token.Mark.TheVariants as mark
use Rattle.nest_parse.specs.Expected.{This, value_then}
use Rattle.nest_parse.proofs.Chains.{refused}
use Rattle.nest_parse.proofs.Blocks.{initial_read}
use Rattle.nest_parse.proofs.cursor.Cursor.initial.Goals as goal

pub returns-in_err-sign-clause-reads : goal.returns-in_err-sign-clause-reads
returns-in_err-sign-clause-reads c = refused c.from_residual.result c.from_residual.ensures.1 (λ k. value_then (This mark.Semicolon ∷ k)) (λ k. refl) c.in_err-sign.ensures.reads

pub returns-clause-reads : goal.returns-clause-reads
returns-clause-reads c = initial_read c.in_ok-sign.ensures.reads.is c.value_then.result c.in_ok-sign.ensures.reads.goes c.value_then.ensures.reads
