use Rattle.std.proofs.Common.{◌∷◌}
use Rattle.nest_lex.specs.declared.token.Mark.TheVariants as mark
use Rattle.nest_parse.specs.Expected.{This, value_then}
use Rattle.nest_parse.proofs.Chains.{refused}
use Rattle.nest_parse.proofs.Blocks.{assigned_read}
use Rattle.nest_parse.proofs.cursor.Cursor.assigned.Goals as goal

pub returns-in_err-value-clause-reads : goal.returns-in_err-value-clause-reads
returns-in_err-value-clause-reads c = refused c.from_residual-in_err-value.result c.from_residual-in_err-value.ensures.1 (λ k. k) (λ k. c.in_ok-op.ensures.reads.goes (value_then (This mark.Semicolon ∷ k))) c.in_err-value.ensures.reads

pub returns-clause-reads : goal.returns-clause-reads
returns-clause-reads c = assigned_read c.in_ok-op.ensures.reads c.in_ok-value.ensures.reads
