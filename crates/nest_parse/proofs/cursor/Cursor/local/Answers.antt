use Rattle.nest_parse.specs.Expected.{initial_then}
use Rattle.nest_parse.proofs.Chains.{refused}
use Rattle.nest_parse.proofs.Blocks.{local_read}
use Rattle.nest_parse.proofs.cursor.Cursor.local.Goals as goal

pub returns-in_err-value-clause-reads : goal.returns-in_err-value-clause-reads
returns-in_err-value-clause-reads c = refused c.from_residual-in_err-value.result c.from_residual-in_err-value.ensures.1 (λ k. k) (λ k. c.in_ok-name.ensures.reads.goes (initial_then k)) c.in_err-value.ensures.reads

pub returns-clause-reads : goal.returns-clause-reads
returns-clause-reads c = local_read c.in_ok-name.ensures.reads c.in_ok-value.ensures.reads
