use Rattle.nest_parse.proofs.Chains.{refused}
use Rattle.nest_parse.proofs.Blocks.{number_there, negative_read, positive_read}
use Rattle.nest_parse.proofs.cursor.Cursor.scalar.Goals as goal

pub returns-then-pass_mark-clause-reads : goal.returns-then-pass_mark-clause-reads
returns-then-pass_mark-clause-reads c = rw c.negative_scalar.ensures (negative_read c.if-pass_mark.ensures.takes c.in_ok-number.ensures.reads)

pub returns-in_err-number-2-clause-reads : goal.returns-in_err-number-2-clause-reads
returns-in_err-number-2-clause-reads c = refused c.from_residual-in_err-number-2.result c.from_residual-in_err-number-2.ensures.1 (λ k. k) (λ k. number_there c.if-pass_mark.ensures.takes k) c.in_err-number-2.ensures.reads

pub returns-clause-reads : goal.returns-clause-reads
returns-clause-reads c = rw c.positive_scalar.ensures (positive_read c.if-pass_mark.ensures.takes c.in_ok-number-2.ensures.reads)
