use Rattle.std.proofs.Common.{◌∷◌}
use Rattle.nest_parse.specs.Expected.{AnyNumber, StepTail}
use Rattle.nest_parse.proofs.Chains.{refused}
use Rattle.nest_parse.proofs.Blocks.{before_read, name_opens, behind_read, sum_opens, by_read}
use Rattle.nest_parse.proofs.cursor.Cursor.step.Goals as goal

pub returns-then-pass_mark-clause-reads : goal.returns-then-pass_mark-clause-reads
returns-then-pass_mark-clause-reads c = before_read c.if-pass_mark.ensures.takes c.in_ok-same_name.ensures.reads

pub returns-in_err-same_name-2-clause-reads : goal.returns-in_err-same_name-2-clause-reads
returns-in_err-same_name-2-clause-reads c = refused c.from_residual-in_err-same_name-2.result c.from_residual-in_err-same_name-2.ensures.1 (λ k. StepTail ∷ k) (λ k. name_opens c.args.name c.if-pass_mark.ensures.takes k) c.in_err-same_name-2.ensures.reads

pub returns-then-pass_mark-2-clause-reads : goal.returns-then-pass_mark-2-clause-reads
returns-then-pass_mark-2-clause-reads c = behind_read c.if-pass_mark.ensures.takes c.in_ok-same_name-2.ensures.reads c.if-pass_mark-2.ensures.takes

pub returns-in_err-sign-clause-reads : goal.returns-in_err-sign-clause-reads
returns-in_err-sign-clause-reads c = refused c.from_residual-in_err-sign.result c.from_residual-in_err-sign.ensures.1 (λ k. AnyNumber ∷ k) (λ k. sum_opens c.if-pass_mark.ensures.takes c.in_ok-same_name-2.ensures.reads c.if-pass_mark-2.ensures.takes k) c.in_err-sign.ensures.reads

pub returns-clause-reads : goal.returns-clause-reads
returns-clause-reads c = by_read c.if-pass_mark.ensures.takes c.in_ok-same_name-2.ensures.reads c.if-pass_mark-2.ensures.takes c.in_ok-sign.ensures.reads c.number.result c.number.ensures.reads
