use Rattle.std.proofs.Common.{refl, ◌∙◌}
use Rattle.nest_parse.specs.Expected.{Subscript, assigned_then}
use Rattle.nest_parse.proofs.Chains.{refused}
use Rattle.nest_parse.proofs.Values.{left_there, no_place, place_opens}
use Rattle.nest_parse.proofs.Blocks.{assign_read, write_read}
use Rattle.nest_parse.proofs.cursor.Cursor.target.Goals as goal

pub returns-in_err-place-clause-reads : goal.returns-in_err-place-clause-reads
returns-in_err-place-clause-reads c = refused c.from_residual.result c.from_residual.ensures.1 (λ k. assigned_then k) (λ k. place_opens c.if-pass_mark.ensures.takes (assigned_then k)) c.in_err-place.ensures.reads

pub returns-in_err-op-clause-reads : goal.returns-in_err-op-clause-reads
returns-in_err-op-clause-reads c = refused c.from_residual-in_err-op.result c.from_residual-in_err-op.ensures.1 (λ k. k) (λ k. place_opens c.if-pass_mark.ensures.takes (assigned_then k) ∙ c.in_ok-place.ensures.reads.goes (assigned_then k)) c.in_err-op.ensures.reads

pub returns-then-pass_mark-clause-reads : goal.returns-then-pass_mark-clause-reads
returns-then-pass_mark-clause-reads c = write_read c.if-pass_mark.ensures.takes c.in_ok-place.ensures.reads c.in_ok-op.ensures.reads

pub returns-in_err-op-2-clause-reads : goal.returns-in_err-op-2-clause-reads
returns-in_err-op-2-clause-reads c = refused c.from_residual-in_err-op-2.result c.from_residual-in_err-op-2.ensures.1 (λ k. k) (λ k. left_there Subscript refl no_place c.if-pass_mark.ensures.takes (assigned_then k)) c.in_err-op-2.ensures.reads

pub returns-clause-reads : goal.returns-clause-reads
returns-clause-reads c = assign_read c.if-pass_mark.ensures.takes c.in_ok-op-2.ensures.reads
