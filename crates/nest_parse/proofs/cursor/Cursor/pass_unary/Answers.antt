use Rattle.std.proofs.Common.{sym}
use Rattle.nest_parse.proofs.Steps.{no_unary, other_unary}
use Rattle.nest_parse.proofs.cursor.Cursor.pass_unary.Goals as goal

pub returns-in_err-kind-clause-takes : goal.returns-in_err-kind-clause-takes
returns-in_err-kind-clause-takes c = rw c.from_residual.ensures (no_unary (sym c.in_err-kind.ensures))

pub returns-in_err-op-clause-takes : goal.returns-in_err-op-clause-takes
returns-in_err-op-clause-takes c = rw c.from_residual-in_err-op.ensures (other_unary (sym c.in_ok-kind.ensures) (sym c.in_err-op.ensures))
