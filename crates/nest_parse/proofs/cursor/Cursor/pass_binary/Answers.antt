use Rattle.std.proofs.Common.{sym}
use Rattle.nest_parse.proofs.Steps.{no_operator, other_token, other_level}
use Rattle.nest_parse.proofs.cursor.Cursor.pass_binary.Goals as goal

pub returns-in_err-kind-clause-takes : goal.returns-in_err-kind-clause-takes
returns-in_err-kind-clause-takes c = rw c.from_residual.ensures (no_operator (sym c.in_err-kind.ensures))

pub returns-in_err-level-clause-takes : goal.returns-in_err-level-clause-takes
returns-in_err-level-clause-takes c = rw c.from_residual-in_err-level.ensures (other_token (sym c.in_ok-kind.ensures) (sym c.in_err-level.ensures))

pub returns-then-level-depth-clause-takes : goal.returns-then-level-depth-clause-takes
returns-then-level-depth-clause-takes c = other_level (sym c.in_ok-kind.ensures) (sym c.in_ok-level.ensures) c.if-level-depth.true
