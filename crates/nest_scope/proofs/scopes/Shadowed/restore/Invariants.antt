use Rattle.std.proofs.Common.{◌≡◌, vec_len}
use Rattle.nest_scope.specs.Restored.{restored}
use Rattle.nest_scope.proofs.scopes.Shadowed.restore.Given as goal

abbrev pub invariant-loop-name : goal.invariant-loop-name
invariant-loop-name l = restored l.self-inside.bindings.items l.scope ≡ restored l.fn.self l.fn.scope

abbrev pub decreases-loop-name : goal.decreases-loop-name
decreases-loop-name l = vec_len l.self-inside.bindings
