use Rattle.std.proofs.Common.{◌≡◌, drop}
use Rattle.nest_syntax.specs.Course.{declared_scalars}
use Rattle.nest_mean.proofs.run.declare_scalars.Given as goal

abbrev pub invariant-loop-decl : goal.invariant-loop-decl
invariant-loop-decl l = declared_scalars (drop l.decl-index l.decls) l.scalars ≡ declared_scalars l.decls l.fn.scalars
