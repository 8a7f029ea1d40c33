use Rattle.std.proofs.Common.{◌≡◌, drop}
use Rattle.nest_check.specs.Through.{through}
use Rattle.nest_check.specs.Entries.{scalars_in}
use Rattle.nest_check.specs.Noted.{added}
use Rattle.nest_check.proofs.items.declare_scalars.Given as goal

abbrev pub invariant-loop-decl : goal.invariant-loop-decl
invariant-loop-decl l = through (added 33) l.names (scalars_in (drop l.decl-index l.decls)) ≡ through (added 33) l.fn.names (scalars_in l.decls)
