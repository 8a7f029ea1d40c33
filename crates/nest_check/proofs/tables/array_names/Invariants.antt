use Rattle.std.proofs.Common.{◌≡◌, ◌++◌, drop}
use Rattle.nest_syntax.specs.Arrays.{arrays_of, array_names}
use Rattle.nest_check.proofs.tables.array_names.Given as goal

abbrev pub invariant-loop-decl : goal.invariant-loop-decl
invariant-loop-decl l = l.names.items ++ array_names (arrays_of (drop l.decl-index l.decls)) ≡ array_names (arrays_of l.decls)
