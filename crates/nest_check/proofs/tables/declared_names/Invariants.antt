use Rattle.std.proofs.Common.{◌≡◌, ◌++◌, drop}
use Rattle.nest_check.specs.Declarations.{names_of}
use Rattle.nest_check.proofs.tables.declared_names.Given as goal

abbrev pub invariant-loop-declaration : goal.invariant-loop-declaration
invariant-loop-declaration l = l.names.items ++ names_of (drop l.declaration-index l.declarations) ≡ names_of l.declarations
