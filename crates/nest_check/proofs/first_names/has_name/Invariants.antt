use Rattle.std.proofs.Common.{◌≡◌, drop}
use Rattle.nest_check.specs.Declarations.{has_name}
use Rattle.nest_check.proofs.first_names.has_name.Given as goal

abbrev pub invariant-loop-declaration : goal.invariant-loop-declaration
invariant-loop-declaration l = has_name (drop l.declaration-index l.found) l.name ≡ has_name l.found l.name
