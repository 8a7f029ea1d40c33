use Rattle.std.proofs.Common.{◌≡◌, drop}
use Rattle.nest_syntax.specs.Lowest.{lower_of}
use Rattle.nest_check.specs.Rules.{first_behind, array_lines}
use Rattle.nest_check.proofs.arrays.note_array.Given as goal

abbrev pub invariant-loop-decl : goal.invariant-loop-decl
invariant-loop-decl l = lower_of l.found (first_behind l.left (array_lines (drop l.decl-index l.decls))) ≡ lower_of l.fn.found (first_behind 64 (array_lines l.decls))
