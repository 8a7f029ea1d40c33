use Rattle.std.proofs.Common.{◌≡◌, drop}
use Rattle.nest_syntax.specs.Lowest.{lower_of}
use Rattle.nest_check.specs.Rules.{lengths_outside}
use Rattle.nest_check.proofs.arrays.note_lengths.Given as goal

abbrev pub invariant-loop-decl : goal.invariant-loop-decl
invariant-loop-decl l = lower_of l.found (lengths_outside (drop l.decl-index l.decls)) ≡ lower_of l.fn.found (lengths_outside l.decls)
