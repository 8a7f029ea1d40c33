use Rattle.std.proofs.Common.{◌≡◌, ◌-◌, ◌≤◌, drop}
use Rattle.nest_syntax.specs.Lowest.{lower_of}
use Rattle.nest_check.specs.Rules.{sum_passes, most_words}
use Rattle.nest_check.proofs.arrays.note_sum.Given as goal

abbrev pub invariant-loop-decl : goal.invariant-loop-decl
invariant-loop-decl l = (l.left ≤ most_words) × (lower_of l.found (sum_passes (most_words - l.left) (drop l.decl-index l.decls)) ≡ lower_of l.fn.found (sum_passes 0 l.decls))
