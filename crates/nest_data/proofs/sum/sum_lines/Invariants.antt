use Rattle.std.proofs.Common.{◌≡◌, ◌+◌, pos, drop, length}
use Rattle.nest_syntax.specs.Arrays.{arrays_of}
use Rattle.nest_data.specs.Sum.{added, sum_of, written_words}
use Rattle.nest_data.proofs.sum.sum_lines.Given as goal

-- the sum with the words of the declarations that are left is the sum of all; the number counts the arrays passed
abbrev pub invariant-loop-decl : goal.invariant-loop-decl
invariant-loop-decl l = record {
  sums : added l.total (written_words l.words l.number (drop l.decl-index l.decls)) ≡ sum_of (written_words l.words 0 l.decls);
  passed : l.number + length (arrays_of (drop l.decl-index l.decls)) ≡ length (arrays_of l.decls);
}
