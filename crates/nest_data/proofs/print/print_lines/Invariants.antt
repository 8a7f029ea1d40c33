use Rattle.std.proofs.Common.{◌≡◌, ◌+◌, ◌++◌, drop, length}
use Rattle.nest_syntax.specs.Arrays.{arrays_of}
use Rattle.nest_data.specs.Text.{array_lines}
use Rattle.nest_data.proofs.print.print_lines.Given as goal

-- what is written and the lines that are left are all lines; the number counts the arrays passed
abbrev pub invariant-loop-decl : goal.invariant-loop-decl
invariant-loop-decl l = record {
  lines : l.text.items ++ array_lines l.names l.words l.number (drop l.decl-index l.decls) ≡ array_lines l.names l.words 0 l.decls;
  passed : l.number + length (arrays_of (drop l.decl-index l.decls)) ≡ length (arrays_of l.decls);
}
