use Rattle.std.proofs.Common.{◌≡◌, slice_range}
use Rattle.nest_lex.specs.Spelling.{mark_text}
use Rattle.nest_lex.proofs.found.mark_at.Given as goal

abbrev pub invariant-loop-next : goal.invariant-loop-next
invariant-loop-next l = mark_text l.mark ≡ slice_range l.bytes l.at l.next
