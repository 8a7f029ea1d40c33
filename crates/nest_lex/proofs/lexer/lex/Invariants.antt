use Rattle.std.proofs.Common.{length, ◌-◌}
use Rattle.nest_lex.specs.Reader.{HasRead}
use Rattle.nest_lex.proofs.lexer.lex.Given as goal

abbrev pub invariant-loop-reader : goal.invariant-loop-reader
invariant-loop-reader l = HasRead l.bytes l.reader

abbrev pub decreases-loop-reader : goal.decreases-loop-reader
decreases-loop-reader l = length l.bytes - l.reader.at
