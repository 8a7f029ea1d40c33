use Rattle.nest_lex.proofs.Marks.{mark_stands}
use Rattle.nest_lex.proofs.found.sign_at.Goals as goal

pub returns-in-Some : goal.returns-in-Some
returns-in-Some c = mark_stands _ _ _ _ c.requires.no_line c.requires.no_block c.in-Some.ensures
