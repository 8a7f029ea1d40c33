use Rattle.nest_parse.proofs.Blocks.{no_declaration}
use Rattle.nest_parse.proofs.cursor.Cursor.next_declaration.Goals as goal

pub returns-then-not-pass_keyword-clause-reads : goal.returns-then-not-pass_keyword-clause-reads
returns-then-not-pass_keyword-clause-reads c = no_declaration c.if-pass_keyword.ensures.takes c.if-not-pass_keyword.ensures.takes
