use Rattle.nest_parse.proofs.Blocks.{no_region}
use Rattle.nest_parse.proofs.cursor.Cursor.next_region.Goals as goal

pub returns-then-not-pass_keyword-clause-reads : goal.returns-then-not-pass_keyword-clause-reads
returns-then-not-pass_keyword-clause-reads c = no_region c.if-not-pass_keyword.ensures.takes
