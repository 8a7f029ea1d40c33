use Rattle.nest_parse.proofs.Blocks.{fixed_read}
use Rattle.nest_parse.proofs.cursor.Cursor.fixed_array.Goals as goal

pub returns-clause-reads : goal.returns-clause-reads
returns-clause-reads c = fixed_read c.in_ok-keyword.ensures.reads c.in_ok-name.ensures.reads c.in_ok-sign.ensures.reads c.in_ok-length.ensures.reads
