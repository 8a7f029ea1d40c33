use Rattle.std.proofs.Common.{false}
use Rattle.std.specs.Prelude.{IsTrue}
use Rattle.nest_parse.proofs.Blocks.{more_follows}
use Rattle.nest_parse.proofs.cursor.Cursor.whole.Goals as goal

pub returns-then-not-is_done : goal.returns-then-not-is_done
returns-then-not-is_done c = more_follows c.in_ok-decls.ensures.reads c.in_ok-regions.ensures.reads (λ e. let h : IsTrue false = c.if-not-is_done.ensures.1 e in cc)
