use Rattle.std.proofs.Common.{length}
use Rattle.nest_parse.specs.Grammar.{AreDecls}
use Rattle.nest_parse.specs.Expected.{Decls}
use Rattle.nest_parse.proofs.Listing.{Listed}
use Rattle.nest_parse.proofs.cursor.Cursor.declarations.Given as goal

abbrev pub invariant-list : goal.invariant-list
invariant-list l = Listed AreDecls Decls l.fn.self l.self l.list

abbrev pub decreases-list : goal.decreases-list
decreases-list l = length l.self
