use Rattle.std.proofs.Common.{length}
use Rattle.nest_parse.specs.Grammar.{AreLoops}
use Rattle.nest_parse.specs.Expected.{Loops}
use Rattle.nest_parse.proofs.Listing.{Listed}
use Rattle.nest_parse.proofs.cursor.Cursor.regions.Given as goal

abbrev pub invariant-list : goal.invariant-list
invariant-list l = Listed AreLoops Loops l.fn.self l.self l.list

abbrev pub decreases-list : goal.decreases-list
decreases-list l = length l.self
