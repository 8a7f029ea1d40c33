use Rattle.std.proofs.Common.{◌+◌, ◌*◌, length}
use Rattle.nest_parse.specs.Grammar.{IsStatements}
use Rattle.nest_parse.specs.Expected.{Statements}
use Rattle.nest_parse.proofs.Listing.{Listed}
use Rattle.nest_parse.proofs.Blocks.{Armed}
use Rattle.nest_parse.proofs.cursor.Cursor.+block.Given as goal

abbrev pub decreases-block : goal.decreases-block
decreases-block l = 4 * length l.self.now

abbrev pub decreases-statement : goal.decreases-statement
decreases-statement l = 4 * length l.self.now + 2

abbrev pub decreases-statements : goal.decreases-statements
decreases-statements l = 4 * length l.self.now + 3

abbrev pub decreases-arm : goal.decreases-arm
decreases-arm l = 4 * length l.self.now

abbrev pub decreases-branch : goal.decreases-branch
decreases-branch l = 4 * length l.self.now + 1

abbrev pub decreases-turns : goal.decreases-turns
decreases-turns l = 4 * length l.self.now + 1

abbrev pub decreases-turned : goal.decreases-turned
decreases-turned l = 4 * length l.self.now

abbrev pub invariant-statements-list : goal.invariant-statements-list
invariant-statements-list l = Listed IsStatements Statements l.fn.self l.self l.list

abbrev pub decreases-statements-list : goal.decreases-statements-list
decreases-statements-list l = length l.self

abbrev pub invariant-branch-arms : goal.invariant-branch-arms
invariant-branch-arms l = Armed l.fn.line l.fn.self l.self l.arms

abbrev pub decreases-branch-arms : goal.decreases-branch-arms
decreases-branch-arms l = length l.self
