use Rattle.std.proofs.Common.{◌+◌, ◌*◌, length}
use Rattle.nest_parse.proofs.Values.{Joined}
use Rattle.nest_parse.proofs.cursor.Cursor.+value.Given as goal

abbrev pub decreases-factor : goal.decreases-factor
decreases-factor l = 32 * length l.self.now + 2

abbrev pub decreases-behind_name : goal.decreases-behind_name
decreases-behind_name l = 32 * length l.self.now + 1

abbrev pub decreases-chain : goal.decreases-chain
decreases-chain l = 32 * length l.self.now + 2 * l.depth + 4

abbrev pub decreases-terms : goal.decreases-terms
decreases-terms l = 32 * length l.self.now + 2 * l.depth + 3

abbrev pub decreases-value : goal.decreases-value
decreases-value l = 32 * length l.self.now + 28

abbrev pub decreases-value_then : goal.decreases-value_then
decreases-value_then l = 32 * length l.self.now + 29

abbrev pub invariant-chain-joins : goal.invariant-chain-joins
invariant-chain-joins l = Joined l.depth l.fn.self l.self l.left

abbrev pub decreases-chain-joins : goal.decreases-chain-joins
decreases-chain-joins l = length l.self
