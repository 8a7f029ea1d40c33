-- No caller needs this. How many iterations may come: from a place of a script on to the end of a region's turn, from a
-- region on, and from a cursor on. So none counts more than 2^60.
use Rattle.std.specs.Prelude.{◌≡◌, ℕ, ◌+◌, ◌-◌, ◌*◌, ◌^◌, ◌≤◌, Some, List, slice_get}
use Rattle.nest_syntax.specs.declared.names.Line.{Line}
use Rattle.nest_syntax.specs.declared.operators.Op.{Op}
use Rattle.nest_syntax.specs.declared.tree.Expr.{Expr}
use Rattle.sched_cursor.specs.declared.node.Next.{Next}
use Rattle.sched_cursor.specs.declared.node.Next.TheVariants as next
use Rattle.sched_cursor.specs.declared.node.Header.{Header}
use Rattle.sched_cursor.specs.declared.node.Node.{Node}
use Rattle.sched_cursor.specs.declared.node.Node.TheVariants as node
use Rattle.sched_cursor.specs.declared.node.At.{At}
use Rattle.sched_cursor.specs.declared.node.At.TheVariants as at
use Rattle.sched_cursor.specs.Cursor.{Cursor}

-- At most k iterations come before the turn of the region is over, whichever arms are taken.
pub data Most (nodes : List Node) : Next → ℕ → Type 0 where
  by_turn : (k : ℕ) → Most nodes next.Turn k
  by_change : (n k : ℕ) (line : Line) (name : ℕ) (op : Op) (e : Expr) (behind : Next) → slice_get nodes n ≡ Some (node.Change line name op e behind) → Most nodes behind k → Most nodes (next.Node n) k
  by_test : (n k : ℕ) (line : Line) (e : Expr) (taken otherwise : Next) → slice_get nodes n ≡ Some (node.Test line e taken otherwise) → Most nodes taken k → Most nodes otherwise k → Most nodes (next.Node n) k
  by_invoke : (n k m : ℕ) (header : Header) (body : ℕ) (behind : Next) → slice_get nodes n ≡ Some (node.Invoke header body behind) → Most nodes behind k → 16777216 + k ≤ m → Most nodes (next.Node n) m
  by_write : (n k m : ℕ) (line : Line) (body : ℕ) (behind : Next) → slice_get nodes n ≡ Some (node.Write line body behind) → Most nodes behind k → 16777216 + k ≤ m → Most nodes (next.Node n) m

-- At most k iterations come in this region and all behind it.
pub data MostOf (nodes : List Node) : Next → ℕ → Type 0 where
  by_end : (k : ℕ) → MostOf nodes next.End k
  by_region : (n each rest k : ℕ) (header : Header) (items leave : Next) → slice_get nodes n ≡ Some (node.Region header items leave) → Most nodes items each → MostOf nodes leave rest → 16777216 * each + rest ≤ k → MostOf nodes (next.Node n) k

abbrev pub MostAt : List Node → At → ℕ → Type 0
MostAt nodes (at.Before next) k = Most nodes next k
MostAt nodes (at.Inside i) k = (rest : ℕ) × (i.turning.trips - i.turning.turn + rest ≤ k) × Most nodes i.next rest

-- With the iterations that a cursor has passed and those that may come, there are at most 2^60: outside of the regions, and
-- in the region that was entered.
pub data HasRoom (c : Cursor) : Type 0 where
  outside : (here : Next) (rest : ℕ) → c.at ≡ at.Before here → MostOf c.nodes here rest → c.next + rest ≤ 2 ^ 60 → HasRoom c
  within : (here each rest : ℕ) → MostAt c.nodes c.at here → Most c.nodes c.region.items each → MostOf c.nodes c.region.leave rest
      → c.next + here + ((c.region.turning.trips - c.region.turning.turn) * each + rest) ≤ 2 ^ 60 → HasRoom c
