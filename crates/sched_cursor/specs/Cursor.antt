-- A cursor, as plain data: its script, where it stands, the region that was entered, the scalars, and how many iterations
-- were passed. `drains` tells of each node of the script whether it is a drain. `names` has 32 places: by their numbers,
-- the names of the scheduler's scalars.
use Rattle.std.specs.Prelude.{ℕ, ℤ, Bool, Option, List}
use Rattle.sched_cursor.specs.declared.node.Next.{Next}
use Rattle.sched_cursor.specs.declared.node.Node.{Node}
use Rattle.sched_cursor.specs.declared.node.Region.{Region}
use Rattle.sched_cursor.specs.declared.node.At.{At}
use Rattle.sched_cursor.specs.declared.node.At.TheVariants as at

pub record Cursor : Type 0 where
  pub nodes : List Node
  pub drains : List Bool
  pub entry : Next
  pub at : At
  pub region : Region
  pub scalars : List ℤ
  pub names : List (Option ℕ)
  pub next : ℕ

abbrev pub standing : Cursor → Next → Cursor
standing c next = record c { at = at.Before next }
