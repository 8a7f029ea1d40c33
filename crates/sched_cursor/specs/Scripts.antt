-- No caller needs this. How a script carries out the items of a program: from a number of it on its nodes are followed as
-- the item's events are, before whatever comes behind.
use Rattle.std.specs.Prelude.{◌≡◌, ℕ, ◌+◌, ◌*◌, ℤ, Some, List, map, length, slice_get}
use Rattle.nest_syntax.specs.declared.tree.Loop.{Loop}
use Rattle.nest_syntax.specs.declared.tree.Stmt.{Stmt}
use Rattle.nest_syntax.specs.Course.{Course, Setting, Item, in_order, item_of}
use Rattle.settle_law.specs.Courses.{Nest, Follows}
use Rattle.sched_cursor.specs.declared.node.Next.{Next}
use Rattle.sched_cursor.specs.declared.node.Header.{Header}
use Rattle.sched_cursor.specs.declared.node.Node.{Node}
use Rattle.sched_cursor.specs.declared.node.At.TheVariants as at
use Rattle.sched_cursor.specs.Cursor.{Cursor}
use Rattle.sched_cursor.specs.Events.{plain_event_at}
use Rattle.sched_cursor.specs.Rooms.{Most, MostOf}
use Rattle.sched_cursor.specs.Doings.{Doing, Naming, runs, AreTold, NodesTell}

-- what stands in a script stands in a longer one
abbrev pub Keeps : List Node → List Node → Type 0
Keeps nodes more = (n : ℕ) (this : Node) → slice_get nodes n ≡ Some this → slice_get more n ≡ Some this

-- A cursor follows a course that is left. What it hands out at an iteration is the iteration's body and scalars.
abbrev pub FollowsIn : Setting → Nest → Cursor → Course → Type 0
FollowsIn setting nest c left = Follows nest (λ (b : ℕ × List ℤ). b) (plain_event_at setting.arrays setting.words) c left

-- whatever stands at `next` behind a cursor follows the rest of a course, in the same region
abbrev pub Leads : Setting → Nest → Cursor → Next → (List ℤ → Course) → Type 0
Leads setting nest c next go = (later : Cursor) → later.nodes ≡ c.nodes → later.region ≡ c.region → later.at ≡ at.Before next → FollowsIn setting nest later (go later.scalars)

-- an item whose first body has the number `first` stands from `start` on, before what stands at `next`
abbrev pub Enacts : List Node → (Setting → Item) → ℕ → Next → Next → Type 0
Enacts nodes item first next start = (setting : Setting) (nest : Nest) (c : Cursor) → Keeps nodes c.nodes → c.at ≡ at.Before start → (go : List ℤ → Course)
    → Leads setting nest c next go → FollowsIn setting nest c ((item setting).events first c.scalars go)

-- a region as an item: behind it another region may be entered
abbrev pub EnactsRegion : List Node → (Setting → Item) → ℕ → Next → Next → Type 0
EnactsRegion nodes item first next start = (setting : Setting) (nest : Nest) (c : Cursor) → Keeps nodes c.nodes → c.at ≡ at.Before start → (go : List ℤ → Course)
    → ((later : Cursor) → later.nodes ≡ c.nodes → later.at ≡ at.Before next → FollowsIn setting nest later (go later.scalars))
    → FollowsIn setting nest c ((item setting).events first c.scalars go)

-- the header of a loop, as a script keeps it
abbrev pub header_of : Loop → Header
header_of l = record { line = l.line; name = l.name; low = l.low; high = l.high; through = l.through; step = l.step }

-- the items of a block, in order
abbrev pub block_of : List Stmt → Setting → Item
block_of stmts setting = in_order (map (item_of setting) stmts)

-- An item was put in front of a script, in which these things are done. `first` is the number of the body that stands first
-- behind it, and then in it.
pub record Puts (nodes : List Node) (first : ℕ) (nodes' : List Node) (first' : ℕ) (item : Setting → Item) (does : List Doing) (next start : Next) : Type 0 where
  pub keeps : Keeps nodes nodes'
  pub counts : (setting : Setting) → first' + length (item setting).bodies ≡ first
  pub ran : first' + runs does ≡ first
  pub tells : (naming : Naming) → AreTold naming first' does → NodesTell naming nodes → NodesTell naming nodes'
  pub room : (longer : List Node) → Keeps nodes' longer → (k : ℕ) → Most longer next k → Most longer start (16777216 * runs does + k)
  pub enacts : Enacts nodes' item first' next start

pub record PutsRegion (nodes : List Node) (first : ℕ) (nodes' : List Node) (first' : ℕ) (item : Setting → Item) (does : List Doing) (next start : Next) : Type 0 where
  pub keeps : Keeps nodes nodes'
  pub counts : (setting : Setting) → first' + length (item setting).bodies ≡ first
  pub ran : first' + runs does ≡ first
  pub tells : (naming : Naming) → AreTold naming first' does → NodesTell naming nodes → NodesTell naming nodes'
  pub room : (longer : List Node) → Keeps nodes' longer → (k : ℕ) → MostOf longer next k → MostOf longer start (281474976710656 * runs does + k)
  pub enacts : EnactsRegion nodes' item first' next start
