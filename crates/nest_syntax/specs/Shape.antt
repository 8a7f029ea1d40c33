-- The shape of a program. A loop at depth 1 is a region, and its statements, also inside its `if`s, are its items. A loop
-- among the items invokes its body; an array statement among them is a body by itself. The other items, declarations,
-- assignments and `if`s, belong to the scheduler, and loops inside a body belong to the body.
use Rattle.std.specs.Prelude.{ℕ, Option, Some, None, List, [], ◌∷◌, ◌++◌, map}
use Rattle.std.specs.List.{flat_map}
use Rattle.nest_syntax.specs.declared.names.Line.{Line}
use Rattle.nest_syntax.specs.declared.tree.Arm.{Arm}
use Rattle.nest_syntax.specs.declared.tree.Loop.{Loop}
use Rattle.nest_syntax.specs.declared.tree.Stmt.{Stmt}
use Rattle.nest_syntax.specs.declared.tree.Stmt.TheVariants as stmt
use Rattle.nest_syntax.specs.declared.tree.Stmt.TheOpen.{Stmt-F, Arm-F, Loop-F}
use Rattle.nest_syntax.specs.declared.tree.Stmt.TheFolds.{para-Stmt, para-Arm}
use Rattle.nest_syntax.specs.declared.tree.Program.{Program}

-- a declaration: its name and its line
abbrev pub Declaration : Type 0
Declaration = ℕ × Line

-- A body: the line of its invocation, the loop that invokes it, where one does, and its statements.
pub record Body : Type 0 where
  pub line : Line
  pub header : Option Loop
  pub stmts : List Stmt

-- the body that a loop invokes, and an array statement as a body
abbrev pub body_of_loop : Loop → Body
body_of_loop l = record { line = l.line; header = Some l; stmts = l.body }

abbrev pub body_of_write : Line → Stmt → Body
body_of_write line s = record { line = line; header = None; stmts = s ∷ [] }

-- an item, or a statement of a body: it declares a name, it invokes a body, or it does neither
pub data Entry : Type 0 where
  Plain : Entry
  Declares : Declaration → Entry
  Invokes : Body → Entry

-- one layer of the items: each statement, and behind an `if` what it holds
abbrev pub items_node : Stmt-F (Stmt × List Entry) (Arm × List Entry) (Loop × List Entry) → List Entry
items_node (Stmt-F.Declare line name value) = Declares (name, line) ∷ []
items_node (Stmt-F.Assign line name op value) = Plain ∷ []
items_node (Stmt-F.Write line array place op value) = Invokes (body_of_write line (stmt.Write line array place op value)) ∷ []
items_node (Stmt-F.If arms other) = Plain ∷ flat_map (λ (a : Arm × List Entry). a.1) arms ++ flat_map (λ (s : Stmt × List Entry). s.1) other
items_node (Stmt-F.Loop l) = Invokes (body_of_loop l.0) ∷ []

abbrev pub arm_items_node : Arm-F (Stmt × List Entry) (Arm × List Entry) (Loop × List Entry) → List Entry
arm_items_node arm = flat_map (λ (s : Stmt × List Entry). s.1) arm.body

abbrev pub loop_items_node : Loop-F (Stmt × List Entry) (Arm × List Entry) (Loop × List Entry) → List Entry
loop_items_node l = flat_map (λ (s : Stmt × List Entry). s.1) l.body

-- a statement of a region and, where it is an `if`, all items that it holds
abbrev pub items : Stmt → List Entry
items = para-Stmt (List Entry) (List Entry) (List Entry) items_node arm_items_node loop_items_node

abbrev pub items_in_arm : Arm → List Entry
items_in_arm = para-Arm (List Entry) (List Entry) (List Entry) items_node arm_items_node loop_items_node

-- the items of a region, an `if` and its inner items counted each
abbrev pub items_of : List Stmt → List Entry
items_of stmts = flat_map items stmts

-- the declarations among items or statements, in order
abbrev pub declarations_in : List Entry → List Declaration
declarations_in [] = []
declarations_in (Plain ∷ entries) = declarations_in entries
declarations_in (Declares d ∷ entries) = d ∷ declarations_in entries
declarations_in (Invokes b ∷ entries) = declarations_in entries

-- the bodies that are invoked among items, in order
abbrev pub invoked_in : List Entry → List Body
invoked_in [] = []
invoked_in (Plain ∷ entries) = invoked_in entries
invoked_in (Declares d ∷ entries) = invoked_in entries
invoked_in (Invokes b ∷ entries) = b ∷ invoked_in entries

abbrev pub statements_of_each : List Body → List (List Stmt)
statements_of_each bodies = map (λ (b : Body). b.stmts) bodies

-- the statements of each body that is invoked among items
abbrev pub bodies_in : List Entry → List (List Stmt)
bodies_in entries = statements_of_each (invoked_in entries)

abbrev pub invoked_in_region : Loop → List Body
invoked_in_region region = invoked_in (items_of region.body)

-- the bodies of a program in textual order, in which they are numbered from 0
abbrev pub invoked_by : Program → List Body
invoked_by program = flat_map invoked_in_region program.regions

-- the statements of each body of a program
abbrev pub bodies_of : Program → List (List Stmt)
bodies_of program = statements_of_each (invoked_by program)
