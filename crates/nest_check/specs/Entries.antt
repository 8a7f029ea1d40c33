-- The statements of a body and the scalars of the scheduler, as the rules on their number see them.
use Rattle.std.specs.Prelude.{List, [], ◌∷◌, ◌++◌}
use Rattle.std.specs.List.{flat_map}
use Rattle.nest_syntax.specs.declared.tree.Loop.{Loop}
use Rattle.nest_syntax.specs.declared.tree.Arm.{Arm}
use Rattle.nest_syntax.specs.declared.tree.Stmt.{Stmt}
use Rattle.nest_syntax.specs.declared.tree.Stmt.TheOpen.{Stmt-F, Arm-F, Loop-F}
use Rattle.nest_syntax.specs.declared.tree.Stmt.TheFolds.{fold-Stmt, fold-Arm, fold-Loop}
use Rattle.nest_syntax.specs.declared.tree.Program.{Program}
use Rattle.nest_syntax.specs.declared.tree.Decl.{Decl}
use Rattle.nest_syntax.specs.declared.tree.Decl.TheVariants as decl
use Rattle.nest_syntax.specs.Shape.{Declaration, Entry, Plain, Declares, items_of, declarations_in}

-- one layer of the statements of a body: each statement, and behind an `if` or a loop what it holds
abbrev pub statements_node : Stmt-F (List Entry) (List Entry) (List Entry) → List Entry
statements_node (Stmt-F.Declare line name value) = Declares (name, line) ∷ []
statements_node (Stmt-F.Assign line name op value) = Plain ∷ []
statements_node (Stmt-F.Write line array place op value) = Plain ∷ []
statements_node (Stmt-F.If arms other) = Plain ∷ flat_map (λ (entries : List Entry). entries) arms ++ flat_map (λ (entries : List Entry). entries) other
statements_node (Stmt-F.Loop l) = l

abbrev pub arm_statements_node : Arm-F (List Entry) (List Entry) (List Entry) → List Entry
arm_statements_node arm = flat_map (λ (entries : List Entry). entries) arm.body

-- a loop declares its variable
abbrev pub loop_statements_node : Loop-F (List Entry) (List Entry) (List Entry) → List Entry
loop_statements_node l = Declares (l.name, l.line) ∷ flat_map (λ (entries : List Entry). entries) l.body

-- a statement of a body and all that it holds
abbrev pub statements : Stmt → List Entry
statements = fold-Stmt (List Entry) (List Entry) (List Entry) statements_node arm_statements_node loop_statements_node

abbrev pub statements_in_arm : Arm → List Entry
statements_in_arm = fold-Arm (List Entry) (List Entry) (List Entry) statements_node arm_statements_node loop_statements_node

abbrev pub statements_in_loop : Loop → List Entry
statements_in_loop = fold-Loop (List Entry) (List Entry) (List Entry) statements_node arm_statements_node loop_statements_node

-- the statements of a body, an `if` and a loop counted as one besides what they hold
abbrev pub statements_of : List Stmt → List Entry
statements_of stmts = flat_map statements stmts

-- the scalars that are declared before the regions
abbrev pub scalars_in : List Decl → List Declaration
scalars_in [] = []
scalars_in (decl.Array line name length fixed ∷ decls) = scalars_in decls
scalars_in (decl.Scalar line name value ∷ decls) = (name, line) ∷ scalars_in decls

-- the scalars of a region: its variable, and those that are declared among its items
abbrev pub scalars_in_region : Loop → List Declaration
scalars_in_region region = (region.name, region.line) ∷ declarations_in (items_of region.body)

-- the declarations of scheduler scalars, in textual order
abbrev pub scheduler_scalars : Program → List Declaration
scheduler_scalars program = scalars_in program.decls ++ flat_map scalars_in_region program.regions
