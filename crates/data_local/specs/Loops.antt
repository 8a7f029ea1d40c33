-- The loops of a program, at any depth.
use Rattle.std.specs.Prelude.{List, [], ◌∷◌, ◌++◌}
use Rattle.std.specs.List.{flat_map}
use Rattle.nest_syntax.specs.declared.names.Line.{Line}
use Rattle.nest_syntax.specs.declared.tree.Arm.{Arm}
use Rattle.nest_syntax.specs.declared.tree.Loop.{Loop}
use Rattle.nest_syntax.specs.declared.tree.Stmt.{Stmt}
use Rattle.nest_syntax.specs.declared.tree.Stmt.TheOpen.{Stmt-F, Arm-F, Loop-F}
use Rattle.nest_syntax.specs.declared.tree.Stmt.TheFolds.{para-Stmt, para-Arm}
use Rattle.nest_syntax.specs.declared.tree.Program.{Program}

abbrev pub Loops : Type 0
Loops = List Loop

-- one layer of a statement, an arm and a loop, where each part stands beside the loops in it
abbrev pub loops_node : Stmt-F (Stmt × Loops) (Arm × Loops) (Loop × Loops) → Loops
loops_node (Stmt-F.Declare line name value) = []
loops_node (Stmt-F.Assign line name op value) = []
loops_node (Stmt-F.Write line array place op value) = []
loops_node (Stmt-F.If arms other) = flat_map (λ (a : Arm × Loops). a.1) arms ++ flat_map (λ (s : Stmt × Loops). s.1) other
loops_node (Stmt-F.Loop l) = l.0 ∷ l.1

abbrev pub loops_arm_node : Arm-F (Stmt × Loops) (Arm × Loops) (Loop × Loops) → Loops
loops_arm_node arm = flat_map (λ (s : Stmt × Loops). s.1) arm.body

abbrev pub loops_loop_node : Loop-F (Stmt × Loops) (Arm × Loops) (Loop × Loops) → Loops
loops_loop_node l = flat_map (λ (s : Stmt × Loops). s.1) l.body

-- the loops of a statement, at any depth, in the order of the text
abbrev pub loops : Stmt → Loops
loops = para-Stmt Loops Loops Loops loops_node loops_arm_node loops_loop_node

abbrev pub loops_in_arm : Arm → Loops
loops_in_arm = para-Arm Loops Loops Loops loops_node loops_arm_node loops_loop_node

abbrev pub loops_in : List Stmt → Loops
loops_in stmts = flat_map loops stmts

-- all loops of a program, its regions among them
abbrev pub loops_of : Program → Loops
loops_of program = flat_map (λ (region : Loop). region ∷ loops_in region.body) program.regions

-- the line of a loop
abbrev pub line_of : Loop → Line
line_of l = l.line
