-- Programs that are the same but for their lines.
use Rattle.std.specs.Prelude.{◌≡◌, ℕ, List, map}
use Rattle.nest_syntax.specs.declared.names.Line.{Line}
use Rattle.nest_syntax.specs.declared.tree.Arm.{Arm}
use Rattle.nest_syntax.specs.declared.tree.Stmt.{Stmt}
use Rattle.nest_syntax.specs.declared.tree.Stmt.TheVariants as stmt
use Rattle.nest_syntax.specs.declared.tree.Stmt.TheOpen.{Stmt-F, Arm-F, Loop-F}
use Rattle.nest_syntax.specs.declared.tree.Stmt.TheFolds.{fold-Stmt, fold-Arm, fold-Loop}
use Rattle.nest_syntax.specs.declared.tree.Loop.{Loop}
use Rattle.nest_syntax.specs.declared.tree.Decl.{Decl}
use Rattle.nest_syntax.specs.declared.tree.Decl.TheVariants as decl
use Rattle.nest_syntax.specs.declared.tree.Program.{Program}
use Rattle.nest_lex.specs.Text.{AreTokens}
use Rattle.nest_lex.specs.declared.token.Tokens.{Tokens}
use Rattle.nest_parse.specs.Grammar.{Derives}

-- the line of all that has no line
abbrev pub no_line : Line
no_line = record { 0 = 0 }

-- A statement, an arm and a loop without lines: at one layer, whose statements have none.
abbrev pub unplaced : Stmt-F Stmt Arm Loop → Stmt
unplaced (Stmt-F.Declare line n value) = stmt.Declare no_line n value
unplaced (Stmt-F.Assign line n o value) = stmt.Assign no_line n o value
unplaced (Stmt-F.Write line n place o value) = stmt.Write no_line n place o value
unplaced (Stmt-F.If arms other) = stmt.If arms other
unplaced (Stmt-F.Loop inner) = stmt.Loop inner

abbrev pub unplaced_arm : Arm-F Stmt Arm Loop → Arm
unplaced_arm arm = record { line = no_line; test = arm.test; body = arm.body }

abbrev pub unplaced_loop : Loop-F Stmt Arm Loop → Loop
unplaced_loop head = record { line = no_line; name = head.name; low = head.low; high = head.high; through = head.through; step = head.step; body = head.body }

abbrev pub stmt_without_lines : Stmt → Stmt
stmt_without_lines = fold-Stmt Stmt Arm Loop unplaced unplaced_arm unplaced_loop

abbrev pub arm_without_lines : Arm → Arm
arm_without_lines = fold-Arm Stmt Arm Loop unplaced unplaced_arm unplaced_loop

abbrev pub loop_without_lines : Loop → Loop
loop_without_lines = fold-Loop Stmt Arm Loop unplaced unplaced_arm unplaced_loop

abbrev pub decl_without_line : Decl → Decl
decl_without_line (decl.Array line n length fixed) = decl.Array no_line n length fixed
decl_without_line (decl.Scalar line n value) = decl.Scalar no_line n value

-- Two programs are the same but for their lines. Each name has the same number in both.
pub record IsSame (program other : Program) : Type 0 where
  pub names : program.names ≡ other.names
  pub decls : map decl_without_line program.decls ≡ map decl_without_line other.decls
  pub regions : map loop_without_lines program.regions ≡ map loop_without_lines other.regions

-- Some text spells the program: its tokens derive it.
pub record IsSpelled (program : Program) : Type 0 where
  pub text : List ℕ
  pub tokens : Tokens
  pub are : AreTokens text tokens
  pub derives : Derives tokens program

-- These tokens derive a program that is the same.
pub record ComesBack (program : Program) (tokens : Tokens) : Type 0 where
  pub back : Program
  pub derives : Derives tokens back
  pub same : IsSame program back
