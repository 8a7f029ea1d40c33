-- The texts of the tree, as equations at each kind of node.
use Rattle.std.proofs.Common.{◌≡◌, ℕ, ℤ, Bool, List, ◌++◌, map, codes, rules}
use Rattle.std.specs.Fmt.{signed_decimal}
use Rattle.nest_syntax.specs.declared.names.Line.{Line}
use Rattle.nest_syntax.specs.declared.operators.Un.{Un}
use Rattle.nest_syntax.specs.declared.operators.Bin.{Bin}
use Rattle.nest_syntax.specs.declared.operators.Op.{Op}
use Rattle.nest_syntax.specs.declared.tree.Expr.{Expr}
use Rattle.nest_syntax.specs.declared.tree.Expr.TheVariants as expr
use Rattle.nest_syntax.specs.declared.tree.Expr.TheFolds.{the_lemmas}
use Rattle.nest_syntax.specs.declared.tree.Arm.{Arm}
use Rattle.nest_syntax.specs.declared.tree.Stmt.{Stmt}
use Rattle.nest_syntax.specs.declared.tree.Stmt.TheVariants as stmt
use Rattle.nest_syntax.specs.declared.tree.Stmt.TheFolds.{the_lemmas as the_stmt_lemmas}
use Rattle.nest_syntax.specs.declared.tree.Loop.{Loop}
use Rattle.nest_print.specs.declared.print.Standing.{Standing}
use Rattle.nest_print.specs.declared.print.Standing.TheVariants.{Alone, Operand}
use Rattle.nest_print.specs.Canonical.{expr_text, name_text, word_text, enclosed, is_unary_enclosed, is_binary_enclosed, is_choice_enclosed, unary_text, binary_text, assignment_text, statement_text, one_arm_text, region_text, arms_text, other_text, block_text, bounds_text, step_text}

module _ (names : List (List ℕ)) where
  pub number_text : (z : ℤ) (standing : Standing) → expr_text names (expr.Number z) standing ≡ signed_decimal z
  number_text z standing = search (rules, the_lemmas)

  pub scalar_text : (n : ℕ) (standing : Standing) → expr_text names (expr.Scalar n) standing ≡ name_text names n
  scalar_text n standing = search (rules, the_lemmas)

  pub read_text : (n : ℕ) (e : Expr) (standing : Standing) → expr_text names (expr.Word n e) standing ≡ word_text (name_text names n) (expr_text names e Alone)
  read_text n e standing = search (rules, the_lemmas)

  pub signed_text : (o : Un) (e : Expr) (standing : Standing) → expr_text names (expr.Unary o e) standing ≡ enclosed (is_unary_enclosed standing) (unary_text o ++ expr_text names e Operand)
  signed_text o e standing = search (rules, the_lemmas)

  pub joined_text : (o : Bin) (a b : Expr) (standing : Standing) → expr_text names (expr.Binary o a b) standing ≡ enclosed (is_binary_enclosed standing o) (expr_text names a Operand ++ binary_text o ++ expr_text names b Operand)
  joined_text o a b standing = search (rules, the_lemmas)

  pub choice_text : (c a b : Expr) (standing : Standing) → expr_text names (expr.Choice c a b) standing
      ≡ enclosed (is_choice_enclosed standing) (expr_text names c Operand ++ codes " ? " ++ expr_text names a Operand ++ codes " : " ++ expr_text names b Operand)
  choice_text c a b standing = search (rules, the_lemmas)

  pub declare_text : (line : Line) (n : ℕ) (e : Expr) (indent : List ℕ) → statement_text names (stmt.Declare line n e) indent
      ≡ indent ++ codes "long " ++ name_text names n ++ codes " = " ++ expr_text names e Alone ++ codes ";\n"
  declare_text line n e indent = search (rules, the_stmt_lemmas)

  pub assign_text : (line : Line) (n : ℕ) (o : Op) (e : Expr) (indent : List ℕ) → statement_text names (stmt.Assign line n o e) indent
      ≡ indent ++ name_text names n ++ assignment_text o ++ expr_text names e Alone ++ codes ";\n"
  assign_text line n o e indent = search (rules, the_stmt_lemmas)

  pub write_text : (line : Line) (n : ℕ) (p : Expr) (o : Op) (e : Expr) (indent : List ℕ) → statement_text names (stmt.Write line n p o e) indent
      ≡ indent ++ word_text (name_text names n) (expr_text names p Alone) ++ assignment_text o ++ expr_text names e Alone ++ codes ";\n"
  write_text line n p o e indent = search (rules, the_stmt_lemmas)

  pub if_text : (arms : List Arm) (other : List Stmt) (indent : List ℕ) → statement_text names (stmt.If arms other) indent
      ≡ indent ++ arms_text indent (map (one_arm_text names) arms) ++ other_text indent (map (statement_text names) other) ++ codes "\n"
  if_text arms other indent = search (rules, the_stmt_lemmas)

  pub inner_text : (l : Loop) (indent : List ℕ) → statement_text names (stmt.Loop l) indent ≡ region_text names l indent
  inner_text l indent = search (rules, the_stmt_lemmas)

  pub tested_text : (line : Line) (e : Expr) (body : List Stmt) (indent : List ℕ) → one_arm_text names (record { line = line; test = e; body = body }) indent
      ≡ codes "if (" ++ expr_text names e Alone ++ codes ") " ++ block_text indent (map (statement_text names) body)
  tested_text line e body indent = search (rules, the_stmt_lemmas)

  pub turns_text : (line : Line) (n : ℕ) (low high : Expr) (through : Bool) (step : ℕ) (body : List Stmt) (indent : List ℕ)
      → region_text names (record { line = line; name = n; low = low; high = high; through = through; step = step; body = body }) indent
      ≡ indent ++ codes "for (" ++ bounds_text names n low through high ++ name_text names n ++ step_text step ++ codes ") " ++ block_text indent (map (statement_text names) body) ++ codes "\n"
  turns_text line n low high through step body indent = search (rules, the_stmt_lemmas)
