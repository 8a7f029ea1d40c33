-- The statements of a statement, an arm and a loop, as equations.
use Rattle.std.proofs.Common.{◌≡◌, ℕ, false, ◌||◌, nat_lt, List, [], ◌∷◌, ◌++◌, length, sym, ap, ◌∙◌}
use Rattle.std.specs.List.{flat_map}
use Rattle.std.proofs.lemmas.List.Folds.{flat_map-map}
use Rattle.nest_syntax.specs.declared.names.Line.{Line}
use Rattle.nest_syntax.specs.declared.operators.Op.{Op}
use Rattle.nest_syntax.specs.declared.tree.Expr.{Expr}
use Rattle.nest_syntax.specs.declared.tree.Arm.{Arm}
use Rattle.nest_syntax.specs.declared.tree.Loop.{Loop}
use Rattle.nest_syntax.specs.declared.tree.Stmt.{Stmt}
use Rattle.nest_syntax.specs.declared.tree.Stmt.TheOpen.{Stmt-F}
use Rattle.nest_syntax.specs.declared.tree.Stmt.TheVariants as stmt
use Rattle.nest_syntax.specs.declared.tree.Stmt.TheVariants.{rolls-Write, rolls-If}
use Rattle.nest_syntax.specs.declared.tree.Stmt.TheFolds.{fold_out-Arm, fold_out-Loop, fold-roll-Stmt}
use Rattle.nest_syntax.specs.Shape.{Entry, Plain, Declares, Invokes, body_of_write, declarations_in}
use Rattle.nest_syntax.specs.Lowest.{lower_if}
use Rattle.nest_check.specs.declared.items.Sizes.{Sizes}
use Rattle.nest_check.specs.Declarations.{first_of_each}
use Rattle.nest_check.specs.Entries.{statements, statements_of, statements_in_arm, statements_in_loop, statements_node, arm_statements_node, loop_statements_node}
use Rattle.nest_check.specs.Rules.{is_large_body}
use Rattle.nest_check.specs.Noted.{passed}

pub statements_in_arm-is : (a : Arm) → statements_in_arm a ≡ statements_of a.body
statements_in_arm-is a = fold_out-Arm (List Entry) (List Entry) (List Entry) statements_node arm_statements_node loop_statements_node a ∙ flat_map-map (λ es. es) statements a.body

pub statements_in_loop-is : (l : Loop) → statements_in_loop l ≡ Declares (l.name, l.line) ∷ statements_of l.body
statements_in_loop-is l =
    fold_out-Loop (List Entry) (List Entry) (List Entry) statements_node arm_statements_node loop_statements_node l
    ∙ ap (λ es. Declares (l.name, l.line) ∷ es) (flat_map-map (λ es. es) statements l.body)

pub statements-if : (arms : List Arm) (other : List Stmt) → statements (stmt.If arms other) ≡ Plain ∷ flat_map statements_in_arm arms ++ statements_of other
statements-if arms other =
    ap statements (sym (rolls-If arms other)) ∙ fold-roll-Stmt (List Entry) (List Entry) (List Entry) statements_node arm_statements_node loop_statements_node (Stmt-F.If arms other)
    ∙ (λ i. Plain ∷ flat_map-map (λ es. es) statements_in_arm arms i ++ flat_map-map (λ es. es) statements other i)

-- an array statement is a body of one statement and no local, which is never too large
write_statements : (line : Line) (name : ℕ) (p : Expr) (o : Op) (e : Expr) → statements (stmt.Write line name p o e) ≡ Plain ∷ []
write_statements line name p o e = ap statements (sym (rolls-Write line name p o e)) ∙ fold-roll-Stmt (List Entry) (List Entry) (List Entry) statements_node arm_statements_node loop_statements_node (Stmt-F.Write line name p o e)

pub write_is_small : (line : Line) (name : ℕ) (p : Expr) (o : Op) (e : Expr) → is_large_body (body_of_write line (stmt.Write line name p o e)) ≡ false
write_is_small line name p o e = ap (λ entries. nat_lt 1024 (length (entries ++ [])) || nat_lt 16 (length (first_of_each (declarations_in (entries ++ []))))) (write_statements line name p o e)

-- so it is passed as an item that invokes nothing
pub write_passed : (sizes : Sizes) (line : Line) (name : ℕ) (p : Expr) (o : Op) (e : Expr) → passed sizes Plain ≡ passed sizes (Invokes (body_of_write line (stmt.Write line name p o e)))
write_passed sizes line name p o e = ap (λ large. record (passed sizes Plain) { bodies = lower_if large sizes.bodies line }) (sym (write_is_small line name p o e))
