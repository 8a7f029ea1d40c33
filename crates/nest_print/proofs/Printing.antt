-- The texts of the longest pieces, put together from what is written one after another.
use Rattle.std.proofs.Common.{◌≡◌, ℕ, Bool, true, false, List, [], ◌++◌, map, sym, ◌∙◌, ap, codes, append_assoc}
use Rattle.std.specs.Prelude.{if◌then◌else◌}
use Rattle.std.proofs.lemmas.List.{append-nil}
use Rattle.nest_print.specs.declared.print.Standing.{Standing}
use Rattle.nest_print.specs.declared.print.Standing.TheVariants.{Operand}
use Rattle.nest_syntax.specs.declared.tree.Expr.{Expr}
use Rattle.nest_syntax.specs.declared.tree.Expr.TheVariants as expr
use Rattle.nest_syntax.specs.declared.tree.Arm.{Arm}
use Rattle.nest_syntax.specs.declared.tree.Stmt.{Stmt}
use Rattle.nest_syntax.specs.declared.tree.Stmt.TheVariants as stmt
use Rattle.nest_print.specs.Canonical.{expr_text, is_choice_enclosed, enclosed, arms_text, other_text, one_arm_text, statement_text}
use Rattle.nest_print.proofs.Shown.{choice_text, if_text}

in_brackets : (b : Bool) (o x : List ℕ) → ((o ++ (if b then codes "(" else [])) ++ x) ++ (if b then codes ")" else []) ≡ o ++ enclosed b x
in_brackets true o x = simp append_assoc
in_brackets false o x = append-nil ((o ++ []) ++ x) ∙ ap (λ y. y ++ x) (append-nil o)

five : (o a b c d e : List ℕ) → ((((o ++ a) ++ b) ++ c) ++ d) ++ e ≡ o ++ (a ++ b ++ c ++ d ++ e)
five o a b c d e = simp append_assoc

pub choice_shown : (names : List (List ℕ)) {t f s t' f' s' : Expr} (standing : Standing) {b : Bool} (o : List ℕ) {o1 o2 o3 o4 o5 o6 o7 : List ℕ} → b ≡ is_choice_enclosed standing → o1 ≡ o ++ (if b then codes "(" else [])
    → t' ≡ t → o2 ≡ o1 ++ expr_text names t' Operand → o3 ≡ o2 ++ codes " ? " → f' ≡ f → o4 ≡ o3 ++ expr_text names f' Operand → o5 ≡ o4 ++ codes " : " → s' ≡ s → o6 ≡ o5 ++ expr_text names s' Operand
    → o7 ≡ o6 ++ (if b then codes ")" else []) → o7 ≡ o ++ expr_text names (expr.Choice t f s) standing
choice_shown names {t} {f} {s} {t'} {f'} {s'} standing {b} o {o1} {o2} {o3} {o4} {o5} {o6} {o7} eb e1 et e2 e3 ef e4 e5 es e6 e7 =
    let body : o6 ≡ o1 ++ (expr_text names t Operand ++ codes " ? " ++ expr_text names f Operand ++ codes " : " ++ expr_text names s Operand) =
    rw (e6, e5, e4, e3, e2, et, ef, es) (five o1 (expr_text names t Operand) (codes " ? ") (expr_text names f Operand) (codes " : ") (expr_text names s Operand)) in
    e7 ∙ (ap (λ x. x ++ (if b then codes ")" else [])) (body ∙ ap (λ x. x ++ (expr_text names t Operand ++ codes " ? " ++ expr_text names f Operand ++ codes " : " ++ expr_text names s Operand)) e1)
    ∙ (in_brackets b o (expr_text names t Operand ++ codes " ? " ++ expr_text names f Operand ++ codes " : " ++ expr_text names s Operand)
    ∙ (ap (λ x. o ++ enclosed x (expr_text names t Operand ++ codes " ? " ++ expr_text names f Operand ++ codes " : " ++ expr_text names s Operand)) eb ∙ ap (λ x. o ++ x) (sym (choice_text names t f s standing)))))

pub if_shown : (names : List (List ℕ)) {arms arms' : List Arm} {other other' : List Stmt} (indent o : List ℕ) {o1 o2 o3 o4 : List ℕ} → o1 ≡ o ++ indent → arms' ≡ arms
    → o2 ≡ o1 ++ arms_text indent (map (one_arm_text names) arms') → other' ≡ other → o3 ≡ o2 ++ other_text indent (map (statement_text names) other') → o4 ≡ o3 ++ codes "\n"
    → o4 ≡ o ++ statement_text names (stmt.If arms other) indent
if_shown names {arms} {arms'} {other} {other'} indent o e1 ea e2 eo e3 e4 = rw (if_text names arms other indent) (rw (e4, e3, e2, e1, ea, eo) (simp append_assoc))
