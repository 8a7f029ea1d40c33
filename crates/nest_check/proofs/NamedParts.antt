-- The arrays of an expression, one part after another.
use Rattle.std.proofs.Common.{Result, Ok, Err, OnOk, ◌≡◌, ℕ, Bool, true, false, ◌||◌, ◌==◌, List, ◌++◌, refl, sym, ap, ◌∙◌}
use Rattle.std.proofs.lemmas.List.Folds.{list_any-append}
use Rattle.nest_syntax.specs.declared.tree.Expr.{Expr}
use Rattle.nest_syntax.specs.declared.tree.Expr.TheOpen.{Expr-F}
use Rattle.nest_syntax.specs.declared.tree.Expr.TheFolds.{fold-roll-Expr}
use Rattle.nest_syntax.specs.declared.tree.Expr.TheVariants as expr
use Rattle.nest_syntax.specs.declared.tree.Expr.TheVariants.{rolls-Choice}
use Rattle.nest_syntax.specs.Among.{is_among}
use Rattle.nest_check.specs.ChangedBounds.{arrays_in, arrays_node}

pub on_ok : {A E P Q : Type 0} (r : Result A E) → (P → Q) → OnOk r P → OnOk r Q
on_ok (Ok a) f h = f h
on_ok (Err e) f h = h

pub added_three : (old one two three test first second whole : Bool) → one ≡ (old || test) → two ≡ (one || first) → three ≡ (two || second) → whole ≡ (test || (first || second)) → three ≡ (old || whole)
added_three old one two three test first second whole a b c w = c ∙ ap (λ x. x || second) (b ∙ ap (λ x. x || first) a) ∙ regroup old test ∙ ap (λ x. old || x) (sym w)
  where
    regroup : (o t : Bool) → (((o || t) || first) || second) ≡ (o || (t || (first || second)))
    regroup true t = refl
    regroup false true = refl
    regroup false false = refl

pub arrays_of_choice : (test first second : Expr) (name : ℕ) → is_among (arrays_in (expr.Choice test first second)) name ≡ (is_among (arrays_in test) name || (is_among (arrays_in first) name || is_among (arrays_in second) name))
arrays_of_choice test first second name =
    ap (λ names. is_among names name) (ap arrays_in (sym (rolls-Choice test first second)) ∙ fold-roll-Expr (List ℕ) arrays_node (Expr-F.Choice test first second))
    ∙ list_any-append (λ other. name == other) (arrays_in test) (arrays_in first ++ arrays_in second)
    ∙ ap (λ b. is_among (arrays_in test) name || b) (list_any-append (λ other. name == other) (arrays_in first) (arrays_in second))
