-- Numbers and names need no code; any other value is in a temporary.
use Rattle.std.proofs.Common.{◌≡◌, ℕ, ◌<◌, ℤ, Bool, true, false, Option, Some, None, List, refl, sym, ap, ◌∙◌, subst}
use Rattle.std.specs.Prelude.{IsTrue, is_some, nat_lt, ◌&&◌}
use Rattle.std.proofs.lemmas.Bool.{ltb-true}
use Rattle.nest_syntax.specs.declared.names.Line.{Line}
use Rattle.nest_syntax.specs.declared.operators.Bin.{Bin}
use Rattle.nest_syntax.specs.declared.operators.Un.{Un}
use Rattle.nest_syntax.specs.declared.tree.Expr.TheVariants as expr
use Rattle.nest_syntax.specs.declared.tree.Expr.TheVariants.{rolls-Word, rolls-Unary, rolls-Binary, rolls-Choice}
use Rattle.nest_syntax.specs.declared.tree.Expr.{Expr, roll-Expr, out-Expr, roll-out-Expr}
use Rattle.nest_syntax.specs.declared.tree.Expr.TheOpen.{Expr-F}
use Rattle.nest_syntax.specs.declared.tree.Expr.TheFolds.{map-Expr, fold-roll-Expr}
use Rattle.nest_syntax.specs.declared.tree.Program.{Program}
use Rattle.nest_syntax.specs.Arrays.{arrays_of}
use Rattle.nest_syntax.specs.Value.{scalar_at}
use Rattle.nest_syntax.specs.Turn.{Turn, Reckoning, reckoning, reckoning_node}
use Rattle.task_hop.specs.declared.frame.Frame.{Frame}
use Rattle.task_hop.specs.declared.frame.Register.{Register}
use Rattle.task_hop.specs.declared.frame.Register.TheVariants as register
use Rattle.task_hop.specs.declared.frame.Operand.{Operand}
use Rattle.task_hop.specs.declared.frame.Operand.TheVariants as operand
use Rattle.task_hop.specs.Registers.{value_of}
use Rattle.task_code.specs.Ready.{register_of, operand_in, operand_node, operand_of, leaf_node, is_leaf, ready_node, expr_ready}
use Rattle.task_code.specs.Compiled.{Holds}

module _ (program : Program) (locals : List ℕ) (into : ℕ) where
  -- a name with a register has its value there
  pub name_is : (name : ℕ) → IsTrue (is_some (register_of program locals name)) → (scalars : List ℤ) (frame : Frame) (go : ℤ → Turn) → Holds program locals scalars frame
      → go (scalar_at scalars name) ≡ go (value_of frame (operand_in (register_of program locals name)))
  name_is name ready scalars frame go holds = by (register_of program locals name) refl ready where
    by : (r : Option Register) → register_of program locals name ≡ r → IsTrue (is_some r) → go (scalar_at scalars name) ≡ go (value_of frame (operand_in r))
    by None e absent = cc
    by (Some r) e there = ap go (sym (holds.values name r e))

  abbrev pub IsHere : Reckoning → Operand → Type 0
  IsHere f value = (line : Line) (scalars : List ℤ) (frame : Frame) (go : ℤ → Turn) → Holds program locals scalars frame → f line scalars go ≡ go (value_of frame value)

  here_at : (e : Expr-F Expr) → leaf_node (map-Expr Expr Bool is_leaf e) ≡ true → IsTrue (ready_node program locals (map-Expr Expr (ℕ → Bool) (expr_ready program locals) e) into)
      → IsHere (reckoning_node (arrays_of program.decls) (map-Expr Expr Reckoning (reckoning (arrays_of program.decls)) e)) (operand_node program locals into (map-Expr Expr Operand (operand_of program locals into) e))
  here_at (Expr-F.Number n) leaf ready line scalars frame go holds = refl
  here_at (Expr-F.Scalar name) leaf ready line scalars frame go holds = name_is name ready scalars frame go holds
  here_at (Expr-F.Word array place) leaf ready line scalars frame go holds = cc
  here_at (Expr-F.Unary op part) leaf ready line scalars frame go holds = cc
  here_at (Expr-F.Binary op left right) leaf ready line scalars frame go holds = cc
  here_at (Expr-F.Choice test first second) leaf ready line scalars frame go holds = cc

  there_at : (e : Expr-F Expr) → leaf_node (map-Expr Expr Bool is_leaf e) ≡ false
      → operand_node program locals into (map-Expr Expr Operand (operand_of program locals into) e) ≡ operand.Held (register.Temporary into)
  there_at (Expr-F.Number n) branch = cc
  there_at (Expr-F.Scalar name) branch = cc
  there_at (Expr-F.Word array place) branch = refl
  there_at (Expr-F.Unary op part) branch = refl
  there_at (Expr-F.Binary op left right) branch = refl
  there_at (Expr-F.Choice test first second) branch = refl

  abbrev pub Rolled : Expr → Type 0
  Rolled e = (is_leaf e ≡ true → IsTrue (expr_ready program locals e into) → IsHere (reckoning (arrays_of program.decls) e) (operand_of program locals into e))
      × (is_leaf e ≡ false → operand_of program locals into e ≡ operand.Held (register.Temporary into))

  rolled : (e : Expr-F Expr) → Rolled (roll-Expr e)
  rolled e =
      let f = fold-roll-Expr Reckoning (reckoning_node (arrays_of program.decls)) e in
      let o = fold-roll-Expr Operand (operand_node program locals into) e in
      let l = fold-roll-Expr Bool leaf_node e in
      let r = fold-roll-Expr (ℕ → Bool) (ready_node program locals) e in (
        (λ leaf ready. subst (λ g. IsHere g (operand_of program locals into (roll-Expr e))) (sym f)
            (subst (λ v. IsHere (reckoning_node (arrays_of program.decls) (map-Expr Expr Reckoning (reckoning (arrays_of program.decls)) e)) v) (sym o)
            (here_at e (sym l ∙ leaf) (subst (λ (g : ℕ → Bool). IsTrue (g into)) r ready)))),
        (λ branch. o ∙ there_at e (sym l ∙ branch)),
      )

  pub leaf_or_not : (e : Expr) → Rolled e
  leaf_or_not e = subst Rolled (roll-out-Expr e) (rolled (out-Expr e))

  both_left : (a b : Bool) → IsTrue (a && b) → IsTrue a
  both_left true b both = refl
  both_left false b both = both

  few_at : (e : Expr-F Expr) → leaf_node (map-Expr Expr Bool is_leaf e) ≡ false → IsTrue (ready_node program locals (map-Expr Expr (ℕ → Bool) (expr_ready program locals) e) into) → into < 32
  few_at (Expr-F.Number n) branch ready = cc
  few_at (Expr-F.Scalar name) branch ready = cc
  few_at (Expr-F.Word array place) branch ready = ltb-true into 32 (both_left (nat_lt into 32) _ ready)
  few_at (Expr-F.Unary op part) branch ready = ltb-true into 32 (both_left (nat_lt into 32) _ ready)
  few_at (Expr-F.Binary op left right) branch ready = ltb-true into 32 (both_left (nat_lt into 32) _ ready)
  few_at (Expr-F.Choice test first second) branch ready = ltb-true into 32 (both_left (nat_lt into 32) _ ready)

  abbrev pub HasFew : Expr → Type 0
  HasFew e = is_leaf e ≡ false → IsTrue (expr_ready program locals e into) → into < 32

  -- an expression that needs a temporary has one
  pub has_few : (e : Expr) → HasFew e
  has_few e = subst HasFew (roll-out-Expr e) (λ branch ready. few_at (out-Expr e) (sym (fold-roll-Expr Bool leaf_node (out-Expr e)) ∙ branch)
      (subst (λ (g : ℕ → Bool). IsTrue (g into)) (fold-roll-Expr (ℕ → Bool) (ready_node program locals) (out-Expr e)) ready))

  both_right : (a b : Bool) → IsTrue (a && b) → IsTrue b
  both_right true b both = both
  both_right false b both = cc

  pub choice_ready : (test first second : Expr) → IsTrue (expr_ready program locals (expr.Choice test first second) into) → IsTrue (expr_ready program locals first into) × IsTrue (expr_ready program locals second into)
  choice_ready test first second ready =
      let is : expr_ready program locals (expr.Choice test first second) into ≡ (nat_lt into 32 && (expr_ready program locals test into && (expr_ready program locals first into && expr_ready program locals second into))) =
      ap (λ e. expr_ready program locals e into) (sym (rolls-Choice test first second)) ∙ ap (λ (g : ℕ → Bool). g into) (fold-roll-Expr (ℕ → Bool) (ready_node program locals) (Expr-F.Choice test first second)) in
      let both : IsTrue (expr_ready program locals first into && expr_ready program locals second into) = both_right (expr_ready program locals test into) _ (both_right (nat_lt into 32) _ (sym is ∙ ready)) in
      (both_left (expr_ready program locals first into) _ both, both_right (expr_ready program locals first into) _ both)

pub leaf-word : (name : ℕ) (place : Expr) → is_leaf (expr.Word name place) ≡ false
leaf-word name place = ap is_leaf (sym (rolls-Word name place)) ∙ fold-roll-Expr Bool leaf_node (Expr-F.Word name place)

pub leaf-unary : (o : Un) (part : Expr) → is_leaf (expr.Unary o part) ≡ false
leaf-unary o part = ap is_leaf (sym (rolls-Unary o part)) ∙ fold-roll-Expr Bool leaf_node (Expr-F.Unary o part)

pub leaf-binary : (o : Bin) (left right : Expr) → is_leaf (expr.Binary o left right) ≡ false
leaf-binary o left right = ap is_leaf (sym (rolls-Binary o left right)) ∙ fold-roll-Expr Bool leaf_node (Expr-F.Binary o left right)

pub leaf-choice : (test first second : Expr) → is_leaf (expr.Choice test first second) ≡ false
leaf-choice test first second = ap is_leaf (sym (rolls-Choice test first second)) ∙ fold-roll-Expr Bool leaf_node (Expr-F.Choice test first second)
