-- What a frame holds, as its temporaries change.
use Rattle.std.proofs.Common.{◌≡◌, ◌≢◌, ℕ, ◌+◌, ◌<◌, ◌≤◌, ℤ, pos, Bool, Option, Some, None, List, length, slice_index_or, slice_set, refl, sym, ap, ◌∙◌, subst, arith}
use Rattle.std.proofs.lemmas.List.{get_or-set_same, get_or-set_other, length-set}
use Rattle.nest_syntax.specs.declared.operators.Bin.{Bin}
use Rattle.nest_syntax.specs.declared.operators.Un.{Un}
use Rattle.nest_syntax.specs.declared.tree.Expr.{Expr, roll-Expr, out-Expr, roll-out-Expr}
use Rattle.nest_syntax.specs.declared.tree.Expr.TheOpen.{Expr-F}
use Rattle.nest_syntax.specs.declared.tree.Expr.TheFolds.{map-Expr, fold-roll-Expr}
use Rattle.nest_syntax.specs.declared.tree.Expr.TheVariants as expr
use Rattle.nest_syntax.specs.declared.tree.Expr.TheVariants.{rolls-Number, rolls-Scalar, rolls-Word, rolls-Unary, rolls-Binary, rolls-Choice}
use Rattle.nest_syntax.specs.declared.tree.Program.{Program}
use Rattle.nest_check.specs.Declarations.{index_of_name}
use Rattle.nest_check.specs.Tables.{scalar_of}
use Rattle.task_hop.specs.declared.frame.Frame.{Frame}
use Rattle.task_hop.specs.declared.frame.Register.{Register}
use Rattle.task_hop.specs.declared.frame.Register.TheVariants as register
use Rattle.task_hop.specs.declared.frame.Operand.{Operand}
use Rattle.task_hop.specs.declared.frame.Operand.TheVariants as operand
use Rattle.task_hop.specs.Registers.{held, with_register, value_of}
use Rattle.task_code.specs.Ready.{register_by, register_of, operand_in, operand_node, operand_of}
use Rattle.task_code.specs.Compiled.{Holds, Keeps}

pub temporary_set : (frame : Frame) (n : ℕ) (value : ℤ) → length frame.temps ≡ 32 → n < 32 → held (with_register frame (register.Temporary n) value) (register.Temporary n) ≡ value
temporary_set frame n value many inside = get_or-set_same frame.temps n value (pos 0) (omega (arith, many, inside))

pub keeps_same : (into : ℕ) (frame : Frame) → Keeps into frame frame
keeps_same into frame = record { env = refl; locals = refl; many = refl; temps = λ n below. refl }

pub keeps_then : (into more : ℕ) (frame mid after : Frame) → into ≤ more → Keeps into frame mid → Keeps more mid after → Keeps into frame after
keeps_then into more frame mid after le first second = record {
  env = second.env ∙ first.env;
  locals = second.locals ∙ first.locals;
  many = second.many ∙ first.many;
  temps = λ n below. second.temps n (omega (arith, below, le)) ∙ first.temps n below;
}

pub keeps_set : (into n : ℕ) (frame : Frame) (value : ℤ) → into ≤ n → Keeps into frame (with_register frame (register.Temporary n) value)
keeps_set into n frame value le = record {
  env = refl;
  locals = refl;
  many = length-set frame.temps n value;
  temps = λ k below. get_or-set_other frame.temps n k value (pos 0) (λ same. omega (arith, le, below, same));
}

module _ (program : Program) (locals : List ℕ) where
  -- a register of a name keeps its value
  abbrev StaysHeld : Frame → Frame → Option Register → Type 0
  StaysHeld frame after None = Unit {0}
  StaysHeld frame after (Some r) = held after r ≡ held frame r

  stays_held : (slot number : Option ℕ) (frame after : Frame) → after.env ≡ frame.env → after.locals ≡ frame.locals → StaysHeld frame after (register_by slot number)
  stays_held (Some n) number frame after env same = ap (λ held. slice_index_or held n (pos 0)) same
  stays_held None (Some n) frame after env same = ap (λ held. slice_index_or held n (pos 0)) env
  stays_held None None frame after env same = tt

  pub holds_kept : (into : ℕ) (scalars : List ℤ) (frame after : Frame) → Holds program locals scalars frame → Keeps into frame after → Holds program locals scalars after
  holds_kept into scalars frame after holds keeps = record {
    env = ap length keeps.env ∙ holds.env;
    locals_held = ap length keeps.locals ∙ holds.locals_held;
    temps = keeps.many ∙ holds.temps;
    many = holds.many;
    inside = holds.inside;
    values = λ name r is. subst (StaysHeld frame after) is (stays_held (index_of_name locals name) (scalar_of program name) frame after keeps.env keeps.locals) ∙ holds.values name r is;
  }

  -- the operand of each kind of expression
  module _ (into : ℕ) where
    pub operand-number : (n : ℤ) → operand_of program locals into (expr.Number n) ≡ operand.Number n
    operand-number n = ap (operand_of program locals into) (sym (rolls-Number n)) ∙ fold-roll-Expr Operand (operand_node program locals into) (Expr-F.Number n)

    pub operand-scalar : (name : ℕ) → operand_of program locals into (expr.Scalar name) ≡ operand_in (register_of program locals name)
    operand-scalar name = ap (operand_of program locals into) (sym (rolls-Scalar name)) ∙ fold-roll-Expr Operand (operand_node program locals into) (Expr-F.Scalar name)

    pub operand-word : (name : ℕ) (place : Expr) → operand_of program locals into (expr.Word name place) ≡ operand.Held (register.Temporary into)
    operand-word name place = ap (operand_of program locals into) (sym (rolls-Word name place)) ∙ fold-roll-Expr Operand (operand_node program locals into) (Expr-F.Word name place)

    pub operand-unary : (o : Un) (a : Expr) → operand_of program locals into (expr.Unary o a) ≡ operand.Held (register.Temporary into)
    operand-unary o a = ap (operand_of program locals into) (sym (rolls-Unary o a)) ∙ fold-roll-Expr Operand (operand_node program locals into) (Expr-F.Unary o a)

    pub operand-binary : (o : Bin) (a b : Expr) → operand_of program locals into (expr.Binary o a b) ≡ operand.Held (register.Temporary into)
    operand-binary o a b = ap (operand_of program locals into) (sym (rolls-Binary o a b)) ∙ fold-roll-Expr Operand (operand_node program locals into) (Expr-F.Binary o a b)

    pub operand-choice : (t a b : Expr) → operand_of program locals into (expr.Choice t a b) ≡ operand.Held (register.Temporary into)
    operand-choice t a b = ap (operand_of program locals into) (sym (rolls-Choice t a b)) ∙ fold-roll-Expr Operand (operand_node program locals into) (Expr-F.Choice t a b)

    -- an operand keeps its value where the temporaries up to its own do
    kept_in : (slot number : Option ℕ) (frame after : Frame) → Keeps (into + 1) frame after → value_of after (operand_in (register_by slot number)) ≡ value_of frame (operand_in (register_by slot number))
    kept_in (Some n) number frame after keeps = ap (λ held. slice_index_or held n (pos 0)) keeps.locals
    kept_in None (Some n) frame after keeps = ap (λ held. slice_index_or held n (pos 0)) keeps.env
    kept_in None None frame after keeps = refl

    kept_temporary : (frame after : Frame) → Keeps (into + 1) frame after → held after (register.Temporary into) ≡ held frame (register.Temporary into)
    kept_temporary frame after keeps = keeps.temps into (omega arith)

    kept_at : (e : Expr-F Operand) (frame after : Frame) → Keeps (into + 1) frame after → value_of after (operand_node program locals into e) ≡ value_of frame (operand_node program locals into e)
    kept_at (Expr-F.Number n) frame after keeps = refl
    kept_at (Expr-F.Scalar name) frame after keeps = kept_in (index_of_name locals name) (scalar_of program name) frame after keeps
    kept_at (Expr-F.Word array place) frame after keeps = kept_temporary frame after keeps
    kept_at (Expr-F.Unary op part) frame after keeps = kept_temporary frame after keeps
    kept_at (Expr-F.Binary op left right) frame after keeps = kept_temporary frame after keeps
    kept_at (Expr-F.Choice test first second) frame after keeps = kept_temporary frame after keeps

    kept_rolled : (e : Expr-F Expr) (frame after : Frame) → Keeps (into + 1) frame after → value_of after (operand_of program locals into (roll-Expr e)) ≡ value_of frame (operand_of program locals into (roll-Expr e))
    kept_rolled e frame after keeps =
        subst (λ o. value_of after o ≡ value_of frame o) (sym (fold-roll-Expr Operand (operand_node program locals into) e))
        (kept_at (map-Expr Expr Operand (operand_of program locals into) e) frame after keeps)

    pub operand_kept : (e : Expr) (frame after : Frame) → Keeps (into + 1) frame after → value_of after (operand_of program locals into e) ≡ value_of frame (operand_of program locals into e)
    operand_kept e frame after keeps = subst (λ x. value_of after (operand_of program locals into x) ≡ value_of frame (operand_of program locals into x)) (roll-out-Expr e) (kept_rolled (out-Expr e) frame after keeps)
