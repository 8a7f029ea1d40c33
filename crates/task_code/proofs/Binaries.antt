-- What the code of a binary operation does: `&&` and `||` are decided behind their left operand, or by the right one.
use Rattle.std.proofs.Common.{◌≡◌, ℕ, ◌+◌, ◌<◌, ◌≤◌, ℤ, pos, Bool, true, false, not, if◌then◌else◌, List, length, refl, sym, ap, ◌∙◌, subst, arith}
use Rattle.nest_syntax.specs.declared.names.Line.{Line}
use Rattle.nest_syntax.specs.declared.operators.Bin.{Bin}
use Rattle.nest_syntax.specs.declared.operators.Bin.TheVariants as bin
use Rattle.nest_syntax.specs.declared.tree.Expr.TheOpen.{Expr-F}
use Rattle.nest_syntax.specs.declared.tree.Program.{Program}
use Rattle.nest_syntax.specs.Words.{is_zero, truth, flag, apply}
use Rattle.nest_syntax.specs.Arrays.{arrays_of}
use Rattle.nest_syntax.specs.Turn.{Turn, Go, Reckoning, reckoning_node, operation_turn, done_with}
use Rattle.task_hop.specs.declared.frame.Frame.{Frame}
use Rattle.task_hop.specs.declared.frame.Register.TheVariants as register
use Rattle.task_hop.specs.declared.frame.Operand.{Operand}
use Rattle.task_hop.specs.declared.frame.Operand.TheVariants as operand
use Rattle.task_hop.specs.declared.operation.Operation.TheVariants as operation
use Rattle.task_hop.specs.declared.end.End.TheVariants as end
use Rattle.task_hop.specs.declared.end.Jump.TheVariants as jump
use Rattle.task_hop.specs.Registers.{held, with_register, value_of}
use Rattle.task_code.specs.declared.code.Instruction.{Instruction}
use Rattle.task_code.specs.declared.code.Instruction.TheVariants as instruction
use Rattle.task_code.specs.Code.{instruction_at}
use Rattle.task_code.specs.Follows.{Follows}
use Rattle.task_code.specs.Compiled.{Holds, Keeps, ReckonsBy, setting, straight, closing, Opens}
use Rattle.task_code.proofs.Frames.{keeps_then, holds_kept}
use Rattle.task_code.proofs.Reckonings.{branches, goes_set, computes}

module _ (program : Program) (locals : List ℕ) (line : Line) (into : ℕ) (few : into < 32) (code : List Instruction) where
  module _ (x y : Operand) (right : Reckoning) (close next right_entry : ℕ)
      (stays : (frame after : Frame) → Keeps (into + 1) frame after → value_of after x ≡ value_of frame x)
      (reckons_right : ReckonsBy program locals line right y (into + 1) close code right_entry) where
    module _ (scalars : List ℤ) (frame after : Frame) (go : ℤ → Turn) (holds : Holds program locals scalars after) (keeps : Keeps into frame after)
        (goes : (last : Frame) → Keeps into frame last → Follows code (go (held last (register.Temporary into))) next last) where
      behind_right : (last : Frame) → Keeps (into + 1) after last → Keeps into frame last
      behind_right last more = keeps_then into (into + 1) frame after last (omega arith) keeps more

      truths : (b : Bool) → go (flag (not b)) ≡ (if b then go (pos 0) else go (pos 1))
      truths true = refl
      truths false = refl

      sets : (n : ℤ) (last : Frame) → Keeps (into + 1) after last → Follows code (go n) next (with_register last (register.Temporary into) n)
      sets n last more = goes_set program locals line into few code next frame go goes last n (holds_kept program locals (into + 1) scalars after last holds more).temps (behind_right last more)

      decided : instruction_at code close ≡ instruction.End (end.Go (jump.Branch y (setting into (pos 0) next) (setting into (pos 1) next)))
          → (last : Frame) → Keeps (into + 1) after last → Follows code (Go (go (truth (value_of last y)))) close last
      decided is last more = subst (λ t. Follows code (Go t) close last) (sym (truths (is_zero (value_of last y))))
          (branches code close last y (setting into (pos 0) next) (setting into (pos 1) next) (go (pos 0)) (go (pos 1)) is (λ zero. sets (pos 0) last more) (λ other. sets (pos 1) last more))

      goes_on : instruction_at code close ≡ instruction.End (end.Go (jump.Branch y (setting into (pos 0) next) (setting into (pos 1) next)))
          → Follows code (right line scalars (λ w. Go (go (truth w)))) right_entry after
      goes_on is = reckons_right scalars after (λ w. Go (go (truth w))) holds (decided is)

      now : (n : ℤ) → Follows code (go n) next (with_register after (register.Temporary into) n)
      now n = goes_set program locals line into few code next frame go goes after n holds.temps keeps

      plainly : (o : Bin) (at : ℕ) → instruction_at code close ≡ instruction.Then (operation.Binary o x y (register.Temporary into) line) next → at ≡ right_entry
          → Follows code (right line scalars (λ w. done_with line (apply o (value_of after x) w) go)) at after
      plainly o at is same = subst (λ at. Follows code (right line scalars (λ w. done_with line (apply o (value_of after x) w) go)) at after) (sym same)
          (reckons_right scalars after (λ w. done_with line (apply o (value_of after x) w) go) holds
          (λ last more. computes program locals line into few code next frame go goes close last o x y (value_of after x) (value_of last y)
          (holds_kept program locals (into + 1) scalars after last holds more).temps (behind_right last more) (stays after last more) refl is))

      opened : (o : Bin) (at : ℕ) → instruction_at code close ≡ closing o x y into line next → Opens o x into right_entry next code at
          → Follows code (operation_turn o (value_of after x) right line scalars go) at after
      opened bin.Both at is opens = branches code at after x (setting into (pos 0) next) (straight right_entry) (go (pos 0)) (right line scalars (λ w. Go (go (truth w)))) opens (λ zero. now (pos 0)) (λ other. goes_on is)
      opened bin.Either at is opens = branches code at after x (straight right_entry) (setting into (pos 1) next) (right line scalars (λ w. Go (go (truth w)))) (go (pos 1)) opens (λ zero. goes_on is) (λ other. now (pos 1))
      opened bin.Add at is opens = plainly bin.Add at is opens
      opened bin.Sub at is opens = plainly bin.Sub at is opens
      opened bin.Mul at is opens = plainly bin.Mul at is opens
      opened bin.Div at is opens = plainly bin.Div at is opens
      opened bin.Rem at is opens = plainly bin.Rem at is opens
      opened bin.Shl at is opens = plainly bin.Shl at is opens
      opened bin.Shr at is opens = plainly bin.Shr at is opens
      opened bin.And at is opens = plainly bin.And at is opens
      opened bin.Xor at is opens = plainly bin.Xor at is opens
      opened bin.Or at is opens = plainly bin.Or at is opens
      opened bin.Less at is opens = plainly bin.Less at is opens
      opened bin.LessEq at is opens = plainly bin.LessEq at is opens
      opened bin.More at is opens = plainly bin.More at is opens
      opened bin.MoreEq at is opens = plainly bin.MoreEq at is opens
      opened bin.Equal at is opens = plainly bin.Equal at is opens
      opened bin.NotEqual at is opens = plainly bin.NotEqual at is opens

    pub binary_reckons : (o : Bin) (left : Reckoning) (at entry : ℕ) → instruction_at code close ≡ closing o x y into line next → Opens o x into right_entry next code at
        → ReckonsBy program locals line left x into at code entry
        → ReckonsBy program locals line (reckoning_node (arrays_of program.decls) (Expr-F.Binary o left right)) (operand.Held (register.Temporary into)) into next code entry
    binary_reckons o left at entry is opens reckons_left scalars frame go holds goes = reckons_left scalars frame (λ v. operation_turn o v right line scalars go) holds
        (λ after keeps. opened scalars frame after go (holds_kept program locals into scalars frame after holds keeps) keeps goes o at is opens)
