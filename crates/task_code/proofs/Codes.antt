-- The code that is added for an expression, from the code that is added for its parts.
use Rattle.std.proofs.Common.{◌≡◌, ℕ, ◌+◌, ◌<◌, Bool, true, false, List, refl, sym, subst}
use Rattle.std.specs.Prelude.{IsTrue}
use Rattle.nest_syntax.specs.declared.names.Line.{Line}
use Rattle.nest_syntax.specs.declared.operators.Bin.{Bin}
use Rattle.nest_syntax.specs.declared.operators.Un.{Un}
use Rattle.nest_syntax.specs.declared.tree.Expr.{Expr}
use Rattle.nest_syntax.specs.declared.tree.Expr.TheVariants as expr
use Rattle.nest_syntax.specs.declared.tree.Program.{Program}
use Rattle.nest_syntax.specs.Arrays.{arrays_of}
use Rattle.nest_syntax.specs.Turn.{Reckoning, reckoning}
use Rattle.nest_syntax.proofs.Equations.{reckoning-word, reckoning-unary, reckoning-binary, reckoning-choice}
use Rattle.task_hop.specs.declared.frame.Register.TheVariants as register
use Rattle.task_hop.specs.declared.frame.Operand.{Operand}
use Rattle.task_hop.specs.declared.frame.Operand.TheVariants as operand
use Rattle.task_hop.specs.declared.operation.Operation.TheVariants as operation
use Rattle.task_hop.specs.declared.end.End.TheVariants as end
use Rattle.task_hop.specs.declared.end.Jump.TheVariants as jump
use Rattle.task_hop.specs.declared.end.Way.{Way}
use Rattle.task_code.specs.declared.code.Instruction.{Instruction}
use Rattle.task_code.specs.declared.code.Instruction.TheVariants as instruction
use Rattle.task_code.specs.Code.{instruction_at}
use Rattle.task_code.specs.Ready.{operand_of, subscript_of, is_leaf, expr_ready}
use Rattle.task_code.specs.Compiled.{Emits, ReckonsBy, Reckons, closing, Opens, way_by}
use Rattle.task_code.proofs.Emitted.{emits_then}
use Rattle.task_code.proofs.Frames.{operand-word, operand-unary, operand-binary, operand-choice, operand_kept}
use Rattle.task_code.proofs.Reckonings.{Leads, leaf_leads, code_leads, word_reckons, unary_reckons, choice_reckons}
use Rattle.task_code.proofs.Binaries.{binary_reckons}
use Rattle.task_code.proofs.Leaves.{leaf_or_not}

module _ (program : Program) (locals : List ℕ) (line : Line) (into next : ℕ) where
  -- the code from an entry reckons an expression
  abbrev Does : Expr → ℕ → List Instruction → Type 0
  Does e entry code = Reckons program locals line e into next code entry

  module _ (few : into < 32) where
    rolled_to : (e : Expr) (f : Reckoning) (entry : ℕ) (code : List Instruction) → reckoning (arrays_of program.decls) e ≡ f → operand_of program locals into e ≡ operand.Held (register.Temporary into)
        → ReckonsBy program locals line f (operand.Held (register.Temporary into)) into next code entry → Does e entry code
    rolled_to e f entry code same there reckons = subst (λ g. ReckonsBy program locals line g (operand_of program locals into e) into next code entry) (sym same)
        (subst (λ o. ReckonsBy program locals line f o into next code entry) (sym there) reckons)

    pub word_code : (old mid new : List Instruction) (name : ℕ) (place : Expr) (load entry : ℕ)
        → Emits old mid (λ code. instruction_at code load ≡ instruction.End (end.Load (subscript_of program name (operand_of program locals into place) line) into next))
        → Emits mid new (λ code. Reckons program locals line place into load code entry) → Emits old new (Does (expr.Word name place) entry)
    word_code old mid new name place load entry first second = emits_then old mid new _ _ (Does (expr.Word name place) entry) first second
        (λ code is reckons. rolled_to (expr.Word name place) _ entry code (reckoning-word (arrays_of program.decls) name place) (operand-word program locals into name place)
        (word_reckons program locals line into few code name (reckoning (arrays_of program.decls) place) (operand_of program locals into place) load next entry is reckons))

    pub unary_code : (old mid new : List Instruction) (o : Un) (part : Expr) (node entry : ℕ)
        → Emits old mid (λ code. instruction_at code node ≡ instruction.Then (operation.Unary o (operand_of program locals into part) (register.Temporary into)) next)
        → Emits mid new (λ code. Reckons program locals line part into node code entry) → Emits old new (Does (expr.Unary o part) entry)
    unary_code old mid new o part node entry first second = emits_then old mid new _ _ (Does (expr.Unary o part) entry) first second
        (λ code is reckons. rolled_to (expr.Unary o part) _ entry code (reckoning-unary (arrays_of program.decls) o part) (operand-unary program locals into o part)
        (unary_reckons program locals line into few code o (reckoning (arrays_of program.decls) part) (operand_of program locals into part) node next entry is reckons))

    module _ (o : Bin) (left right : Expr) (close other decision entry : ℕ) where
      abbrev Closes : List Instruction → Type 0
      Closes code = instruction_at code close ≡ closing o (operand_of program locals into left) (operand_of program locals (into + 1) right) into line next

      abbrev DoesRight : List Instruction → Type 0
      DoesRight code = Closes code × Reckons program locals line right (into + 1) close code other

      abbrev DoesOpen : List Instruction → Type 0
      DoesOpen code = DoesRight code × Opens o (operand_of program locals into left) into other next code decision

      pub binary_code : (a b c d e : List Instruction) → Emits a b Closes → Emits b c (λ code. Reckons program locals line right (into + 1) close code other)
          → Emits c d (λ code. Opens o (operand_of program locals into left) into other next code decision) → Emits d e (λ code. Reckons program locals line left into decision code entry)
          → Emits a e (Does (expr.Binary o left right) entry)
      binary_code a b c d e closes on_right opens on_left =
          let to_right : Emits a c DoesRight = emits_then a b c Closes _ DoesRight closes on_right (λ code is reckons. (is, reckons)) in
          let to_open : Emits a d DoesOpen = emits_then a c d DoesRight _ DoesOpen to_right opens (λ code is op. (is, op)) in
          emits_then a d e DoesOpen _ (Does (expr.Binary o left right) entry) to_open on_left
          (λ code is reckons. rolled_to (expr.Binary o left right) _ entry code (reckoning-binary (arrays_of program.decls) o left right) (operand-binary program locals into o left right)
          (binary_reckons program locals line into few code (operand_of program locals into left) (operand_of program locals (into + 1) right) (reckoning (arrays_of program.decls) right) close next other
          (operand_kept program locals into left) is.0.1 o (reckoning (arrays_of program.decls) left) decision entry is.0.0 is.1 reckons))

    -- the way to an expression's value
    way_leads : (e : Expr) (entry : ℕ) (code : List Instruction) → IsTrue (expr_ready program locals e into) → (is_leaf e ≡ true → entry ≡ next) → Does e entry code
        → Leads program locals line into few code (reckoning (arrays_of program.decls) e) (way_by (is_leaf e) (operand_of program locals into e) into entry) next
    way_leads e entry code ready empty does = by (is_leaf e) refl where
      by : (b : Bool) → is_leaf e ≡ b → Leads program locals line into few code (reckoning (arrays_of program.decls) e) (way_by b (operand_of program locals into e) into entry) next
      by true leaf = subst (λ n. Leads program locals line into few code (reckoning (arrays_of program.decls) e) (way_by true (operand_of program locals into e) into n) next) (sym (empty leaf))
          (leaf_leads program locals line into few code (reckoning (arrays_of program.decls) e) (operand_of program locals into e) next (λ scalars frame go. (leaf_or_not program locals into e).0 leaf ready line scalars frame go))
      by false branch = code_leads program locals line into few code (reckoning (arrays_of program.decls) e) (operand_of program locals into e) next entry
          (subst (λ v. ReckonsBy program locals line (reckoning (arrays_of program.decls) e) v into next code entry) ((leaf_or_not program locals into e).1 branch) does)

    module _ (test first second : Expr) (on_zero on_other node entry : ℕ) where
      abbrev way_to : Expr → ℕ → Way
      way_to e at = way_by (is_leaf e) (operand_of program locals into e) into at

      abbrev Branches : List Instruction → Type 0
      Branches code = instruction_at code node ≡ instruction.End (end.Go (jump.Branch (operand_of program locals into test) (way_to second on_zero) (way_to first on_other)))

      abbrev DoesBoth : List Instruction → Type 0
      DoesBoth code = Does second on_zero code × Does first on_other code

      abbrev DoesBranch : List Instruction → Type 0
      DoesBranch code = DoesBoth code × Branches code

      pub choice_code : (a b c d e : List Instruction) → IsTrue (expr_ready program locals first into) → IsTrue (expr_ready program locals second into)
          → (is_leaf second ≡ true → on_zero ≡ next) → (is_leaf first ≡ true → on_other ≡ next)
          → Emits a b (Does second on_zero) → Emits b c (Does first on_other) → Emits c d Branches → Emits d e (λ code. Reckons program locals line test into node code entry)
          → Emits a e (Does (expr.Choice test first second) entry)
      choice_code a b c d e first_ready second_ready second_empty first_empty on_second on_first branches on_test =
          let to_both : Emits a c DoesBoth = emits_then a b c _ _ DoesBoth on_second on_first (λ code s f. (s, f)) in
          let to_branch : Emits a d DoesBranch = emits_then a c d DoesBoth Branches DoesBranch to_both branches (λ code both is. (both, is)) in
          emits_then a d e DoesBranch _ (Does (expr.Choice test first second) entry) to_branch on_test
          (λ code is reckons. rolled_to (expr.Choice test first second) _ entry code (reckoning-choice (arrays_of program.decls) test first second) (operand-choice program locals into test first second)
          (choice_reckons program locals line into few code (reckoning (arrays_of program.decls) test) (reckoning (arrays_of program.decls) first) (reckoning (arrays_of program.decls) second) (operand_of program locals into test)
          (way_to first on_other) (way_to second on_zero) node next entry is.1 reckons (way_leads first on_other code first_ready first_empty is.0.1) (way_leads second on_zero code second_ready second_empty is.0.0)))
