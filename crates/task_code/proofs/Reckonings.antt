-- What the code of an expression does, from what the code of its parts does.
use Rattle.std.proofs.Common.{◌≡◌, ◌≢◌, ℕ, suc, ◌+◌, ◌<◌, ◌≤◌, ℤ, pos, negsuc, Bool, true, false, not, if◌then◌else◌, nat_lt, Option, Some, None, Result, Ok, Err, List, length, slice_index_or, refl, sym, ap, ◌∙◌, subst, arith}
use Rattle.std.proofs.lemmas.Bool.{le-ltb}
use Rattle.std.specs.Option.{option_map, option_and_then}
use Rattle.nest_syntax.specs.declared.names.Line.{Line}
use Rattle.nest_syntax.specs.declared.operators.Bin.{Bin}
use Rattle.nest_syntax.specs.declared.operators.Bin.TheVariants as bin
use Rattle.nest_syntax.specs.declared.operators.Un.{Un}
use Rattle.nest_syntax.specs.declared.operators.Cause.{Cause}
use Rattle.nest_syntax.specs.declared.operators.Cause.TheVariants as cause
use Rattle.nest_syntax.specs.declared.tree.Expr.TheOpen.{Expr-F}
use Rattle.nest_syntax.specs.declared.tree.Program.{Program}
use Rattle.nest_syntax.specs.Words.{is_zero, truth, flag, apply, apply_un}
use Rattle.nest_syntax.specs.Arrays.{Array, arrays_of, sizes_of, array_of, place_in, located}
use Rattle.nest_syntax.specs.Value.{scalar_at}
use Rattle.nest_syntax.specs.Turn.{Turn, Load, Op, Go, Reckoning, reckoning_node, operation_turn, done_with, inside}
use Rattle.task_hop.specs.declared.frame.Frame.{Frame}
use Rattle.task_hop.specs.declared.frame.Register.{Register}
use Rattle.task_hop.specs.declared.frame.Register.TheVariants as register
use Rattle.task_hop.specs.declared.frame.Operand.{Operand}
use Rattle.task_hop.specs.declared.frame.Operand.TheVariants as operand
use Rattle.task_hop.specs.declared.operation.Operation.TheVariants as operation
use Rattle.task_hop.specs.declared.stop.Stop.{Stop}
use Rattle.task_hop.specs.declared.stop.Stop.TheVariants as stop
use Rattle.task_hop.specs.declared.end.End.TheVariants as end
use Rattle.task_hop.specs.declared.end.Jump.TheVariants as jump
use Rattle.task_hop.specs.declared.end.Way.{Way}
use Rattle.task_hop.specs.Registers.{held, with_register, value_of}
use Rattle.task_hop.specs.Meaning.{Reached, behind, computed, ended, accessed, gone, going, set_by}
use Rattle.task_code.specs.declared.code.Instruction.{Instruction}
use Rattle.task_code.specs.declared.code.Instruction.TheVariants as instruction
use Rattle.task_code.specs.Code.{instruction_at}
use Rattle.task_code.specs.Follows.{TrapsAt, Follows}
use Rattle.task_code.specs.Ready.{register_of, operand_in, subscript_by, subscript_of}
use Rattle.task_code.specs.Compiled.{Holds, Keeps, ReckonsBy, setting, straight, closing, Opens, way_by}
use Rattle.task_code.proofs.Frames.{temporary_set, keeps_same, keeps_then, keeps_set, holds_kept}

-- no place is inside an array of no words
pub no_place : (at : ℤ) → place_in 0 at ≡ None
no_place (pos n) = ap (λ b. if b then Some n else None) (le-ltb n 0 (omega arith))
no_place (negsuc n) = refl

stopped : Stop → Frame → Reached
stopped s frame = record { stop = s; frame = frame }

-- a Go whose test is known
pub branches : (code : List Instruction) (at : ℕ) (frame : Frame) (test : Operand) (at_zero other : Way) (zero_turn other_turn : Turn) → instruction_at code at ≡ instruction.End (end.Go (jump.Branch test at_zero other))
    → (is_zero (value_of frame test) ≡ true → Follows code zero_turn at_zero.next (set_by at_zero.set frame))
    → (is_zero (value_of frame test) ≡ false → Follows code other_turn other.next (set_by other.set frame))
    → Follows code (Go (if is_zero (value_of frame test) then zero_turn else other_turn)) at frame
branches code at frame test at_zero other zero_turn other_turn is on_zero on_other = by (is_zero (value_of frame test)) refl where
  by : (b : Bool) → is_zero (value_of frame test) ≡ b → Follows code (Go (if is_zero (value_of frame test) then zero_turn else other_turn)) at frame
  by true e = (
    end.Go (jump.Branch test at_zero other),
    at_zero.next,
    set_by at_zero.set frame,
    is,
    ap (λ b. if b then gone at_zero frame else gone other frame) e,
    subst (λ b. Follows code (if b then zero_turn else other_turn) at_zero.next (set_by at_zero.set frame)) (sym e) (on_zero e),
  )
  by false e = (
    end.Go (jump.Branch test at_zero other),
    other.next,
    set_by other.set frame,
    is,
    ap (λ b. if b then gone at_zero frame else gone other frame) e,
    subst (λ b. Follows code (if b then zero_turn else other_turn) other.next (set_by other.set frame)) (sym e) (on_other e),
  )

-- a number or a name needs no code
pub leaf_reckons : (program : Program) (locals : List ℕ) (line : Line) (into : ℕ) (code : List Instruction) (f : Reckoning) (value : Operand) (next : ℕ)
    → ((scalars : List ℤ) (frame : Frame) (go : ℤ → Turn) → Holds program locals scalars frame → f line scalars go ≡ go (value_of frame value)) → ReckonsBy program locals line f value into next code next
leaf_reckons program locals line into code f value next is scalars frame go holds goes = subst (λ t. Follows code t next frame) (sym (is scalars frame go holds)) (goes frame (keeps_same into frame))

module _ (program : Program) (locals : List ℕ) (line : Line) (into : ℕ) (few : into < 32) (code : List Instruction) where
  abbrev pub Arrays : List Array
  Arrays = arrays_of program.decls

  abbrev pub By : Reckoning → Operand → ℕ → ℕ → Type 0
  By f value next entry = ReckonsBy program locals line f value into next code entry

  -- goes on with a value that is put into the temporary
  module _ (next : ℕ) (frame : Frame) (go : ℤ → Turn) (goes : (after : Frame) → Keeps into frame after → Follows code (go (held after (register.Temporary into))) next after) where
    pub goes_set : (mid : Frame) (value : ℤ) → length mid.temps ≡ 32 → Keeps into frame mid → Follows code (go value) next (with_register mid (register.Temporary into) value)
    goes_set mid value many keeps = subst (λ v. Follows code (go v) next (with_register mid (register.Temporary into) value)) (temporary_set mid into value many few)
        (goes (with_register mid (register.Temporary into) value) (keeps_then into into frame mid (with_register mid (register.Temporary into) value) (omega arith) keeps (keeps_set into into mid value (omega arith))))

    -- an operation that may trap
    pub computes : (node : ℕ) (mid : Frame) (o : Bin) (left right : Operand) (x y : ℤ) → length mid.temps ≡ 32 → Keeps into frame mid → value_of mid left ≡ x → value_of mid right ≡ y
        → instruction_at code node ≡ instruction.Then (operation.Binary o left right (register.Temporary into) line) next → Follows code (done_with line (apply o x y) go) node mid
    computes node mid o left right x y many keeps left_is right_is is = by (apply o x y) refl where
      moves : behind (operation.Binary o left right (register.Temporary into) line) mid ≡ computed mid (register.Temporary into) line (apply o x y)
      moves = ap (λ v. computed mid (register.Temporary into) line (apply o v (value_of mid right))) left_is ∙ ap (λ v. computed mid (register.Temporary into) line (apply o x v)) right_is

      by : (r : Result ℤ Cause) → apply o x y ≡ r → Follows code (done_with line r go) node mid
      by (Ok v) e = (operation.Binary o left right (register.Temporary into) line, next, with_register mid (register.Temporary into) v, is, moves ∙ ap (computed mid (register.Temporary into) line) e, goes_set mid v many keeps)
      by (Err c) e = subst (λ i. TrapsAt i mid c line) (sym is) (moves ∙ ap (computed mid (register.Temporary into) line) e)

  -- a word is read
  module _ (name : ℕ) (place : Reckoning) (at : Operand) (node next entry : ℕ) where
    loads : (a : Option ℕ) (frame after : Frame) (go : ℤ → Turn) → length after.temps ≡ 32 → Keeps into frame after
        → instruction_at code node ≡ instruction.End (end.Load (subscript_by (sizes_of Arrays) a at line) into next)
        → ((last : Frame) → Keeps into frame last → Follows code (go (held last (register.Temporary into))) next last)
        → Follows code (inside line (option_and_then (λ (n : ℕ). option_map (λ (p : ℕ). (n, p)) (place_in (slice_index_or (sizes_of Arrays) n 0) (value_of after at))) a) (λ array n. Load array n go)) node after
    unfolding stopped
    loads None frame after go many keeps is goes = subst (λ i. TrapsAt i after cause.Index line) (sym is)
        (ap (λ p. accessed (subscript_by (sizes_of Arrays) None at line) p (λ q. stop.Load 0 q into next)) (no_place (value_of after at)))
    loads (Some k) frame after go many keeps is goes = by (place_in (slice_index_or (sizes_of Arrays) k 0) (value_of after at)) refl where
      by : (p : Option ℕ) → place_in (slice_index_or (sizes_of Arrays) k 0) (value_of after at) ≡ p → Follows code (inside line (option_map (λ (p : ℕ). (k, p)) p) (λ array n. Load array n go)) node after
      by None e = subst (λ i. TrapsAt i after cause.Index line) (sym is) (ap (λ p. accessed (subscript_by (sizes_of Arrays) (Some k) at line) p (λ q. stop.Load k q into next)) e)
      by (Some q) e = (
        end.Load (subscript_by (sizes_of Arrays) (Some k) at line) into next,
        into,
        next,
        is,
        ap (λ p. stopped (accessed (subscript_by (sizes_of Arrays) (Some k) at line) p (λ q. stop.Load k q into next)) after) e,
        λ value. goes_set next frame go goes after value many keeps,
      )

    pub word_reckons : instruction_at code node ≡ instruction.End (end.Load (subscript_of program name at line) into next) → By place at node entry
        → By (reckoning_node Arrays (Expr-F.Word name place)) (operand.Held (register.Temporary into)) next entry
    word_reckons is reckons scalars frame go holds goes = reckons scalars frame (λ v. inside line (located Arrays name v) (λ array n. Load array n go)) holds
        (λ after keeps. loads (array_of Arrays name) frame after go (holds_kept program locals into scalars frame after holds keeps).temps keeps is goes)

  pub unary_reckons : (o : Un) (part : Reckoning) (from : Operand) (node next entry : ℕ) → instruction_at code node ≡ instruction.Then (operation.Unary o from (register.Temporary into)) next → By part from node entry
      → By (reckoning_node Arrays (Expr-F.Unary o part)) (operand.Held (register.Temporary into)) next entry
  unary_reckons o part from node next entry is reckons scalars frame go holds goes = reckons scalars frame (λ v. Op (go (apply_un o v))) holds
      (λ after keeps. (
        operation.Unary o from (register.Temporary into),
        next,
        with_register after (register.Temporary into) (apply_un o (value_of after from)),
        is,
        refl,
        goes_set next frame go goes after (apply_un o (value_of after from)) (holds_kept program locals into scalars frame after holds keeps).temps keeps,
      ))

  -- the way to a value: the code of a number or a name is empty
  abbrev pub Leads : Reckoning → Way → ℕ → Type 0
  Leads f way next = (scalars : List ℤ) (frame : Frame) (go : ℤ → Turn) → Holds program locals scalars frame
      → ((after : Frame) → Keeps into frame after → Follows code (go (held after (register.Temporary into))) next after) → Follows code (f line scalars go) way.next (set_by way.set frame)

  pub leaf_leads : (f : Reckoning) (value : Operand) (next : ℕ) → ((scalars : List ℤ) (frame : Frame) (go : ℤ → Turn) → Holds program locals scalars frame → f line scalars go ≡ go (value_of frame value)) → Leads f (way_by true value into next) next
  leaf_leads f value next is scalars frame go holds goes = subst (λ t. Follows code t next (with_register frame (register.Temporary into) (value_of frame value))) (sym (is scalars frame go holds))
      (goes_set next frame go goes frame (value_of frame value) holds.temps (keeps_same into frame))

  pub code_leads : (f : Reckoning) (value : Operand) (next entry : ℕ) → By f (operand.Held (register.Temporary into)) next entry → Leads f (way_by false value into entry) next
  code_leads f value next entry reckons scalars frame go holds goes = reckons scalars frame go holds goes

  pub choice_reckons : (test first second : Reckoning) (value : Operand) (first_way second_way : Way) (node next entry : ℕ) → instruction_at code node ≡ instruction.End (end.Go (jump.Branch value second_way first_way))
      → By test value node entry → Leads first first_way next → Leads second second_way next
      → By (reckoning_node Arrays (Expr-F.Choice test first second)) (operand.Held (register.Temporary into)) next entry
  choice_reckons test first second value first_way second_way node next entry is reckons on_first on_second scalars frame go holds goes =
      reckons scalars frame (λ v. Go (if is_zero v then second line scalars go else first line scalars go)) holds
      (λ after keeps.
      let held_after = holds_kept program locals into scalars frame after holds keeps in
      let on : (last : Frame) → Keeps into after last → Follows code (go (held last (register.Temporary into))) next last = λ last more. goes last (keeps_then into into frame after last (omega arith) keeps more) in
      branches code node after value second_way first_way (second line scalars go) (first line scalars go) is
      (λ zero. on_second scalars after go held_after on) (λ other. on_first scalars after go held_after on))
