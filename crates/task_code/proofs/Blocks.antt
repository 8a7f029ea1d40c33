-- What the code of statements does, from what the code of their parts does.
use Rattle.std.proofs.Common.{◌≡◌, ℕ, suc, ◌+◌, ◌<◌, ◌≤◌, ℤ, pos, Bool, true, false, if◌then◌else◌, Option, Some, None, Result, Ok, Err, List, [], ◌∷◌, length, slice_index_or, refl, sym, ap, ◌∙◌, subst, arith}
use Rattle.std.specs.Option.{option_map, option_and_then}
use Rattle.nest_syntax.specs.declared.names.Line.{Line}
use Rattle.nest_syntax.specs.declared.operators.Bin.{Bin}
use Rattle.nest_syntax.specs.declared.operators.Cause.{Cause}
use Rattle.nest_syntax.specs.declared.operators.Cause.TheVariants as cause
use Rattle.nest_syntax.specs.declared.tree.Program.{Program}
use Rattle.nest_syntax.specs.Words.{is_zero, apply}
use Rattle.nest_syntax.specs.Arrays.{Array, arrays_of, sizes_of, array_of, place_in, located}
use Rattle.nest_syntax.specs.Value.{scalar_at, with_scalar}
use Rattle.nest_syntax.specs.Turn.{Turn, Store, Op, Go, Effect, Reckoning, done_with, inside, assigning, writing, sequence, choose}
use Rattle.task_hop.specs.declared.frame.Frame.{Frame}
use Rattle.task_hop.specs.declared.frame.Register.{Register}
use Rattle.task_hop.specs.declared.frame.Register.TheVariants as register
use Rattle.task_hop.specs.declared.frame.Operand.{Operand}
use Rattle.task_hop.specs.declared.frame.Operand.TheVariants as operand
use Rattle.task_hop.specs.declared.operation.Operation.TheVariants as operation
use Rattle.task_hop.specs.declared.stop.Stop.{Stop}
use Rattle.task_hop.specs.declared.stop.Stop.TheVariants as stop
use Rattle.task_hop.specs.declared.end.End.TheVariants as end
use Rattle.task_hop.specs.declared.end.Jump.TheVariants as jump
use Rattle.task_hop.specs.declared.end.Subscript.{Subscript}
use Rattle.task_hop.specs.Registers.{held, with_register, value_of}
use Rattle.task_hop.specs.Meaning.{Reached, accessed}
use Rattle.task_code.specs.declared.code.Instruction.{Instruction}
use Rattle.task_code.specs.declared.code.Instruction.TheVariants as instruction
use Rattle.task_code.specs.Code.{instruction_at}
use Rattle.task_code.specs.Follows.{TrapsAt, Follows}
use Rattle.task_code.specs.Ready.{register_of, subscript_by, subscript_of}
use Rattle.task_code.specs.Compiled.{Holds, Keeps, KeepsBelow, IsInside, ReckonsBy, Carries, GivesBy, WritesBy, straight}
use Rattle.task_code.proofs.Frames.{temporary_set, keeps_same, keeps_then, keeps_set, holds_kept}
use Rattle.task_code.proofs.Given.{holds_given, gives_below}
use Rattle.task_code.proofs.Reckonings.{branches, computes, no_place}

module _ (program : Program) (locals : List ℕ) (code : List Instruction) where
  -- no statement
  pub none_carries : (into next : ℕ) → Carries program locals (sequence []) into next code next
  none_carries into next scalars frame go holds goes = goes scalars frame holds (λ n below. refl)

  -- a statement and those behind it
  pub more_carries : (into next mid entry : ℕ) (first : Effect) (others : List Effect) → Carries program locals first into mid code entry → Carries program locals (sequence others) into next code mid
      → Carries program locals (sequence (first ∷ others)) into next code entry
  more_carries into next mid entry first others on_first on_others scalars frame go holds goes = on_first scalars frame (λ after. sequence others after go) holds
      (λ later after held_after keeps. on_others later after go held_after (λ last end held_last keeps_last. goes last end held_last (λ n below. keeps_last n below ∙ keeps n below)))

  -- an arm before what the `if` does otherwise
  pub arm_carries : (line : Line) (into next otherwise block node entry : ℕ) (test : Reckoning) (value : Operand) (body other : Effect)
      → instruction_at code node ≡ instruction.End (end.Go (jump.Branch value (straight otherwise) (straight block)))
      → ReckonsBy program locals line test value into node code entry → Carries program locals body into next code block → Carries program locals other into next code otherwise
      → Carries program locals (λ scalars go. test line scalars (λ v. Go (if is_zero v then other scalars go else body scalars go))) into next code entry
  arm_carries line into next otherwise block node entry test value body other is on_test on_body on_other scalars frame go holds goes = on_test scalars frame (λ v. Go (if is_zero v then other scalars go else body scalars go)) holds
      (λ after keeps.
      let held_after = holds_kept program locals into scalars frame after holds keeps in
      branches code node after value (straight otherwise) (straight block) (other scalars go) (body scalars go) is
      (λ zero. on_other scalars after go held_after (λ last end held_last keeps_last. goes last end held_last (λ n below. keeps_last n below ∙ keeps.temps n below)))
      (λ taken. on_body scalars after go held_after (λ last end held_last keeps_last. goes last end held_last (λ n below. keeps_last n below ∙ keeps.temps n below))))

  -- `=` and `op=` of a name
  module _ (line : Line) (into next entry : ℕ) (few : into < 32) (name slot : ℕ) (is : register_of program locals name ≡ Some (register.Local slot)) where
    gives : (scalars : List ℤ) (frame after : Frame) (go : List ℤ → Turn) (value : Operand) (v : ℤ) (node : ℕ) → Holds program locals scalars after → Keeps into frame after → value_of after value ≡ v
        → ((later : List ℤ) (last : Frame) → Holds program locals later last → KeepsBelow into frame last → Follows code (go later) next last)
        → instruction_at code node ≡ instruction.Then (operation.Give (register.Local slot) value) next → Follows code (Op (go (with_scalar scalars name v))) node after
    gives scalars frame after go value v node holds keeps same goes at = (
      operation.Give (register.Local slot) value,
      next,
      with_register after (register.Local slot) (value_of after value),
      at,
      refl,
      subst (λ x. Follows code (go (with_scalar scalars name v)) next (with_register after (register.Local slot) x)) (sym same)
          (goes (with_scalar scalars name v) (with_register after (register.Local slot) v) (holds_given program locals scalars after name slot v holds is)
          (λ n below. gives_below program locals into after (register.Local slot) v (holds.inside name (register.Local slot) is) n below ∙ keeps.temps n below)),
    )

    assigns : (op : Option Bin) (scalars : List ℤ) (frame after : Frame) (go : List ℤ → Turn) (value : Operand) (node : ℕ) → Holds program locals scalars after → Keeps into frame after
        → ((later : List ℤ) (last : Frame) → Holds program locals later last → KeepsBelow into frame last → Follows code (go later) next last)
        → GivesBy op (register.Local slot) value into line next code node → Follows code (assigning line op (scalar_at scalars name) (value_of after value) (λ new. Op (go (with_scalar scalars name new)))) node after
    assigns None scalars frame after go value node holds keeps goes at = gives scalars frame after go value (value_of after value) node holds keeps refl goes at
    assigns (Some o) scalars frame after go value node holds keeps goes (give, at, at_give) =
        computes program locals line into few code give frame (λ new. Op (go (with_scalar scalars name new)))
        (λ last kept. gives scalars frame last go (operand.Held (register.Temporary into)) (held last (register.Temporary into)) give (holds_last last kept) kept refl goes at_give)
        node after o (operand.Held (register.Local slot)) value (scalar_at scalars name) (value_of after value) holds.temps keeps (holds.values name (register.Local slot) is) refl at where
          back : (last : Frame) → Keeps into frame last → Keeps into after last
          back last kept = record { env = kept.env ∙ sym keeps.env; locals = kept.locals ∙ sym keeps.locals; many = kept.many ∙ sym keeps.many; temps = λ n below. kept.temps n below ∙ sym (keeps.temps n below) }

          holds_last : (last : Frame) → Keeps into frame last → Holds program locals scalars last
          holds_last last kept = holds_kept program locals into scalars after last holds (back last kept)

    pub assign_carries : (op : Option Bin) (f : Reckoning) (value : Operand) (start : ℕ) → GivesBy op (register.Local slot) value into line next code entry → ReckonsBy program locals line f value into entry code start
        → Carries program locals (λ scalars go. f line scalars (λ right. assigning line op (scalar_at scalars name) right (λ new. Op (go (with_scalar scalars name new))))) into next code start
    assign_carries op f value start at reckons scalars frame go holds goes = reckons scalars frame (λ right. assigning line op (scalar_at scalars name) right (λ new. Op (go (with_scalar scalars name new)))) holds
        (λ after keeps. assigns op scalars frame after go value entry (holds_kept program locals into scalars frame after holds keeps) keeps goes at)

  -- a write, whose subscript is reckoned first
  module _ (line : Line) (into next entry : ℕ) (few : into + 2 < 32) (name : ℕ) (at value : Operand)
      (at_stays : (frame after : Frame) → Keeps (into + 1) frame after → value_of after at ≡ value_of frame at)
      (value_stays : (frame after : Frame) → Keeps (into + 2) frame after → value_of after value ≡ value_of frame value) where
    abbrev Sizes : List ℕ
    Sizes = sizes_of (arrays_of program.decls)

    lower : (frame after : Frame) → Keeps (into + 2) frame after → Keeps (into + 1) frame after
    lower frame after keeps = record { env = keeps.env; locals = keeps.locals; many = keeps.many; temps = λ n below. keeps.temps n (omega (arith, below)) }

    abbrev stopped_at : Stop → Frame → Reached
    stopped_at s frame = record { stop = s; frame = frame }

    module _ (scalars : List ℤ) (frame after : Frame) (go : List ℤ → Turn) (holds : Holds program locals scalars after) (keeps : Keeps into frame after)
        (goes : (later : List ℤ) (last : Frame) → Holds program locals later last → KeepsBelow into frame last → Follows code (go later) next last) where
      goes_last : (last : Frame) → Keeps (into + 2) after last → Follows code (go scalars) next last
      goes_last last kept = goes scalars last (holds_kept program locals (into + 2) scalars after last holds kept) (λ n below. kept.temps n (omega (arith, below)) ∙ keeps.temps n below)

      module _ (k q : ℕ) (there : place_in (slice_index_or Sizes k 0) (value_of after at) ≡ Some q) where
        there_in : (last : Frame) → Keeps (into + 2) after last → place_in (slice_index_or Sizes k 0) (value_of last at) ≡ Some q
        there_in last kept = ap (place_in (slice_index_or Sizes k 0)) (at_stays after last (lower after last kept)) ∙ there

        stores : (from : Operand) (last : Frame) (node : ℕ) → Keeps (into + 2) after last → instruction_at code node ≡ instruction.End (end.Store (subscript_by Sizes (Some k) at line) from next)
            → Follows code (Store k q (value_of last from) (go scalars)) node last
        stores from last node kept is = (
          end.Store (subscript_by Sizes (Some k) at line) from next,
          next,
          is,
          ap (λ p. stopped_at (accessed (subscript_by Sizes (Some k) at line) p (λ place. stop.Store k place (value_of last from) next)) last) (there_in last kept),
          goes_last last kept,
        )

        rewrites : (o : Bin) (node : ℕ) → WritesBy (Some o) (subscript_by Sizes (Some k) at line) value (into + 2) line next code node
            → Follows code (writing line (Some o) k q (value_of after value) (go scalars)) node after
        rewrites o node (calculate, store, loads, calculates, stores_at) = (
          end.Load (subscript_by Sizes (Some k) at line) (into + 2) calculate,
          into + 2,
          calculate,
          loads,
          ap (λ p. stopped_at (accessed (subscript_by Sizes (Some k) at line) p (λ place. stop.Load k place (into + 2) calculate)) after) there,
          λ old. computes program locals line (into + 2) few code store after (λ new. Store k q new (go scalars)) (λ last kept. stores (operand.Held (register.Temporary (into + 2))) last store kept stores_at)
              calculate (with_register after (register.Temporary (into + 2)) old) o (operand.Held (register.Temporary (into + 2))) value old (value_of after value)
              (long old) (keeps_set (into + 2) (into + 2) after old (omega arith)) (temporary_set after (into + 2) old holds.temps few)
              (value_stays after (with_register after (register.Temporary (into + 2)) old) (keeps_set (into + 2) (into + 2) after old (omega arith))) calculates,
        ) where
          long : (old : ℤ) → length (with_register after (register.Temporary (into + 2)) old).temps ≡ 32
          long old = (keeps_set (into + 2) (into + 2) after old (omega arith)).many ∙ holds.temps

        written : (op : Option Bin) (node : ℕ) → WritesBy op (subscript_by Sizes (Some k) at line) value (into + 2) line next code node
            → Follows code (writing line op k q (value_of after value) (go scalars)) node after
        written None node is = stores value after node (keeps_same (into + 2) after) is
        written (Some o) node is = rewrites o node is

      -- outside the array the first of its ends traps
      outside : (op : Option Bin) (a : Option ℕ) (node : ℕ) → place_in (subscript_by Sizes a at line).size (value_of after at) ≡ None → WritesBy op (subscript_by Sizes a at line) value (into + 2) line next code node
          → TrapsAt (instruction_at code node) after cause.Index line
      outside None None node none is = subst (λ i. TrapsAt i after cause.Index line) (sym is) (ap (λ p. accessed (subscript_by Sizes None at line) p (λ place. stop.Store 0 place (value_of after value) next)) none)
      outside None (Some k) node none is = subst (λ i. TrapsAt i after cause.Index line) (sym is) (ap (λ p. accessed (subscript_by Sizes (Some k) at line) p (λ place. stop.Store k place (value_of after value) next)) none)
      outside (Some o) None node none (calculate, store, is, calculates, stores_at) = subst (λ i. TrapsAt i after cause.Index line) (sym is) (ap (λ p. accessed (subscript_by Sizes None at line) p (λ place. stop.Load 0 place (into + 2) calculate)) none)
      outside (Some o) (Some k) node none (calculate, store, is, calculates, stores_at) = subst (λ i. TrapsAt i after cause.Index line) (sym is) (ap (λ p. accessed (subscript_by Sizes (Some k) at line) p (λ place. stop.Load k place (into + 2) calculate)) none)

      places : (op : Option Bin) (a : Option ℕ) (node : ℕ) → WritesBy op (subscript_by Sizes a at line) value (into + 2) line next code node
          → Follows code (inside line (option_and_then (λ (n : ℕ). option_map (λ (p : ℕ). (n, p)) (place_in (slice_index_or Sizes n 0) (value_of after at))) a) (λ array n. writing line op array n (value_of after value) (go scalars))) node after
      places op None node is = outside op None node (no_place (value_of after at)) is
      places op (Some k) node is = by (place_in (slice_index_or Sizes k 0) (value_of after at)) refl where
        by : (p : Option ℕ) → place_in (slice_index_or Sizes k 0) (value_of after at) ≡ p → Follows code (inside line (option_map (λ (p : ℕ). (k, p)) p) (λ array n. writing line op array n (value_of after value) (go scalars))) node after
        by None none = outside op (Some k) node none is
        by (Some q) there = written k q there op node is

    pub write_carries : (op : Option Bin) (place f : Reckoning) (value_start start : ℕ) → WritesBy op (subscript_of program name at line) value (into + 2) line next code entry
        → ReckonsBy program locals line place at into value_start code start → ReckonsBy program locals line f value (into + 1) entry code value_start
        → Carries program locals (λ scalars go. place line scalars (λ v. f line scalars (λ right. inside line (located (arrays_of program.decls) name v) (λ array n. writing line op array n right (go scalars))))) into next code start
    write_carries op place f value_start start is on_place on_value scalars frame go holds goes =
        on_place scalars frame (λ v. f line scalars (λ right. inside line (located (arrays_of program.decls) name v) (λ array n. writing line op array n right (go scalars)))) holds
        (λ mid first. let held_mid = holds_kept program locals into scalars frame mid holds first in
        on_value scalars mid (λ right. inside line (located (arrays_of program.decls) name (value_of mid at)) (λ array n. writing line op array n right (go scalars))) held_mid
        (λ after second.
        subst (λ v. Follows code (inside line (located (arrays_of program.decls) name v) (λ array n. writing line op array n (value_of after value) (go scalars))) entry after) (at_stays mid after second)
        (places scalars frame after go (holds_kept program locals (into + 1) scalars mid after held_mid second) (keeps_then into (into + 1) frame mid after (omega arith) first second) goes op (array_of (arrays_of program.decls) name) entry is)))
