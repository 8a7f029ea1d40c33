-- The code that is added for statements, from the code that is added for their parts.
use Rattle.std.proofs.Common.{◌≡◌, ℕ, suc, ◌+◌, ◌<◌, ◌≤◌, ℤ, Bool, true, false, if◌then◌else◌, Option, Some, None, List, [], ◌∷◌, ◌++◌, map, length, drop, get_or, slice_set, refl, sym, ap, ◌∙◌, subst, length-append, arith}
use Rattle.std.proofs.lemmas.List.{get_or-set_same, get_or-set_other, length-set, get_or_append_left}
use Rattle.std.proofs.lemmas.List.{drop_all, drop_more}
use Rattle.nest_syntax.specs.declared.names.Line.{Line}
use Rattle.nest_syntax.specs.declared.operators.Bin.{Bin}
use Rattle.nest_syntax.specs.declared.operators.Op.{Op as Change}
use Rattle.nest_syntax.specs.declared.tree.Expr.{Expr}
use Rattle.nest_syntax.specs.declared.tree.Arm.{Arm}
use Rattle.nest_syntax.specs.declared.tree.Loop.{Loop}
use Rattle.nest_syntax.specs.declared.tree.Stmt.{Stmt}
use Rattle.nest_syntax.specs.declared.tree.Stmt.TheVariants as stmt
use Rattle.nest_syntax.specs.declared.tree.Program.{Program}
use Rattle.nest_syntax.specs.Words.{operation_of}
use Rattle.nest_syntax.specs.Arrays.{Array, arrays_of}
use Rattle.nest_syntax.specs.Turn.{Effect, Arm_effect, reckoning, sequence, choose, effect, loop_effect}
use Rattle.nest_syntax.proofs.Equations.{arm_effect, effect-declare, effect-assign, effect-write, effect-if, effect-loop, arm_effect-is, loop_effect-is}
use Rattle.task_hop.specs.declared.frame.Frame.{Frame}
use Rattle.task_hop.specs.declared.end.Jump.TheVariants as jump
use Rattle.task_hop.specs.declared.end.Round.{Round}
use Rattle.task_hop.specs.Registers.{value_of}
use Rattle.task_hop.specs.declared.frame.Register.{Register}
use Rattle.task_hop.specs.declared.frame.Register.TheVariants as register
use Rattle.task_hop.specs.declared.frame.Operand.{Operand}
use Rattle.task_hop.specs.declared.frame.Operand.TheVariants as operand
use Rattle.task_hop.specs.declared.operation.Operation.TheVariants as operation
use Rattle.task_hop.specs.declared.end.End.TheVariants as end
use Rattle.task_hop.specs.declared.end.Subscript.{Subscript}
use Rattle.task_code.specs.declared.code.Instruction.{Instruction}
use Rattle.task_code.specs.declared.code.Instruction.TheVariants as instruction
use Rattle.task_code.specs.Code.{instruction_at}
use Rattle.task_code.specs.Ready.{register_of, operand_of, subscript_of}
use Rattle.task_code.specs.Compiled.{Emits, Keeps, Reckons, Carries, GivesBy, WritesBy, straight}
use Rattle.task_code.proofs.Emitted.{emits_nothing, emits_then, emits_same}
use Rattle.task_code.proofs.Frames.{operand_kept}
use Rattle.task_code.proofs.Blocks.{none_carries, more_carries, arm_carries, assign_carries, write_carries}
use Rattle.task_code.proofs.Rounds.{loop_carries}

-- `op=` of a register
pub gives_code : (a b c : List Instruction) (o : Bin) (r : Register) (value : Operand) (into : ℕ) (line : Line) (next give entry : ℕ)
    → Emits a b (λ code. instruction_at code give ≡ instruction.Then (operation.Give r (operand.Held (register.Temporary into))) next)
    → Emits b c (λ code. instruction_at code entry ≡ instruction.Then (operation.Binary o (operand.Held r) value (register.Temporary into) line) give)
    → Emits a c (λ code. GivesBy (Some o) r value into line next code entry)
gives_code a b c o r value into line next give entry first second = emits_then a b c _ _ (λ code. GivesBy (Some o) r value into line next code entry) first second (λ code is_give is_entry. (give, is_entry, is_give))

-- `op=` of a word
module _ (o : Bin) (to : Subscript) (value : Operand) (into : ℕ) (line : Line) (next store calculate entry : ℕ) where
  abbrev Stores : List Instruction → Type 0
  Stores code = instruction_at code store ≡ instruction.End (end.Store to (operand.Held (register.Temporary into)) next)

  abbrev Calculates : List Instruction → Type 0
  Calculates code = instruction_at code calculate ≡ instruction.Then (operation.Binary o (operand.Held (register.Temporary into)) value (register.Temporary into) line) store

  pub writes_code : (a b c d : List Instruction) → Emits a b Stores → Emits b c Calculates → Emits c d (λ code. instruction_at code entry ≡ instruction.End (end.Load to into calculate))
      → Emits a d (λ code. WritesBy (Some o) to value into line next code entry)
  writes_code a b c d first second third =
      let both : Emits a c (λ code. Stores code × Calculates code) = emits_then a b c Stores Calculates (λ code. Stores code × Calculates code) first second (λ code is_store is_calculate. (is_store, is_calculate)) in
      emits_then a c d (λ code. Stores code × Calculates code) _ (λ code. WritesBy (Some o) to value into line next code entry) both third (λ code is is_load. (calculate, store, is_load, is.1, is.0))

-- a place that is kept for an instruction, and filled behind what follows it
pub patched_code : (old new : List Instruction) (kept filled : Instruction) (at : ℕ) (P : List Instruction → Type 0) → at ≡ length old → Emits (old ++ kept ∷ []) new P
    → Emits old (slice_set new at filled) (λ code. (instruction_at code at ≡ filled) × P code)
patched_code old new kept filled at P place emits = record {
  longer = omega (arith, many, emits.longer, length-set new at filled);
  kept = λ other inside. get_or-set_other new at other filled (instruction.End end.Finish) (λ same. omega (arith, same, place, inside))
      ∙ emits.kept other (omega (arith, many, inside)) ∙ get_or_append_left old (kept ∷ []) (instruction.End end.Finish) other inside;
  does = λ code same. (
    same at (omega (arith, place)) (omega (arith, place, many, emits.longer, length-set new at filled)) ∙ get_or-set_same new at filled (instruction.End end.Finish) (omega (arith, place, many, emits.longer)),
    emits.does code (λ other from inside. same other (omega (arith, from, many)) (omega (arith, inside, length-set new at filled)) ∙ get_or-set_other new at other filled (instruction.End end.Finish) (λ e. omega (arith, e, from, many, place))),
  );
} where
  many : length (old ++ kept ∷ []) ≡ length old + 1
  many = grind (arith, length-append)

module _ (program : Program) (locals : List ℕ) (into next : ℕ) where
  abbrev pub Runs : Effect → ℕ → List Instruction → Type 0
  Runs f entry code = Carries program locals f into next code entry

  abbrev pub The_arrays : List Array
  The_arrays = arrays_of program.decls

  abbrev pub effects : List Stmt → Effect
  effects stmts = sequence (map (effect The_arrays) stmts)

  pub block_begins : (old : List Instruction) (stmts : List Stmt) → Emits old old (Runs (effects (drop (length stmts) stmts)) next)
  block_begins old stmts = subst (λ rest. Emits old old (Runs (effects rest) next)) (sym (drop_all (length stmts) stmts (omega arith)))
      (emits_nothing old (Runs (effects []) next) (λ code. none_carries program locals code into next))

  -- a statement before those that are there
  pub block_more : (a b c : List Instruction) (stmts : List Stmt) (i j : ℕ) (s : Stmt) (mid entry : ℕ) → j ≡ i + 1 → i < length stmts → s ≡ get_or stmts i s → Emits a b (Runs (effects (drop j stmts)) mid)
      → Emits b c (λ code. Carries program locals (effect The_arrays s) into mid code entry) → Emits a c (Runs (effects (drop i stmts)) entry)
  block_more a b c stmts i j s mid entry behind inside is others first =
      subst (λ rest. Emits a c (Runs (effects rest) entry)) (sym (drop_more stmts i s inside ∙ ap (λ x. x ∷ drop (i + 1) stmts) (sym is)))
      (emits_then a b c (Runs (effects (drop (i + 1) stmts)) mid) (λ code. Carries program locals (effect The_arrays s) into mid code entry) (Runs (effects (s ∷ drop (i + 1) stmts)) entry) (subst (λ k. Emits a b (Runs (effects (drop k stmts)) mid)) behind others) first
      (λ code on_others on_first. more_carries program locals code into next mid entry (effect The_arrays s) (map (effect The_arrays) (drop (i + 1) stmts)) on_first on_others))

  -- arms, before whatever the `if` does otherwise
  abbrev pub ArmsRun : List Arm → ℕ → ℕ → List Instruction → Type 0
  ArmsRun arms otherwise entry code = (other : Effect) → Runs other otherwise code → Runs (choose (map (arm_effect The_arrays) arms) other) entry code

  abbrev pub ArmRuns : Arm → ℕ → ℕ → List Instruction → Type 0
  ArmRuns arm otherwise entry code = (other : Effect) → Runs other otherwise code → Runs (λ scalars go. arm_effect The_arrays arm scalars (other scalars go) go) entry code

  pub arms_begin : (old : List Instruction) (arms : List Arm) (otherwise : ℕ) → Emits old old (ArmsRun (drop (length arms) arms) otherwise otherwise)
  arms_begin old arms otherwise = subst (λ rest. Emits old old (ArmsRun rest otherwise otherwise)) (sym (drop_all (length arms) arms (omega arith)))
      (emits_nothing old (ArmsRun [] otherwise otherwise) (λ code other runs. runs))

  pub arms_more : (a b c : List Instruction) (arms : List Arm) (i j : ℕ) (arm : Arm) (otherwise mid entry : ℕ) → j ≡ i + 1 → i < length arms → arm ≡ get_or arms i arm → Emits a b (ArmsRun (drop j arms) otherwise mid)
      → Emits b c (ArmRuns arm mid entry) → Emits a c (ArmsRun (drop i arms) otherwise entry)
  arms_more a b c arms i j arm otherwise mid entry behind inside is others first =
      subst (λ rest. Emits a c (ArmsRun rest otherwise entry)) (sym (drop_more arms i arm inside ∙ ap (λ x. x ∷ drop (i + 1) arms) (sym is)))
      (emits_then a b c (ArmsRun (drop (i + 1) arms) otherwise mid) (ArmRuns arm mid entry) (ArmsRun (arm ∷ drop (i + 1) arms) otherwise entry) (subst (λ k. Emits a b (ArmsRun (drop k arms) otherwise mid)) behind others) first
      (λ code on_others on_first other runs. on_first (choose (map (arm_effect The_arrays) (drop (i + 1) arms)) other) (on_others other runs)))

  pub arm_code : (a b c d : List Instruction) (arm : Arm) (otherwise block test entry : ℕ) → Emits a b (Runs (effects arm.body) block)
      → Emits b c (λ code. instruction_at code test ≡ instruction.End (end.Go (jump.Branch (operand_of program locals into arm.test) (straight otherwise) (straight block))))
      → Emits c d (λ code. Reckons program locals arm.line arm.test into test code entry) → Emits a d (ArmRuns arm otherwise entry)
  arm_code a b c d arm otherwise block test entry on_body branch on_test =
      let both = emits_then a b c (Runs (effects arm.body) block) _ (λ code. Runs (effects arm.body) block code × (instruction_at code test ≡ instruction.End (end.Go (jump.Branch (operand_of program locals into arm.test) (straight otherwise) (straight block))))) on_body branch (λ code runs is. (runs, is)) in
      emits_then a c d _ _ (ArmRuns arm otherwise entry) both on_test
      (λ code runs reckons other runs_other. subst (λ (f : Arm_effect). Runs (λ scalars go. f scalars (other scalars go) go) entry code) (sym (arm_effect-is The_arrays arm))
      (arm_carries program locals code arm.line into next otherwise block test entry (reckoning The_arrays arm.test) (operand_of program locals into arm.test) (effects arm.body) other runs.1 reckons runs.0 runs_other))

  pub if_code : (a b c : List Instruction) (arms : List Arm) (other : List Stmt) (otherwise entry : ℕ) → Emits a b (Runs (effects other) otherwise) → Emits b c (ArmsRun arms otherwise entry)
      → Emits a c (Runs (effect The_arrays (stmt.If arms other)) entry)
  if_code a b c arms other otherwise entry on_other on_arms = emits_then a b c (Runs (effects other) otherwise) (ArmsRun arms otherwise entry) (Runs (effect The_arrays (stmt.If arms other)) entry) on_other on_arms
      (λ code runs arms_run. subst (λ (f : Effect). Runs f entry code) (sym (effect-if The_arrays arms other)) (arms_run (effects other) runs))

  -- a name is given a value
  module _ (few : into < 32) (line : Line) (name slot : ℕ) (is : register_of program locals name ≡ Some (register.Local slot)) (e : Expr) (given entry : ℕ) where
    pub declare_code : (a b c : List Instruction) → Emits a b (λ code. GivesBy None (register.Local slot) (operand_of program locals into e) into line next code given) → Emits b c (λ code. Reckons program locals line e into given code entry)
        → Emits a c (Runs (effect The_arrays (stmt.Declare line name e)) entry)
    declare_code a b c gives on_value = emits_then a b c _ _ (Runs (effect The_arrays (stmt.Declare line name e)) entry) gives on_value
        (λ code give reckons. subst (λ (f : Effect). Runs f entry code) (sym (effect-declare The_arrays line name e))
        (assign_carries program locals code line into next given few name slot is None (reckoning The_arrays e) (operand_of program locals into e) entry give reckons))

    pub assign_code : (a b c : List Instruction) (o : Change) → Emits a b (λ code. GivesBy (operation_of o) (register.Local slot) (operand_of program locals into e) into line next code given) → Emits b c (λ code. Reckons program locals line e into given code entry)
        → Emits a c (Runs (effect The_arrays (stmt.Assign line name o e)) entry)
    assign_code a b c o gives on_value = emits_then a b c _ _ (Runs (effect The_arrays (stmt.Assign line name o e)) entry) gives on_value
        (λ code give reckons. subst (λ (f : Effect). Runs f entry code) (sym (effect-assign The_arrays line name o e))
        (assign_carries program locals code line into next given few name slot is (operation_of o) (reckoning The_arrays e) (operand_of program locals into e) entry give reckons))

  stays_two : (e : Expr) (frame after : Frame) → Keeps (into + 2) frame after → value_of after (operand_of program locals (into + 1) e) ≡ value_of frame (operand_of program locals (into + 1) e)
  stays_two e frame after keeps = operand_kept program locals (into + 1) e frame after (subst (λ n. Keeps n frame after) two keeps) where
    two : into + 2 ≡ into + 1 + 1
    two = omega arith

  pub write_code : into + 2 < 32 → (a b c d : List Instruction) (line : Line) (name : ℕ) (place : Expr) (o : Change) (e : Expr) (written right entry : ℕ)
      → Emits a b (λ code. WritesBy (operation_of o) (subscript_of program name (operand_of program locals into place) line) (operand_of program locals (into + 1) e) (into + 2) line next code written)
      → Emits b c (λ code. Reckons program locals line e (into + 1) written code right) → Emits c d (λ code. Reckons program locals line place into right code entry)
      → Emits a d (Runs (effect The_arrays (stmt.Write line name place o e)) entry)
  write_code few a b c d line name place o e written right entry writes on_value on_place =
      let both = emits_then a b c _ _ (λ code. WritesBy (operation_of o) (subscript_of program name (operand_of program locals into place) line) (operand_of program locals (into + 1) e) (into + 2) line next code written × Reckons program locals line e (into + 1) written code right)
      writes on_value (λ code write reckons. (write, reckons)) in
      emits_then a c d _ _ (Runs (effect The_arrays (stmt.Write line name place o e)) entry) both on_place
      (λ code done reckons. subst (λ (f : Effect). Runs f entry code) (sym (effect-write The_arrays line name place o e))
      (write_carries program locals code line into next written few name (operand_of program locals into place) (operand_of program locals (into + 1) e) (operand_kept program locals into place) (stays_two e)
      (operation_of o) (reckoning The_arrays place) (reckoning The_arrays e) right entry done.0 reckons done.1))

  -- a loop
  module _ (few : into + 1 < 32) (l : Loop) (slot : ℕ) (is : register_of program locals l.name ≡ Some (register.Local slot)) (positive : 0 < l.step) (again block header high entry : ℕ) where
    abbrev pub round_of : Round
    round_of = record { variable = (register.Local slot); value = register.Temporary into; last = register.Temporary (into + 1); step = l.step; body = block; behind = next }

    abbrev pub Turns : List Instruction → Type 0
    Turns code = (instruction_at code again ≡ instruction.End (end.Go (jump.Again round_of))) × Carries program locals (effects l.body) (into + 2) again code block

    abbrev pub Enters : List Instruction → Type 0
    Enters code = instruction_at code header ≡ instruction.End (end.Go (jump.Enter (operand_of program locals into l.low) (operand_of program locals (into + 1) l.high) l.through l.line round_of))

    pub loop_code : (a b c d e : List Instruction) → Emits a b Turns → Emits b c Enters → Emits c d (λ code. Reckons program locals l.line l.high (into + 1) header code high)
        → Emits d e (λ code. Reckons program locals l.line l.low into high code entry) → Emits a e (Runs (loop_effect The_arrays l) entry)
    loop_code a b c d e turn enter on_high on_low =
        let to_header : Emits a c (λ code. Turns code × Enters code) = emits_then a b c Turns Enters (λ code. Turns code × Enters code) turn enter (λ code turns enters. (turns, enters)) in
        let to_high : Emits a d (λ code. (Turns code × Enters code) × Reckons program locals l.line l.high (into + 1) header code high) =
        emits_then a c d (λ code. Turns code × Enters code) _ (λ code. (Turns code × Enters code) × Reckons program locals l.line l.high (into + 1) header code high) to_header on_high (λ code done reckons. (done, reckons)) in
        emits_then a d e _ _ (Runs (loop_effect The_arrays l) entry) to_high on_low
        (λ code done reckons. subst (λ (f : Effect). Runs f entry code) (sym (loop_effect-is The_arrays l))
        (loop_carries program locals code into next again block few l.name slot is l.step positive (effects l.body) done.0.0.1 done.0.0.0 l.line header l.through (operand_of program locals into l.low) (operand_of program locals (into + 1) l.high) done.0.1
        (reckoning The_arrays l.low) (reckoning The_arrays l.high) high entry (operand_kept program locals into l.low) reckons done.1))

  pub loop_stmt_code : (a b : List Instruction) (l : Loop) (entry : ℕ) → Emits a b (Runs (loop_effect The_arrays l) entry) → Emits a b (Runs (effect The_arrays (stmt.Loop l)) entry)
  loop_stmt_code a b l entry runs = emits_same a b (Runs (loop_effect The_arrays l) entry) (Runs (effect The_arrays (stmt.Loop l)) entry) runs (λ code run. subst (λ (f : Effect). Runs f entry code) (sym (effect-loop The_arrays l)) run)
