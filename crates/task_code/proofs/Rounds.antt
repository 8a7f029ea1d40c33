-- What the code of a loop does: its header, and its turns one after the other.
use Rattle.std.proofs.Common.{◌≡◌, ℕ, zero, suc, ◌+◌, ◌*◌, ◌<◌, ◌≤◌, ℤ, pos, ◌+ℤ◌, Bool, true, false, if◌then◌else◌, int_lt, Option, Some, None, Result, Ok, Err, List, length, slice_index_or, refl, sym, ap, ◌∙◌, subst, arith}
use Rattle.std.proofs.lemmas.Int.{ints}
use Rattle.std.proofs.lemmas.List.{get_or-set_other}
use Rattle.std.proofs.Math.Nat.{mul-lt-mul_of_pos_right}
use Rattle.nest_syntax.specs.declared.names.Line.{Line}
use Rattle.nest_syntax.specs.declared.operators.Cause.{Cause}
use Rattle.nest_syntax.specs.declared.tree.Program.{Program}
use Rattle.nest_syntax.specs.Words.{turns, counted, variable}
use Rattle.nest_syntax.specs.Value.{with_scalar}
use Rattle.nest_syntax.specs.Turn.{Turn, Go, Effect, Reckoning, repeat, looping}
use Rattle.task_hop.specs.declared.frame.Frame.{Frame}
use Rattle.task_hop.specs.declared.frame.Register.{Register}
use Rattle.task_hop.specs.declared.frame.Register.TheVariants as register
use Rattle.task_hop.specs.declared.frame.Operand.{Operand}
use Rattle.task_hop.specs.declared.end.End.TheVariants as end
use Rattle.task_hop.specs.declared.end.Jump.TheVariants as jump
use Rattle.task_hop.specs.declared.end.Round.{Round}
use Rattle.task_hop.specs.Registers.{held, with_register, value_of}
use Rattle.task_hop.specs.Meaning.{Reached, ended, going, turned, entered, entered_with, next_value}
use Rattle.task_code.specs.declared.code.Instruction.{Instruction}
use Rattle.task_code.specs.declared.code.Instruction.TheVariants as instruction
use Rattle.task_code.specs.Code.{instruction_at}
use Rattle.task_code.specs.Follows.{TrapsAt, Follows}
use Rattle.task_code.specs.Ready.{register_of}
use Rattle.task_code.specs.Compiled.{Holds, Keeps, KeepsBelow, ReckonsBy, Carries}
use Rattle.task_code.proofs.Frames.{temporary_set, keeps_then, keeps_set, holds_kept}
use Rattle.task_code.proofs.Given.{holds_given, gives_below, gives_held}

-- values of a loop's variable
earlier : (low : ℤ) (x y : ℕ) → x < y → int_lt (low +ℤ pos x) (low +ℤ pos y) ≡ true
earlier low x y less = by (int_lt (low +ℤ pos x) (low +ℤ pos y)) refl where
  wrong : int_lt (low +ℤ pos x) (low +ℤ pos y) ≡ false → ⊥
  wrong e = omega (arith, ints, e, less)

  by : (b : Bool) → int_lt (low +ℤ pos x) (low +ℤ pos y) ≡ b → int_lt (low +ℤ pos x) (low +ℤ pos y) ≡ true
  by true e = e
  by false e = elim (wrong e) [ ]

not_earlier : (v : ℤ) → int_lt v v ≡ false
not_earlier v = by (int_lt v v) refl where
  wrong : int_lt v v ≡ true → ⊥
  wrong e = omega (arith, ints, e)

  by : (b : Bool) → int_lt v v ≡ b → int_lt v v ≡ false
  by true e = elim (wrong e) [ ]
  by false e = e

moved_on : (low : ℤ) (x s : ℕ) → (low +ℤ pos x) +ℤ pos s ≡ low +ℤ pos (x + s)
moved_on low x s = omega (arith, ints)

begins : (low : ℤ) → low +ℤ pos 0 ≡ low
begins low = omega (arith, ints)

one_more : (k step : ℕ) → k * step + step ≡ suc k * step
one_more k step = omega arith

first_value : (low : ℤ) (step : ℕ) → variable low step 0 ≡ low
first_value low step = ap (λ n. low +ℤ pos n) (none step) ∙ begins low where
  none : (step : ℕ) → 0 * step ≡ 0
  none step = omega arith

step_on : (low : ℤ) (step k : ℕ) → variable low step k +ℤ pos step ≡ variable low step (suc k)
step_on low step k = moved_on low (k * step) step ∙ ap (λ n. low +ℤ pos n) (one_more k step)

before : (low : ℤ) (step k top : ℕ) → 0 < step → k < top → int_lt (variable low step k) (variable low step top) ≡ true
before low step k top positive less = earlier low (k * step) (top * step) (mul-lt-mul_of_pos_right less positive)

-- the value behind one that isn't the last
next_is : (low : ℤ) (step k top m : ℕ) → 0 < step → suc k + m ≡ top → next_value (variable low step k) step (variable low step top) ≡ variable low step (suc k)
next_is low step k top zero positive sum =
    let same : suc k ≡ top = omega (arith, sum) in
    let on : variable low step k +ℤ pos step ≡ variable low step top = step_on low step k ∙ ap (variable low step) same in
    ap (λ v. if int_lt v (variable low step top) then v else variable low step top) on ∙ ap (λ b. if b then variable low step top else variable low step top) (not_earlier (variable low step top)) ∙ ap (variable low step) (sym same)
next_is low step k top (suc m) positive sum =
    let less : suc k < top = omega (arith, sum) in
    ap (λ v. if int_lt v (variable low step top) then v else variable low step top) (step_on low step k) ∙ ap (λ b. if b then variable low step (suc k) else variable low step top) (before low step (suc k) top positive less)

module _ (program : Program) (locals : List ℕ) (code : List Instruction) (into next again block : ℕ) (few : into + 1 < 32) (name slot : ℕ) (is : register_of program locals name ≡ Some (register.Local slot))
    (step : ℕ) (positive : 0 < step) (body : Effect) (on_body : Carries program locals body (into + 2) again code block) where
  abbrev pub the_round : Round
  the_round = record { variable = (register.Local slot); value = register.Temporary into; last = register.Temporary (into + 1); step = step; body = block; behind = next }

  fewer : into < 32
  fewer = omega (arith, few)

  module _ (at_again : instruction_at code again ≡ instruction.End (end.Go (jump.Again the_round))) where
    -- a turn begins: the variable and its register have its value, and another register the last one's
    abbrev InTurn : ℤ → ℕ → ℕ → List ℤ → Frame → Type 0
    InTurn low k top scalars frame = Holds program locals (with_scalar scalars name (variable low step k)) frame × (held frame (register.Temporary into) ≡ variable low step k) × (held frame (register.Temporary (into + 1)) ≡ variable low step top)

    begin_turn : Frame → ℤ → Frame
    begin_turn frame value = with_register (with_register frame (register.Temporary into) value) (register.Local slot) value

    in_turn : (low : ℤ) (k top : ℕ) (scalars : List ℤ) (frame : Frame) → Holds program locals scalars frame → held frame (register.Temporary (into + 1)) ≡ variable low step top → InTurn low k top scalars (begin_turn frame (variable low step k))
    unfolding begin_turn
    in_turn low k top scalars frame holds last =
        let value = variable low step k in
        let mid = with_register frame (register.Temporary into) value in
        let holds_mid = holds_kept program locals into scalars frame mid holds (keeps_set into into frame value (omega arith)) in
        let inside = holds.inside name (register.Local slot) is in (
          holds_given program locals scalars mid name slot value holds_mid is,
          gives_held program locals mid (register.Local slot) value into inside ∙ temporary_set frame into value holds.temps fewer,
          gives_held program locals mid (register.Local slot) value (into + 1) inside ∙ get_or-set_other frame.temps into (into + 1) value (pos 0) (λ e. omega (arith, e)) ∙ last,
        )

    turn_below : (start frame : Frame) (value : ℤ) (scalars : List ℤ) → Holds program locals scalars frame → KeepsBelow into start frame → KeepsBelow into start (begin_turn frame value)
    unfolding begin_turn
    turn_below start frame value scalars holds keeps n below =
        gives_below program locals into (with_register frame (register.Temporary into) value) (register.Local slot) value (holds.inside name (register.Local slot) is) n below ∙ (keeps_set into into frame value (omega arith)).temps n below ∙ keeps n below

    -- behind a turn
    module _ (low : ℤ) (k top : ℕ) (after : Frame) (value_now : held after (register.Temporary into) ≡ variable low step k) (last_now : held after (register.Temporary (into + 1)) ≡ variable low step top) where
      chosen : ended (end.Go (jump.Again the_round)) after ≡ (if int_lt (variable low step k) (variable low step top) then turned the_round (next_value (variable low step k) step (variable low step top)) after else going next after)
      chosen =
          ap (λ v. if int_lt v (held after (register.Temporary (into + 1))) then turned the_round (next_value v step (held after (register.Temporary (into + 1)))) after else going next after) value_now
          ∙ ap (λ v. if int_lt (variable low step k) v then turned the_round (next_value (variable low step k) step v) after else going next after) last_now

      leaves : k ≡ top → ended (end.Go (jump.Again the_round)) after ≡ going next after
      leaves same = chosen ∙ ap (λ b. if b then turned the_round (next_value (variable low step k) step (variable low step top)) after else going next after)
          (ap (λ n. int_lt (variable low step n) (variable low step top)) same ∙ not_earlier (variable low step top))

      stays : (m : ℕ) → suc k + m ≡ top → k < top → ended (end.Go (jump.Again the_round)) after ≡ going block (begin_turn after (variable low step (suc k)))
      unfolding begin_turn
      stays m further less = chosen ∙ ap (λ b. if b then turned the_round (next_value (variable low step k) step (variable low step top)) after else going next after) (before low step k top positive less)
          ∙ ap (λ v. turned the_round v after) (next_is low step k top m positive further)

    module _ (low : ℤ) (top : ℕ) (start : Frame) (go : List ℤ → Turn)
        (goes : (later : List ℤ) (last : Frame) → Holds program locals later last → KeepsBelow into start last → Follows code (go later) next last) where
      abbrev pub turns_from : ℕ → ℕ → List ℤ → Turn
      turns_from m k scalars = body (with_scalar scalars name (variable low step k)) (λ after. Go (repeat m (suc k) (variable low step) name body after go))

      value_kept : (frame after : Frame) (k : ℕ) → KeepsBelow (into + 2) frame after → held frame (register.Temporary into) ≡ variable low step k → held after (register.Temporary into) ≡ variable low step k
      value_kept frame after k kept value = kept into (omega arith) ∙ value

      last_kept : (frame after : Frame) → KeepsBelow (into + 2) frame after → held frame (register.Temporary (into + 1)) ≡ variable low step top → held after (register.Temporary (into + 1)) ≡ variable low step top
      last_kept frame after kept last = kept (into + 1) (omega arith) ∙ last

      both_below : (frame after : Frame) → KeepsBelow (into + 2) frame after → KeepsBelow into start frame → KeepsBelow into start after
      both_below frame after kept keeps n less = kept n (omega (arith, less)) ∙ keeps n less

      pub turns_follow : (m k : ℕ) → k + m ≡ top → (scalars : List ℤ) (frame : Frame) → InTurn low k top scalars frame → KeepsBelow into start frame → Follows code (turns_from m k scalars) block frame
      turns_follow zero k sum scalars frame (holds, value, last) keeps = on_body (with_scalar scalars name (variable low step k)) frame (λ after. Go (go after)) holds
          (λ later after held_after kept.
          let same : k ≡ top = omega (arith, sum) in (
            end.Go (jump.Again the_round),
            next,
            after,
            at_again,
            leaves low k top after (value_kept frame after k kept value) (last_kept frame after kept last) same,
            goes later after held_after (both_below frame after kept keeps),
          ))
      turns_follow (suc m) k sum scalars frame (holds, value, last) keeps = on_body (with_scalar scalars name (variable low step k)) frame (λ after. Go (turns_from m (suc k) after)) holds
          (λ later after held_after kept.
          let less : k < top = omega (arith, sum) in
          let further : suc k + m ≡ top = omega (arith, sum) in
          let last_now = last_kept frame after kept last in (
            end.Go (jump.Again the_round),
            block,
            begin_turn after (variable low step (suc k)),
            at_again,
            stays low k top after (value_kept frame after k kept value) last_now m further less,
            turns_follow m (suc k) further later (begin_turn after (variable low step (suc k))) (in_turn low (suc k) top later after held_after last_now)
                (turn_below start after (variable low step (suc k)) later held_after (both_below frame after kept keeps)),
          ))

    -- the header
    module _ (line : Line) (header : ℕ) (through : Bool) (low_at high_at : Operand) (at_header : instruction_at code header ≡ instruction.End (end.Go (jump.Enter low_at high_at through line the_round))) where
      module _ (low high : ℤ) (scalars : List ℤ) (start after : Frame) (go : List ℤ → Turn) (holds : Holds program locals scalars after) (keeps : Keeps into start after)
          (low_is : value_of after low_at ≡ low) (high_is : value_of after high_at ≡ high)
          (goes : (later : List ℤ) (last : Frame) → Holds program locals later last → KeepsBelow into start last → Follows code (go later) next last) where
        header_is : (c : Result ℕ Cause) → counted (turns low high step through) ≡ c → ended (end.Go (jump.Enter low_at high_at through line the_round)) after ≡ entered_with the_round line low c after
        header_is c counts = ap (λ v. entered_with the_round line v (counted (turns v (value_of after high_at) step through)) after) low_is
            ∙ ap (λ v. entered_with the_round line low (counted (turns low v step through)) after) high_is ∙ ap (λ n. entered_with the_round line low n after) counts

        ready_frame : ℕ → Frame
        ready_frame top = with_register after (register.Temporary (into + 1)) (variable low step top)

        ready_keeps : (top : ℕ) → Keeps into after (ready_frame top)
        unfolding ready_frame
        ready_keeps top = keeps_set into (into + 1) after (variable low step top) (omega arith)

        enters : (c : Result ℕ Cause) → counted (turns low high step through) ≡ c → Follows code (looping line c (variable low step) name body scalars go) header after
        unfolding begin_turn ready_frame
        enters (Err cause) counts = subst (λ i. TrapsAt i after cause line) (sym at_header) (ap (λ (reached : Reached). reached.stop) (header_is (Err cause) counts))
        enters (Ok zero) counts = (end.Go (jump.Enter low_at high_at through line the_round), next, after, at_header, header_is (Ok zero) counts, goes scalars after holds keeps.temps)
        enters (Ok (suc top)) counts =
            let holds_ready = holds_kept program locals into scalars after (ready_frame top) holds (ready_keeps top) in
            let below : KeepsBelow into start (ready_frame top) = λ n less. (ready_keeps top).temps n less ∙ keeps.temps n less in (
              end.Go (jump.Enter low_at high_at through line the_round),
              block,
              begin_turn (ready_frame top) (variable low step 0),
              at_header,
              header_is (Ok (suc top)) counts ∙ ap (λ v. going block (begin_turn (ready_frame top) v)) (sym (first_value low step)),
              turns_follow low top start go goes top 0 (from_first top) scalars (begin_turn (ready_frame top) (variable low step 0))
                  (in_turn low 0 top scalars (ready_frame top) holds_ready (temporary_set after (into + 1) (variable low step top) holds.temps few))
                  (turn_below start (ready_frame top) (variable low step 0) scalars holds_ready below),
            ) where
              from_first : (top : ℕ) → 0 + top ≡ top
              from_first top = omega arith

      pub loop_carries : (low_of high_of : Reckoning) (high_start start : ℕ) → ((frame after : Frame) → Keeps (into + 1) frame after → value_of after low_at ≡ value_of frame low_at)
          → ReckonsBy program locals line low_of low_at into high_start code start → ReckonsBy program locals line high_of high_at (into + 1) header code high_start
          → Carries program locals (λ scalars go. low_of line scalars (λ low. high_of line scalars (λ high. looping line (counted (turns low high step through)) (variable low step) name body scalars go))) into next code start
      loop_carries low_of high_of high_start start stays_low on_low on_high scalars frame go holds goes =
          on_low scalars frame (λ low. high_of line scalars (λ high. looping line (counted (turns low high step through)) (variable low step) name body scalars go)) holds
          (λ mid first. let held_mid = holds_kept program locals into scalars frame mid holds first in
          on_high scalars mid (λ high. looping line (counted (turns (value_of mid low_at) high step through)) (variable (value_of mid low_at) step) name body scalars go) held_mid
          (λ after second. enters (value_of mid low_at) (value_of after high_at) scalars frame after go (holds_kept program locals (into + 1) scalars mid after held_mid second)
          (keeps_then into (into + 1) frame mid after (omega arith) first second) (stays_low mid after second) refl goes (counted (turns (value_of mid low_at) (value_of after high_at) step through)) refl))
