-- Where code follows a turn, its hops unfold to the cut turn.
use Rattle.std.proofs.Common.{◌≡◌, ℕ, zero, suc, ◌+◌, ℤ, Bool, true, false, if◌then◌else◌, Result, Ok, List, refl, sym, ap, subst, arith}
use Rattle.nest_syntax.specs.declared.names.Line.{Line}
use Rattle.nest_syntax.specs.declared.operators.Cause.{Cause}
use Rattle.nest_syntax.specs.Turn.{Turn, Finished, Trapped, Load, Store, Op, Go}
use Rattle.settle_law.specs.Cuts.{cut, pausing, is_full, one_more}
use Rattle.settle_law.specs.Cuts as cuts
use Rattle.task_hop.specs.declared.frame.Frame.{Frame}
use Rattle.task_hop.specs.declared.frame.Register.TheVariants as register
use Rattle.task_hop.specs.declared.stop.Stop.{Stop}
use Rattle.task_hop.specs.Registers.{with_register}
use Rattle.task_hop.specs.Meaning.{Reached, meaning, onward, carried_out}
use Rattle.task_code.specs.declared.code.Instruction.{Instruction}
use Rattle.task_code.specs.declared.code.Instruction.TheVariants as instruction
use Rattle.task_code.specs.Code.{instruction_at, hop_with, hop_from, hop_at}
use Rattle.task_code.specs.Unfolded.{Unfolds}
use Rattle.task_code.specs.Follows.{TrapsAt, Follows}

module _ (sizes : List ℕ) (code : List Instruction) where
  -- where the hop comes to that begins with this instruction, with room for so many operations behind it
  begun : ℕ → Instruction → Frame → Reached
  begun room i frame = meaning (hop_with (hop_from room code) i) frame

  full : (n : ℕ) → n + 0 ≡ 31 → n ≡ 31
  full n e = omega (arith, e)

  not_full : (n r : ℕ) → n + suc r ≡ 31 → is_full n ≡ false
  not_full n r e = grind (arith, e)

  trapped : (i : Instruction) (room : ℕ) (frame : Frame) (cause : Cause) (line : Line) → TrapsAt i frame cause line → Unfolds sizes code (cuts.Trapped cause line) (begun room i frame)
  unfolding begun
  trapped (instruction.Then op next) room frame cause line traps = ap (λ (r : Result Frame Stop). (onward r frame (carried_out (hop_from room code next).operations.items (hop_from room code next).end)).stop) traps
  trapped (instruction.End e) room frame cause line traps = traps

  -- an operation, with room for so many behind it and n before it
  operated : (n room : ℕ) → n + room ≡ 31 → (rest : Turn) (next : ℕ) (after : Frame)
      → ((m r : ℕ) → m + r ≡ 31 → Unfolds sizes code (cut sizes m rest) (meaning (hop_from (suc r) code next) after))
      → Unfolds sizes code (pausing (is_full n) (cut sizes (one_more n) rest)) (meaning (hop_from room code next) after)
  unfolding hop_at
  operated n zero e rest next after goes = subst (λ m. Unfolds sizes code (pausing (is_full m) (cut sizes (one_more m) rest)) (meaning (hop_from 0 code next) after)) (sym (full n e)) (next, refl, goes 0 31 refl)
  operated n (suc r) e rest next after goes = subst (λ b. Unfolds sizes code (pausing b (cut sizes (if b then 0 else suc n) rest)) (meaning (hop_from (suc r) code next) after)) (sym (not_full n r e)) (goes (suc n) r (omega (arith, e)))

  -- The hops unfold to the cut turn: n operations behind the last stop, with room for the others up to the 32nd.
  pub unfolded : (t : Turn) (n r : ℕ) → n + r ≡ 31 → (at : ℕ) (frame : Frame) → Follows code t at frame → Unfolds sizes code (cut sizes n t) (meaning (hop_from (suc r) code at) frame)
  unfolding begun hop_at
  unfolded Finished n r e at frame is = subst (λ i. Unfolds sizes code cuts.Finished (begun r i frame)) (sym is) refl
  unfolded (Trapped cause line) n r e at frame traps = trapped (instruction_at code at) r frame cause line traps
  unfolded (Load array place go) n r e at frame (d, into, next, is, stops, goes) =
      subst (λ i. Unfolds sizes code (cut sizes n (Load array place go)) (begun r i frame)) (sym is)
      (subst (λ (reached : Reached). Unfolds sizes code (cut sizes n (Load array place go)) reached) (sym stops)
      (array, place, into, next, refl, refl, λ value. unfolded (go value) 0 31 refl next (with_register frame (register.Temporary into) value) (goes value)))
  unfolded (Store array place value rest) n r e at frame (d, next, is, stops, goes) =
      subst (λ i. Unfolds sizes code (cut sizes n (Store array place value rest)) (begun r i frame)) (sym is)
      (subst (λ (reached : Reached). Unfolds sizes code (cut sizes n (Store array place value rest)) reached) (sym stops)
      (array, place, next, refl, refl, unfolded rest 0 31 refl next frame goes))
  unfolded (Go rest) n r e at frame (d, next, after, is, stops, goes) =
      subst (λ i. Unfolds sizes code (cut sizes n (Go rest)) (begun r i frame)) (sym is)
      (subst (λ (reached : Reached). Unfolds sizes code (cut sizes n (Go rest)) reached) (sym stops)
      (next, refl, unfolded rest 0 31 refl next after goes))
  unfolded (Op rest) n r e at frame (op, next, after, is, moves, goes) =
      subst (λ i. Unfolds sizes code (cut sizes n (Op rest)) (begun r i frame)) (sym is)
      (subst (λ (x : Result Frame Stop). Unfolds sizes code (cut sizes n (Op rest)) (onward x frame (carried_out (hop_from r code next).operations.items (hop_from r code next).end))) (sym moves)
      (operated n r e rest next after (λ m k sum. unfolded rest m k sum next after goes)))
