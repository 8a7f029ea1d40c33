-- That the pieces of a code stop inside the arrays of its program.
use Rattle.std.proofs.Common.{◌≡◌, ℕ, zero, suc, ◌<◌, ◌≤◌, ℤ, pos, negsuc, Bool, true, false, nat_lt, if◌then◌else◌, Option, Some, None, Result, Ok, Err, List, [], ◌∷◌, length, slice_index_or, refl, ⊎_elim, arith}
use Rattle.std.specs.Prelude.{int_lt}
use Rattle.std.proofs.lemmas.Bool.{ltb-true, cases_lt}
use Rattle.std.proofs.lemmas.List.{get_or_past}
use Rattle.nest_syntax.specs.declared.names.Line.{Line}
use Rattle.nest_syntax.specs.declared.operators.Cause.{Cause}
use Rattle.nest_syntax.specs.Arrays.{arrays_of, sizes_of, place_in}
use Rattle.nest_syntax.specs.Words.{is_zero, apply, turns, counted}
use Rattle.task_hop.specs.declared.frame.Frame.{Frame}
use Rattle.task_hop.specs.declared.frame.Register.{Register}
use Rattle.task_hop.specs.declared.operation.Operation.{Operation}
use Rattle.task_hop.specs.declared.operation.Operation.TheVariants as operation
use Rattle.task_hop.specs.declared.stop.Stop.{Stop}
use Rattle.task_hop.specs.declared.stop.Stop.TheVariants as stop
use Rattle.task_hop.specs.declared.end.End.{End}
use Rattle.task_hop.specs.declared.end.End.TheVariants as end
use Rattle.task_hop.specs.declared.end.Jump.{Jump}
use Rattle.task_hop.specs.declared.end.Jump.TheVariants as jump
use Rattle.task_hop.specs.declared.end.Round.{Round}
use Rattle.task_hop.specs.declared.end.Subscript.{Subscript}
use Rattle.task_hop.specs.declared.end.Way.{Way}
use Rattle.task_hop.specs.declared.hop.Hop.{Hop}
use Rattle.task_hop.specs.Registers.{held, value_of}
use Rattle.task_hop.specs.Meaning.{Reached, computed, behind, going, accessed, gone, turned, entered, entered_with, next_value, went_again, jumped, ended, onward, carried_out}
use Rattle.task_code.specs.declared.code.Instruction.{Instruction}
use Rattle.task_code.specs.declared.code.Instruction.TheVariants as instruction
use Rattle.task_code.specs.Code.{instruction_at, hop_with, hop_from, hop_at}
use Rattle.task_code.specs.Sized.{IsOfArray, IsSizedEnd, IsSized, AreSized}
use Rattle.task_frame.specs.Stops.{IsInside, StopsAreInside}

module _ (sizes : List ℕ) where
  -- the end of a hop
  at_sized : (code : List Instruction) → AreSized sizes code → (at : ℕ) → IsSized sizes (instruction_at code at)
  at_sized [] are at = tt
  at_sized (i ∷ code) are zero = are.0
  at_sized (i ∷ code) are (suc at) = at_sized code are.1 at

  end_with : (rest : ℕ → Hop) (i : Instruction) → ((at : ℕ) → IsSizedEnd sizes (rest at).end) → IsSized sizes i → IsSizedEnd sizes (hop_with rest i).end
  end_with rest (instruction.Then op next) sized is = sized next
  end_with rest (instruction.End e) sized is = is

  end_sized : (code : List Instruction) → AreSized sizes code → (room at : ℕ) → IsSizedEnd sizes (hop_from room code at).end
  end_sized code are zero at = tt
  end_sized code are (suc room) at = end_with (hop_from room code) (instruction_at code at) (end_sized code are room) (at_sized code are at)

  -- a subscript that is inside
  there : (array : ℕ) → 0 < slice_index_or sizes array 0 → array < length sizes
  there array some = ⊎_elim (λ inside. inside) (λ past. absurd (omega (arith, some, get_or_past sizes array 0 past))) (cases_lt array (length sizes))

  within : (s : Subscript) (place : ℕ) → IsOfArray sizes s → place < s.size → (s.array < length sizes) × (place < slice_index_or sizes s.array 0)
  within s place of inside = let below : place < slice_index_or sizes s.array 0 = omega (arith, of, inside) in (there s.array (omega (arith, below)), below)

  accesses : (s : Subscript) (go : ℕ → Stop) (at : ℤ) → ((place : ℕ) → place < s.size → IsInside sizes (go place)) → IsInside sizes (accessed s (place_in s.size at) go)
  accesses s go (negsuc n) inside = tt
  accesses s go (pos n) inside = by (nat_lt n s.size) refl where
    by : (b : Bool) → nat_lt n s.size ≡ b → IsInside sizes (accessed s (if b then Some n else None) go)
    by true is = inside n (ltb-true n s.size is)
    by false is = tt

  enters : (round : Round) (line : Line) (low : ℤ) (turns : Result ℕ Cause) (frame : Frame) → IsInside sizes (entered_with round line low turns frame).stop
  enters round line low (Ok zero) frame = tt
  enters round line low (Ok (suc n)) frame = tt
  enters round line low (Err cause) frame = tt

  branches : (b : Bool) (way other : Way) (frame : Frame) → IsInside sizes (if b then gone way frame else gone other frame).stop
  branches true way other frame = tt
  branches false way other frame = tt

  goes_again : (b : Bool) (round : Round) (value : ℤ) (frame : Frame) → IsInside sizes (if b then turned round value frame else going round.behind frame).stop
  goes_again true round value frame = tt
  goes_again false round value frame = tt

  jumps : (j : Jump) (frame : Frame) → IsInside sizes (jumped j frame).stop
  jumps (jump.To next) frame = tt
  jumps (jump.Branch test on_zero other) frame = branches (is_zero (value_of frame test)) on_zero other frame
  jumps (jump.Enter low high through line round) frame = enters round line (value_of frame low) (counted (turns (value_of frame low) (value_of frame high) round.step through)) frame
  jumps (jump.Again round) frame = goes_again (int_lt (held frame round.value) (held frame round.last)) round (next_value (held frame round.value) round.step (held frame round.last)) frame

  ends : (e : End) (frame : Frame) → IsSizedEnd sizes e → IsInside sizes (ended e frame).stop
  ends (end.Load from into next) frame sized = accesses from (λ place. stop.Load from.array place into next) (value_of frame from.at) (λ place inside. within from place sized inside)
  ends (end.Store to value next) frame sized = accesses to (λ place. stop.Store to.array place (value_of frame value) next) (value_of frame to.at) (λ place inside. within to place sized inside)
  ends (end.Go jump) frame sized = jumps jump frame
  ends end.Finish frame sized = tt

  -- an operation that doesn't go on traps
  abbrev GoesOn : Result Frame Stop → Type 0
  GoesOn (Ok after) = Unit {0}
  GoesOn (Err s) = IsInside sizes s

  computes : (frame : Frame) (into : Register) (line : Line) (r : Result ℤ Cause) → GoesOn (computed frame into line r)
  computes frame into line (Ok value) = tt
  computes frame into line (Err cause) = tt

  operates : (op : Operation) (frame : Frame) → GoesOn (behind op frame)
  operates (operation.Unary op from into) frame = tt
  operates (operation.Binary op left right into line) frame = computes frame into line (apply op (value_of frame left) (value_of frame right))
  operates (operation.Give into value) frame = tt

  goes_on : (r : Result Frame Stop) (frame : Frame) (go : Frame → Reached) → GoesOn r → ((after : Frame) → IsInside sizes (go after).stop) → IsInside sizes (onward r frame go).stop
  goes_on (Ok after) frame go is inside = inside after
  goes_on (Err s) frame go is inside = is

  carries : (ops : List Operation) (e : End) → IsSizedEnd sizes e → (frame : Frame) → IsInside sizes (carried_out ops e frame).stop
  carries [] e sized frame = ends e frame sized
  carries (op ∷ ops) e sized frame = goes_on (behind op frame) frame (carried_out ops e) (operates op frame) (carries ops e sized)

pub stops_inside : StopsAreInside
unfolding hop_at
stops_inside program code is at frame =
    let sizes = sizes_of (arrays_of program.decls) in
    let hop = hop_from 32 code.instructions at in
    carries sizes hop.operations.items hop.end (end_sized sizes code.instructions is.sized 32 at) frame
