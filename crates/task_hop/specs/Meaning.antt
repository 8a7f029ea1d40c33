-- What a hop does to a frame: a fold over its operations, and then its end.
use Rattle.std.specs.Prelude.{ℕ, zero, suc, ℤ, pos, ◌+ℤ◌, if◌then◌else◌, int_lt, Option, Some, None, Result, Ok, Err, List, [], ◌∷◌}
use Rattle.nest_syntax.specs.declared.names.Line.{Line}
use Rattle.nest_syntax.specs.declared.operators.Cause.{Cause}
use Rattle.nest_syntax.specs.declared.operators.Cause.TheVariants as cause
use Rattle.nest_syntax.specs.Words.{is_zero, apply, apply_un, turns, counted, variable}
use Rattle.nest_syntax.specs.Arrays.{place_in}
use Rattle.task_hop.specs.declared.frame.Frame.{Frame}
use Rattle.task_hop.specs.declared.frame.Operand.{Operand}
use Rattle.task_hop.specs.declared.frame.Register.{Register}
use Rattle.task_hop.specs.declared.operation.Operation.{Operation}
use Rattle.task_hop.specs.declared.operation.Operation.TheVariants as operation
use Rattle.task_hop.specs.declared.stop.Stop.{Stop}
use Rattle.task_hop.specs.declared.stop.Stop.TheVariants as stop
use Rattle.task_hop.specs.declared.end.End.{End}
use Rattle.task_hop.specs.declared.end.End.TheVariants as end
use Rattle.task_hop.specs.declared.end.Subscript.{Subscript}
use Rattle.task_hop.specs.declared.end.Jump.{Jump}
use Rattle.task_hop.specs.declared.end.Jump.TheVariants as jump
use Rattle.task_hop.specs.declared.end.Way.{Way}
use Rattle.task_hop.specs.declared.end.Round.{Round}
use Rattle.task_hop.specs.declared.hop.Hop.{Hop}
use Rattle.task_hop.specs.Registers.{held, with_register, value_of}

-- where a hop comes to: its stop, and the frame there
pub record Reached : Type 0 where
  pub stop : Stop
  pub frame : Frame

-- the frame behind a result that goes into a register, or its trap
abbrev pub computed : Frame → Register → Line → Result ℤ Cause → Result Frame Stop
computed frame into line (Ok value) = Ok (with_register frame into value)
computed frame into line (Err cause) = Err (stop.Trap cause line)

-- the frame behind an operation, or its trap
abbrev pub behind : Operation → Frame → Result Frame Stop
behind (operation.Unary op from into) frame = Ok (with_register frame into (apply_un op (value_of frame from)))
behind (operation.Binary op left right into line) frame = computed frame into line (apply op (value_of frame left) (value_of frame right))
behind (operation.Give into value) frame = Ok (with_register frame into (value_of frame value))

-- what a call that carries an operation out answers, with the frame that it leaves
abbrev pub moved : Result (Unit {0}) Stop → Frame → Result Frame Stop
moved (Ok done) frame = Ok frame
moved (Err stop) frame = Err stop

abbrev pub going : ℕ → Frame → Reached
going next frame = record { stop = stop.Go next; frame = frame }

-- the stop at a subscript: an access to its place, or a trap
abbrev pub accessed : Subscript → Option ℕ → (ℕ → Stop) → Stop
accessed subscript None at = stop.Trap cause.Index subscript.line
accessed subscript (Some place) at = at place

abbrev pub access : Subscript → Frame → (ℕ → Stop) → Reached
access subscript frame at = record { stop = accessed subscript (place_in subscript.size (value_of frame subscript.at)) at; frame = frame }

-- the frame behind what a way sets
abbrev pub set_by : Option (Register × Operand) → Frame → Frame
set_by None frame = frame
set_by (Some s) frame = with_register frame s.0 (value_of frame s.1)

abbrev pub gone : Way → Frame → Reached
gone way frame = going way.next (set_by way.set frame)

-- a turn of a loop begins in which its variable has this value
abbrev pub turned : Round → ℤ → Frame → Reached
turned round value frame = going round.body (with_register (with_register frame round.value value) round.variable value)

-- a loop from `low` on, of this many turns
abbrev pub entered : Round → ℤ → ℕ → Frame → Reached
entered round low zero frame = going round.behind frame
entered round low (suc n) frame = turned round low (with_register frame round.last (variable low round.step n))

abbrev pub entered_with : Round → Line → ℤ → Result ℕ Cause → Frame → Reached
entered_with round line low (Ok n) frame = entered round low n frame
entered_with round line low (Err cause) frame = record { stop = stop.Trap cause line; frame = frame }

-- the variable's value in the turn behind one with this value; it doesn't pass the last
abbrev pub next_value : ℤ → ℕ → ℤ → ℤ
next_value value step last = if int_lt (value +ℤ pos step) last then value +ℤ pos step else last

-- behind a turn: a further one where this wasn't the last
abbrev pub went_again : Round → Frame → Reached
went_again round frame = let value = held frame round.value in let last = held frame round.last in
    if int_lt value last then turned round (next_value value round.step last) frame else going round.behind frame

abbrev pub jumped : Jump → Frame → Reached
jumped (jump.To next) frame = going next frame
jumped (jump.Branch test at_zero other) frame = if is_zero (value_of frame test) then gone at_zero frame else gone other frame
jumped (jump.Enter low high through line round) frame = entered_with round line (value_of frame low) (counted (turns (value_of frame low) (value_of frame high) round.step through)) frame
jumped (jump.Again round) frame = went_again round frame

abbrev pub ended : End → Frame → Reached
ended (end.Load from into next) frame = access from frame (λ place. stop.Load from.array place into next)
ended (end.Store to value next) frame = access to frame (λ place. stop.Store to.array place (value_of frame value) next)
ended (end.Go jump) frame = jumped jump frame
ended end.Finish frame = record { stop = stop.Finish; frame = frame }

-- a trap inside ends the hop early, with the frame before it
abbrev pub onward : Result Frame Stop → Frame → (Frame → Reached) → Reached
onward (Ok after) frame go = go after
onward (Err stop) frame go = record { stop = stop; frame = frame }

-- operations one after the other, and then an end
abbrev pub carried_out : List Operation → End → Frame → Reached
carried_out [] e frame = ended e frame
carried_out (op ∷ ops) e frame = onward (behind op frame) frame (carried_out ops e)

abbrev pub meaning : Hop → Frame → Reached
meaning hop frame = carried_out hop.operations.items hop.end frame
