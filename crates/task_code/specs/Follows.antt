-- Code against a turn that isn't cut yet.
use Rattle.std.specs.Prelude.{◌≡◌, ℕ, ℤ, Ok, Err, List}
use Rattle.nest_syntax.specs.declared.names.Line.{Line}
use Rattle.nest_syntax.specs.declared.operators.Cause.{Cause}
use Rattle.nest_syntax.specs.Turn.{Turn, Finished, Trapped, Load, Store, Op, Go}
use Rattle.task_hop.specs.declared.frame.Frame.{Frame}
use Rattle.task_hop.specs.declared.frame.Register.TheVariants as register
use Rattle.task_hop.specs.declared.operation.Operation.{Operation}
use Rattle.task_hop.specs.declared.stop.Stop.TheVariants as stop
use Rattle.task_hop.specs.declared.end.End.{End}
use Rattle.task_hop.specs.declared.end.End.TheVariants as end
use Rattle.task_hop.specs.Registers.{with_register}
use Rattle.task_hop.specs.Meaning.{behind, ended, going}
use Rattle.task_code.specs.declared.code.Instruction.{Instruction}
use Rattle.task_code.specs.declared.code.Instruction.TheVariants as instruction
use Rattle.task_code.specs.Code.{instruction_at}

-- an operation or an end that traps
abbrev pub TrapsAt : Instruction → Frame → Cause → Line → Type 0
TrapsAt (instruction.Then op next) frame cause line = behind op frame ≡ Err (stop.Trap cause line)
TrapsAt (instruction.End e) frame cause line = (ended e frame).stop ≡ stop.Trap cause line

-- The code from an address does what the turn says, from this frame.
abbrev pub Follows : List Instruction → Turn → ℕ → Frame → Type 0
Follows code Finished at frame = instruction_at code at ≡ instruction.End end.Finish
Follows code (Trapped cause line) at frame = TrapsAt (instruction_at code at) frame cause line
Follows code (Load array place go) at frame = (e : End) × (into next : ℕ) × (instruction_at code at ≡ instruction.End e) × (ended e frame ≡ record { stop = stop.Load array place into next; frame = frame }) × ((value : ℤ) → Follows code (go value) next (with_register frame (register.Temporary into) value))
Follows code (Store array place value rest) at frame = (e : End) × (next : ℕ) × (instruction_at code at ≡ instruction.End e) × (ended e frame ≡ record { stop = stop.Store array place value next; frame = frame }) × Follows code rest next frame
Follows code (Op rest) at frame = (op : Operation) × (next : ℕ) × (after : Frame) × (instruction_at code at ≡ instruction.Then op next) × (behind op frame ≡ Ok after) × Follows code rest next after
Follows code (Go rest) at frame = (e : End) × (next : ℕ) × (after : Frame) × (instruction_at code at ≡ instruction.End e) × (ended e frame ≡ going next after) × Follows code rest next after
