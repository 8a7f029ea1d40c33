-- What code does that is compiled for an expression or a statement, wherever it stands and whatever comes behind it.
use Rattle.std.specs.Prelude.{◌≡◌, ℕ, ◌<◌, ◌≤◌, ℤ, pos, Bool, true, false, Option, Some, None, List, length, slice_index_or}
use Rattle.nest_syntax.specs.declared.names.Line.{Line}
use Rattle.nest_syntax.specs.declared.operators.Bin.{Bin}
use Rattle.nest_syntax.specs.declared.operators.Bin.TheVariants as bin
use Rattle.nest_syntax.specs.declared.tree.Expr.{Expr}
use Rattle.nest_syntax.specs.declared.tree.Program.{Program}
use Rattle.nest_syntax.specs.Arrays.{arrays_of}
use Rattle.nest_syntax.specs.Value.{scalar_at}
use Rattle.nest_syntax.specs.Turn.{Turn, Reckoning, Effect, reckoning}
use Rattle.task_hop.specs.declared.frame.Frame.{Frame}
use Rattle.task_hop.specs.declared.frame.Register.{Register}
use Rattle.task_hop.specs.declared.frame.Register.TheVariants as register
use Rattle.task_hop.specs.declared.frame.Operand.{Operand}
use Rattle.task_hop.specs.declared.frame.Operand.TheVariants as operand
use Rattle.task_hop.specs.declared.operation.Operation.TheVariants as operation
use Rattle.task_hop.specs.declared.end.End.TheVariants as end
use Rattle.task_hop.specs.declared.end.Jump.TheVariants as jump
use Rattle.task_hop.specs.declared.end.Subscript.{Subscript}
use Rattle.task_hop.specs.declared.end.Way.{Way}
use Rattle.task_hop.specs.Registers.{held, value_of}
use Rattle.task_code.specs.declared.code.Instruction.{Instruction}
use Rattle.task_code.specs.declared.code.Instruction.TheVariants as instruction
use Rattle.task_code.specs.Code.{instruction_at}
use Rattle.task_code.specs.Follows.{Follows}
use Rattle.task_code.specs.Ready.{register_of, operand_of}

-- Code was added behind the old one, and wherever it is kept it does this, whatever stands in place of the old one.
pub record Emits (old new : List Instruction) (Does : List Instruction → Type 0) : Type 0 where
  pub longer : length old ≤ length new
  pub kept : (at : ℕ) → at < length old → instruction_at new at ≡ instruction_at old at
  pub does : (code : List Instruction) → ((at : ℕ) → length old ≤ at → at < length new → instruction_at code at ≡ instruction_at new at) → Does code

-- a register that a frame has and that is no temporary
abbrev pub IsInside : Register → Type 0
IsInside (register.Local n) = n < 16
IsInside (register.Scalar n) = n < 32
IsInside (register.Temporary n) = ⊥

-- a frame holds the scalars: the value of each name that has a register
pub record Holds (program : Program) (locals : List ℕ) (scalars : List ℤ) (frame : Frame) : Type 0 where
  pub env : length frame.env ≡ 32
  pub locals_held : length frame.locals ≡ 16
  pub temps : length frame.temps ≡ 32
  pub many : (name slot : ℕ) → register_of program locals name ≡ Some (register.Local slot) → name < length scalars
  pub inside : (name : ℕ) (r : Register) → register_of program locals name ≡ Some r → IsInside r
  pub values : (name : ℕ) (r : Register) → register_of program locals name ≡ Some r → held frame r ≡ scalar_at scalars name

-- a frame is kept but for the temporaries from one on
pub record Keeps (into : ℕ) (frame after : Frame) : Type 0 where
  pub env : after.env ≡ frame.env
  pub locals : after.locals ≡ frame.locals
  pub many : length after.temps ≡ length frame.temps
  pub temps : (n : ℕ) → n < into → slice_index_or after.temps n (pos 0) ≡ slice_index_or frame.temps n (pos 0)

-- The code from `entry` does what a reckoning does, and goes on at `next` with its value in an operand; it changes the
-- temporaries from `into` on alone.
abbrev pub ReckonsBy : Program → List ℕ → Line → Reckoning → Operand → ℕ → ℕ → List Instruction → ℕ → Type 0
ReckonsBy program locals line f value into next code entry = (scalars : List ℤ) (frame : Frame) (go : ℤ → Turn) → Holds program locals scalars frame
    → ((after : Frame) → Keeps into frame after → Follows code (go (value_of after value)) next after)
    → Follows code (f line scalars go) entry frame

abbrev pub Reckons : Program → List ℕ → Line → Expr → ℕ → ℕ → List Instruction → ℕ → Type 0
Reckons program locals line e into next code entry = ReckonsBy program locals line (reckoning (arrays_of program.decls) e) (operand_of program locals into e) into next code entry

-- a way that leaves a number in a temporary, and one that leaves all as it is
abbrev pub setting : ℕ → ℤ → ℕ → Way
setting into n next = record { set = Some (register.Temporary into, operand.Number n); next = next }

abbrev pub straight : ℕ → Way
straight next = record { set = None; next = next }

-- what stands behind the right operand of a binary operation, and ends it: the value is truth or falsehood behind `&&` and
-- `||`
abbrev pub closing : Bin → Operand → Operand → ℕ → Line → ℕ → Instruction
closing bin.Both left right into line next = instruction.End (end.Go (jump.Branch right (setting into (pos 0) next) (setting into (pos 1) next)))
closing bin.Either left right into line next = instruction.End (end.Go (jump.Branch right (setting into (pos 0) next) (setting into (pos 1) next)))
closing op left right into line next = instruction.Then (operation.Binary op left right (register.Temporary into) line) next

-- what stands behind the left operand, before the right one at `right`: `&&` and `||` are decided there or go on
abbrev pub Opens : Bin → Operand → ℕ → ℕ → ℕ → List Instruction → ℕ → Type 0
Opens bin.Both left into right next code at = instruction_at code at ≡ instruction.End (end.Go (jump.Branch left (setting into (pos 0) next) (straight right)))
Opens bin.Either left into right next code at = instruction_at code at ≡ instruction.End (end.Go (jump.Branch left (straight right) (setting into (pos 1) next)))
Opens op left into right next code at = at ≡ right

-- the way to an expression's value in a temporary: a number or a name is put there on the way
abbrev pub way_by : Bool → Operand → ℕ → ℕ → Way
way_by true value into entry = record { set = Some (register.Temporary into, value); next = entry }
way_by false value into entry = straight entry

-- only the temporaries from one on may have changed
abbrev pub KeepsBelow : ℕ → Frame → Frame → Type 0
KeepsBelow into frame after = (n : ℕ) → n < into → slice_index_or after.temps n (pos 0) ≡ slice_index_or frame.temps n (pos 0)

-- The code from `entry` does what a statement does, and goes on at `next` with a frame that holds the scalars behind it; of
-- the temporaries it changes those from `into` on alone.
abbrev pub Carries : Program → List ℕ → Effect → ℕ → ℕ → List Instruction → ℕ → Type 0
Carries program locals f into next code entry = (scalars : List ℤ) (frame : Frame) (go : List ℤ → Turn) → Holds program locals scalars frame
    → ((later : List ℤ) (after : Frame) → Holds program locals later after → KeepsBelow into frame after → Follows code (go later) next after)
    → Follows code (f scalars go) entry frame

-- what gives a register the value of an operand, or behind `op=` that of the operation on what it held
abbrev pub GivesBy : Option Bin → Register → Operand → ℕ → Line → ℕ → List Instruction → ℕ → Type 0
GivesBy None r value into line next code entry = instruction_at code entry ≡ instruction.Then (operation.Give r value) next
GivesBy (Some op) r value into line next code entry = (give : ℕ) × (instruction_at code entry ≡ instruction.Then (operation.Binary op (operand.Held r) value (register.Temporary into) line) give)
    × (instruction_at code give ≡ instruction.Then (operation.Give r (operand.Held (register.Temporary into))) next)

-- what writes the value of an operand, or behind `op=` that of the operation on the old word
abbrev pub WritesBy : Option Bin → Subscript → Operand → ℕ → Line → ℕ → List Instruction → ℕ → Type 0
WritesBy None to value into line next code entry = instruction_at code entry ≡ instruction.End (end.Store to value next)
WritesBy (Some op) to value into line next code entry = (calculate store : ℕ) × (instruction_at code entry ≡ instruction.End (end.Load to into calculate))
    × (instruction_at code calculate ≡ instruction.Then (operation.Binary op (operand.Held (register.Temporary into)) value (register.Temporary into) line) store)
    × (instruction_at code store ≡ instruction.End (end.Store to (operand.Held (register.Temporary into)) next))
