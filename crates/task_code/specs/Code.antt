-- Code as a list of instructions, each with the addresses of those behind it, and the hops that begin in it.
use Rattle.std.specs.Prelude.{ℕ, zero, suc, Option, None, List, [], ◌∷◌, ◌++◌, slice_index_or}
use Rattle.task_hop.specs.declared.operation.Operation.{Operation}
use Rattle.task_hop.specs.declared.end.End.TheVariants as end
use Rattle.task_hop.specs.declared.end.Jump.TheVariants as jump
use Rattle.task_hop.specs.declared.hop.Hop.{Hop}
use Rattle.task_code.specs.declared.code.Entry.{Entry}
use Rattle.task_code.specs.declared.code.Instruction.{Instruction}
use Rattle.task_code.specs.declared.code.Instruction.TheVariants as instruction

pub record Code : Type 0 where
  pub instructions : List Instruction
  pub entries : List Entry

-- what stands at an address; where the code doesn't have it, the end of the iteration
abbrev pub instruction_at : List Instruction → ℕ → Instruction
instruction_at code at = slice_index_or code at (instruction.End end.Finish)

abbrev pub with_operation : Operation → Hop → Hop
with_operation op hop = record hop { operations = record { items = op ∷ hop.operations.items } }

abbrev pub hop_with : (ℕ → Hop) → Instruction → Hop
hop_with rest (instruction.Then op next) = with_operation op (rest next)
hop_with rest (instruction.End e) = record { operations = record { items = [] }; end = e }

-- The operations from an address on, at most so many, and an end. Where there is no room for a further operation, the
-- worker may be interrupted, and goes on there.
abbrev pub hop_from : ℕ → List Instruction → ℕ → Hop
hop_from zero code at = record { operations = record { items = [] }; end = end.Go (jump.To at) }
hop_from (suc room) code at = hop_with (hop_from room code) (instruction_at code at)

-- the hop that begins at an address
unfoldable pub hop_at : List Instruction → ℕ → Hop
hop_at code at = hop_from 32 code at

-- where a body begins, and the local that is its invocation's variable
abbrev pub entry_of : Code → ℕ → Entry
entry_of code body = slice_index_or code.entries body (record { at = 0; slot = None })

abbrev pub entry_at : Code → ℕ → ℕ
entry_at code body = (entry_of code body).at

abbrev pub slot_at : Code → ℕ → Option ℕ
slot_at code body = (entry_of code body).slot
