-- The registers of a frame.
use Rattle.std.specs.Prelude.{ℤ, pos, slice_index_or, slice_set}
use Rattle.task_hop.specs.declared.frame.Frame.{Frame}
use Rattle.task_hop.specs.declared.frame.Register.{Register}
use Rattle.task_hop.specs.declared.frame.Register.TheVariants as register
use Rattle.task_hop.specs.declared.frame.Operand.{Operand}
use Rattle.task_hop.specs.declared.frame.Operand.TheVariants as operand

-- what a register holds
abbrev pub held : Frame → Register → ℤ
held frame (register.Scalar n) = slice_index_or frame.env n (pos 0)
held frame (register.Local n) = slice_index_or frame.locals n (pos 0)
held frame (register.Temporary n) = slice_index_or frame.temps n (pos 0)

abbrev pub with_register : Frame → Register → ℤ → Frame
with_register frame (register.Scalar n) value = record frame { env = slice_set frame.env n value }
with_register frame (register.Local n) value = record frame { locals = slice_set frame.locals n value }
with_register frame (register.Temporary n) value = record frame { temps = slice_set frame.temps n value }

-- the value of an operand
abbrev pub value_of : Frame → Operand → ℤ
value_of frame (operand.Number n) = n
value_of frame (operand.Held r) = held frame r
