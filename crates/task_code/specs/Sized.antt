-- That what code reads and writes are words of the program's arrays.
use Rattle.std.specs.Prelude.{ℕ, ◌≤◌, List, slice_index_or}
use Rattle.nest_syntax.specs.Among.{Each}
use Rattle.task_hop.specs.declared.end.End.{End}
use Rattle.task_hop.specs.declared.end.End.TheVariants as end
use Rattle.task_hop.specs.declared.end.Subscript.{Subscript}
use Rattle.task_code.specs.declared.code.Instruction.{Instruction}
use Rattle.task_code.specs.declared.code.Instruction.TheVariants as instruction

-- a subscript has no place outside of its array
abbrev pub IsOfArray : List ℕ → Subscript → Type 0
IsOfArray sizes s = s.size ≤ slice_index_or sizes s.array 0

abbrev pub IsSizedEnd : List ℕ → End → Type 0
IsSizedEnd sizes (end.Load from into next) = IsOfArray sizes from
IsSizedEnd sizes (end.Store to value next) = IsOfArray sizes to
IsSizedEnd sizes (end.Go jump) = Unit {0}
IsSizedEnd sizes end.Finish = Unit {0}

abbrev pub IsSized : List ℕ → Instruction → Type 0
IsSized sizes (instruction.Then op next) = Unit {0}
IsSized sizes (instruction.End e) = IsSizedEnd sizes e

-- each subscript of the code is of an array of these sizes
abbrev pub AreSized : List ℕ → List Instruction → Type 0
AreSized sizes code = Each (IsSized sizes) code

-- No caller needs this: what was added to code that is sized left it so.
pub record StaysSized (sizes : List ℕ) (old new : List Instruction) : Type 0 where
  pub stays : AreSized sizes old → AreSized sizes new
