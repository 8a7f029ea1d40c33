-- That the pieces of a code stop inside the arrays of its program.
use Rattle.std.specs.Prelude.{ℕ, ◌<◌, List, length, slice_index_or}
use Rattle.nest_syntax.specs.declared.tree.Program.{Program}
use Rattle.nest_syntax.specs.Arrays.{arrays_of, sizes_of}
use Rattle.task_hop.specs.declared.frame.Frame.{Frame}
use Rattle.task_hop.specs.declared.stop.Stop.{Stop}
use Rattle.task_hop.specs.declared.stop.Stop.TheVariants as stop
use Rattle.task_code.specs.Code.{Code}
use Rattle.task_code.specs.CodeOf.{IsCodeOf}
use Rattle.task_frame.specs.Pieces.{piece_at, reached}

-- a stop at a word names an array that there is, and a place inside it
abbrev pub IsInside : List ℕ → Stop → Type 0
IsInside sizes (stop.Load array place into next) = (array < length sizes) × (place < slice_index_or sizes array 0)
IsInside sizes (stop.Store array place value next) = (array < length sizes) × (place < slice_index_or sizes array 0)
IsInside sizes (stop.Go next) = Unit {0}
IsInside sizes stop.Finish = Unit {0}
IsInside sizes (stop.Trap cause line) = Unit {0}

-- each piece of a code does, at any address and from any frame
abbrev pub StopsInside : List ℕ → Code → Type 0
StopsInside sizes code = (at : ℕ) (frame : Frame) → IsInside sizes (reached (piece_at code at frame)).stop

-- So does each piece of a program's code.
abbrev pub StopsAreInside : Type 0
StopsAreInside = (program : Program) (code : Code) → IsCodeOf program code → StopsInside (sizes_of (arrays_of program.decls)) code
