-- The stops of a compiled code are inside the arrays.
use Rattle.std.proofs.Common.{◌≡◌, Result, Ok, Err, IfOk, subst}
use Rattle.nest_syntax.specs.declared.names.NoMemory.{NoMemory}
use Rattle.nest_syntax.specs.declared.tree.Program.{Program}
use Rattle.nest_syntax.specs.Arrays.{arrays_of, sizes_of}
use Rattle.task_code.specs.Code.{Code}
use Rattle.task_code.specs.CodeOf.{IsCodeOf}
use Rattle.task_frame.specs.Stops.{StopsInside}
use Rattle.task_frame.proofs.Stops.{stops_inside}

pub compiled_inside : (r : Result Code NoMemory) (checked program : Program) → checked ≡ program → IfOk r (λ code. IsCodeOf checked code) → IfOk r (λ code. StopsInside (sizes_of (arrays_of program.decls)) code)
compiled_inside (Err e) checked program same is = tt
compiled_inside (Ok code) checked program same is = stops_inside program code (subst (λ (p : Program). IsCodeOf p code) same is)
