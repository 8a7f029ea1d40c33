-- What the rules say of the arrays of a checked program.
use Rattle.std.proofs.Common.{◌≤◌, length, arith}
use Rattle.std.proofs.lemmas.List.{length-map}
use Rattle.nest_syntax.specs.Arrays.{Array, arrays_of}
use Rattle.nest_syntax.specs.declared.tree.Program.{Program}
use Rattle.nest_check.specs.Kept.{KeepsRules}
use Rattle.nest_check.proofs.Judged.{few_arrays as few_names}

-- there are at most 64 arrays
pub few_arrays : (program : Program) → KeepsRules program → length (arrays_of program.decls) ≤ 64
few_arrays program keeps = omega (arith, few_names program keeps, length-map (arrays_of program.decls) (λ (a : Array). a.name))
