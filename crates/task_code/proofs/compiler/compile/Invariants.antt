use Rattle.std.proofs.Common.{[], map, take}
use Rattle.nest_syntax.specs.Arrays.{arrays_of, sizes_of}
use Rattle.task_code.specs.Bodies.{told}
use Rattle.task_code.specs.Sized.{AreSized}
use Rattle.task_code.specs.Compiled.{Emits}
use Rattle.task_code.specs.CodeOf.{AreStarts}
use Rattle.task_code.proofs.compiler.compile.Given as goal

abbrev pub invariant-loop-body : goal.invariant-loop-body
invariant-loop-body l = record {
  starts : Emits [] l.instructions.items (λ code. AreStarts l.checked code (map told (take l.body-index l.body-items)) l.entries.items);
  sized : AreSized (sizes_of (arrays_of l.checked.decls)) l.instructions.items;
}
