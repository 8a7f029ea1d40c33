use Rattle.std.proofs.Common.{drop, map}
use Rattle.nest_syntax.specs.Arrays.{arrays_of, sizes_of}
use Rattle.nest_syntax.specs.Turn.{Effect, sequence, effect, choose}
use Rattle.nest_syntax.proofs.Equations.{arm_effect}
use Rattle.task_code.specs.Compiled.{Emits, Carries}
use Rattle.task_code.specs.Sized.{StaysSized}
use Rattle.task_code.proofs.statements.+compile.Given as goal

abbrev pub invariant-compile_block-loop-i : goal.invariant-compile_block-loop-i
invariant-compile_block-loop-i l = record {
  code : Emits l.fn.code.items l.code.items (λ c. Carries l.layout.checked.now l.layout.locals.now (sequence (map (effect (arrays_of l.layout.checked.now.decls)) (drop l.i l.stmts))) l.into l.next c l.entry);
  sized : StaysSized (sizes_of (arrays_of l.layout.checked.now.decls)) l.fn.code.items l.code.items;
}

abbrev pub invariant-compile_arms-loop-i : goal.invariant-compile_arms-loop-i
invariant-compile_arms-loop-i l = record {
  code : Emits l.fn.code.items l.code.items (λ c. (other : Effect) → Carries l.layout.checked.now l.layout.locals.now other l.into l.next c l.otherwise
      → Carries l.layout.checked.now l.layout.locals.now (choose (map (arm_effect (arrays_of l.layout.checked.now.decls)) (drop l.i l.arms)) other) l.into l.next c l.entry);
  sized : StaysSized (sizes_of (arrays_of l.layout.checked.now.decls)) l.fn.code.items l.code.items;
}
