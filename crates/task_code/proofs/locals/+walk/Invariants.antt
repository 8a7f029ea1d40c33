use Rattle.std.proofs.Common.{◌≡◌, drop}
use Rattle.std.specs.List.{flat_map}
use Rattle.nest_check.specs.Through.{through}
use Rattle.nest_check.specs.Entries.{statements, statements_in_arm}
use Rattle.task_code.specs.Bodies.{with_entry}
use Rattle.task_code.proofs.locals.+walk.Given as goal

abbrev pub invariant-note_arms-loop-arm : goal.invariant-note_arms-loop-arm
invariant-note_arms-loop-arm l = through with_entry l.names.items (flat_map statements_in_arm (drop l.arm-index l.arms)) ≡ through with_entry l.fn.names.items (flat_map statements_in_arm l.arms)

abbrev pub invariant-note_block-loop-stmt : goal.invariant-note_block-loop-stmt
invariant-note_block-loop-stmt l = through with_entry l.names.items (flat_map statements (drop l.stmt-index l.stmts)) ≡ through with_entry l.fn.names.items (flat_map statements l.stmts)
