use Rattle.nest_syntax.specs.Locals.{given, given_in_arm}
use Rattle.nest_mean.proofs.Added.{IsLeft}
use Rattle.nest_mean.proofs.few.+add.Given as goal

abbrev pub invariant-add_arms-loop-arm : goal.invariant-add_arms-loop-arm
invariant-add_arms-loop-arm l = IsLeft (given_in_arm l.assigned) l.arms l.arm-index l.fn.names.items l.names.items

abbrev pub invariant-add_block-loop-stmt : goal.invariant-add_block-loop-stmt
invariant-add_block-loop-stmt l = IsLeft (given l.assigned) l.stmts l.stmt-index l.fn.names.items l.names.items
