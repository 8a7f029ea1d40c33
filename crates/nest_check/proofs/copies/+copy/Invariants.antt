use Rattle.std.proofs.Common.{◌≡◌, take}
use Rattle.nest_check.proofs.copies.+copy.Given as goal

abbrev pub invariant-copy_arms-loop-arm : goal.invariant-copy_arms-loop-arm
invariant-copy_arms-loop-arm l = l.copied ≡ take l.arm-index l.arms

abbrev pub invariant-copy_block-loop-stmt : goal.invariant-copy_block-loop-stmt
invariant-copy_block-loop-stmt l = l.copied ≡ take l.stmt-index l.stmts
