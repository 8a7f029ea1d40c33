use Rattle.std.proofs.Common.{◌≡◌, drop}
use Rattle.std.specs.List.{flat_map}
use Rattle.nest_check.specs.Through.{through}
use Rattle.nest_check.specs.Entries.{statements, statements_in_arm}
use Rattle.nest_check.specs.Noted.{entered}
use Rattle.nest_check.proofs.entries.+count.Given as goal

abbrev pub invariant-count_arms-loop-arm : goal.invariant-count_arms-loop-arm
invariant-count_arms-loop-arm l = through (entered 17) l.tally (flat_map statements_in_arm (drop l.arm-index l.arms)) ≡ through (entered 17) l.fn.tally (flat_map statements_in_arm l.arms)

abbrev pub invariant-count_block-loop-stmt : goal.invariant-count_block-loop-stmt
invariant-count_block-loop-stmt l = through (entered 17) l.tally (flat_map statements (drop l.stmt-index l.stmts)) ≡ through (entered 17) l.fn.tally (flat_map statements l.stmts)
