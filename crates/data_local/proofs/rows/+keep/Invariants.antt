use Rattle.data_local.specs.Givings.{given}
use Rattle.data_local.proofs.Walks.{Walked, WalkedArms}
use Rattle.data_local.proofs.rows.+keep.Given as goal

abbrev pub invariant-keep_arms-loop-arm : goal.invariant-keep_arms-loop-arm
invariant-keep_arms-loop-arm l = WalkedArms l.arms l.arm-index l.fn.rows.items l.rows.items l.under l.last

abbrev pub invariant-keep_block-loop-stmt : goal.invariant-keep_block-loop-stmt
invariant-keep_block-loop-stmt l = Walked given l.stmts l.stmt-index l.fn.rows.items l.rows.items l.under
