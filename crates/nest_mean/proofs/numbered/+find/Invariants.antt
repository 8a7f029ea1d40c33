use Rattle.nest_mean.specs.Numbered.{bodies_in_item, bodies_in_arm}
use Rattle.nest_mean.proofs.Numbers.{IsSought}
use Rattle.nest_mean.proofs.numbered.+find.Given as goal

abbrev pub invariant-body_in_items-loop-item : goal.invariant-body_in_items-loop-item
invariant-body_in_items-loop-item l = IsSought bodies_in_item l.items l.item-index l.fn.number l.number

abbrev pub invariant-body_in_arms-loop-arm : goal.invariant-body_in_arms-loop-arm
invariant-body_in_arms-loop-arm l = IsSought bodies_in_arm l.arms l.arm-index l.fn.number l.number
