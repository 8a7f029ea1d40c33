use Rattle.std.proofs.Common.{◌≡◌, map, drop}
use Rattle.std.specs.List.{concat}
use Rattle.nest_syntax.specs.Locals.{given, given_in_arm}
use Rattle.nest_mean.specs.Saved.{taken_over}
use Rattle.nest_mean.proofs.saved.+take.Given as goal

abbrev pub invariant-take_over_arms-loop-arm : goal.invariant-take_over_arms-loop-arm
invariant-take_over_arms-loop-arm l = taken_over (concat (map (given_in_arm l.assigned) (drop l.arm-index l.arms))) l.source l.target ≡ taken_over (concat (map (given_in_arm l.assigned) l.arms)) l.source l.fn.target

abbrev pub invariant-take_over_block-loop-stmt : goal.invariant-take_over_block-loop-stmt
invariant-take_over_block-loop-stmt l = taken_over (concat (map (given l.assigned) (drop l.stmt-index l.stmts))) l.source l.target ≡ taken_over (concat (map (given l.assigned) l.stmts)) l.source l.fn.target
