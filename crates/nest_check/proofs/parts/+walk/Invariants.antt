use Rattle.std.proofs.Common.{◌≡◌, ℕ, map, drop}
use Rattle.nest_check.specs.Through.{through}
use Rattle.nest_check.specs.Parts.{all_at, parts, parts_in_arm}
use Rattle.nest_check.specs.Noted.{noted, counted_depth}
use Rattle.nest_check.proofs.parts.+walk.Given as goal

abbrev pub invariant-walk_arms-loop-arm : goal.invariant-walk_arms-loop-arm
invariant-walk_arms-loop-arm l = (at : ℕ) → l.depth ≡ counted_depth at → through noted l.found (all_at (map parts_in_arm (drop l.arm-index l.arms)) at) ≡ through noted l.fn.found (all_at (map parts_in_arm l.arms) at)

abbrev pub invariant-walk_block-loop-stmt : goal.invariant-walk_block-loop-stmt
invariant-walk_block-loop-stmt l = (at : ℕ) → l.depth ≡ counted_depth at → through noted l.found (all_at (map parts (drop l.stmt-index l.stmts)) at) ≡ through noted l.fn.found (all_at (map parts l.stmts) at)
