use Rattle.std.proofs.Common.{◌≡◌, ℕ, List, drop}
use Rattle.nest_check.specs.ChangedBounds.{changes_one, changes_one_in_arms}
use Rattle.nest_check.specs.NamedIn.{HasSameNames}
use Rattle.nest_check.proofs.changed_bounds.+change.Given as goal

abbrev pub invariant-block_changes-loop-stmt : goal.invariant-block_changes-loop-stmt
invariant-block_changes-loop-stmt l = (scalars arrays : List ℕ) → HasSameNames l.high scalars arrays → changes_one scalars arrays l.stmts ≡ changes_one scalars arrays (drop l.stmt-index l.stmts)

abbrev pub invariant-arms_change-loop-arm : goal.invariant-arms_change-loop-arm
invariant-arms_change-loop-arm l = (scalars arrays : List ℕ) → HasSameNames l.high scalars arrays → changes_one_in_arms scalars arrays l.arms ≡ changes_one_in_arms scalars arrays (drop l.arm-index l.arms)
