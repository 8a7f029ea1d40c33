use Rattle.std.proofs.Common.{◌≡◌, map, drop}
use Rattle.nest_scope.specs.Occurrences.{in_arm, in_block, in_same_scope}
use Rattle.nest_scope.specs.Restored.{restored}
use Rattle.nest_scope.specs.Noted.{all_noted}
use Rattle.nest_scope.proofs.walk.+walk.Given as goal

abbrev pub invariant-walk_arms-loop-arm : goal.invariant-walk_arms-loop-arm
invariant-walk_arms-loop-arm l = record {
  found : all_noted l.found (in_same_scope (map in_arm (drop l.arm-index l.arms)) l.level l.scope) ≡ all_noted l.fn.found (in_same_scope (map in_arm l.arms) l.level l.fn.scope);
  scope : l.scope ≡ l.fn.scope;
}

abbrev pub invariant-walk_block-loop-stmt : goal.invariant-walk_block-loop-stmt
invariant-walk_block-loop-stmt l = record {
  found : all_noted l.found (in_block (drop l.stmt-index l.stmts) l.level l.scope) ≡ all_noted l.fn.found (in_block l.stmts l.level l.fn.scope);
  scope : restored l.shadowed l.scope ≡ l.fn.scope;
}
