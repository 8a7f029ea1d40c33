use Rattle.std.proofs.Common.{◌≡◌, ◌++◌, map, drop}
use Rattle.dep_graph.specs.Accesses.{all_of, arm_accesses, block_accesses}
use Rattle.dep_graph.proofs.accesses.Invocation.+gather.Given as goal

abbrev pub invariant-add_block-loop-stmt : goal.invariant-add_block-loop-stmt
invariant-add_block-loop-stmt l = l.found.items ++ block_accesses l.self.checked.now l.self.nest.now (drop l.stmt-index l.stmts) l.around ≡ l.fn.found.items ++ block_accesses l.self.checked.now l.self.nest.now l.stmts l.around

abbrev pub invariant-add_arms-loop-arm : goal.invariant-add_arms-loop-arm
invariant-add_arms-loop-arm l = l.found.items ++ all_of (map (arm_accesses l.self.checked.now l.self.nest.now) (drop l.arm-index l.arms)) l.around ≡ l.fn.found.items ++ all_of (map (arm_accesses l.self.checked.now l.self.nest.now) l.arms) l.around
