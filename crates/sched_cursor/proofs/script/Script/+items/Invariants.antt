use Rattle.std.proofs.Common.{ℕ, List, ◌++◌, drop, map}
use Rattle.std.specs.List.{flat_map}
use Rattle.nest_syntax.specs.Course.{Setting, Item, chosen, tested_of}
use Rattle.sched_cursor.specs.declared.node.Node.{Node}
use Rattle.sched_cursor.specs.Doings.{Doing, doings_in_arm, doings_of}
use Rattle.sched_cursor.specs.Scripts.{Puts, block_of}
use Rattle.sched_cursor.proofs.script.Script.+items.Given as goal

abbrev pub invariant-block-loop-k : goal.invariant-block-loop-k
invariant-block-loop-k l = Puts l.initial.self.nodes.items l.initial.self.first l.self.nodes.items l.self.first (block_of (drop l.k l.stmts)) (doings_of (drop l.k l.stmts)) l.fn.next l.start

abbrev pub invariant-arms-loop-k : goal.invariant-arms-loop-k
invariant-arms-loop-k l = (nodes : List Node) (first : ℕ) (other : Setting → Item) (does : List Doing) → Puts nodes first l.initial.self.nodes.items l.initial.self.first other does l.fn.next l.fn.otherwise
    → Puts nodes first l.self.nodes.items l.self.first (λ (s : Setting). chosen (map (tested_of s) (drop l.k l.arms)) (other s)) (flat_map doings_in_arm (drop l.k l.arms) ++ does) l.fn.next l.start
