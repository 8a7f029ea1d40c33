use Rattle.std.proofs.Common.{drop, map}
use Rattle.nest_syntax.specs.Course.{Setting, in_order, region_of}
use Rattle.sched_cursor.specs.declared.node.Next.TheVariants as next
use Rattle.std.specs.List.{flat_map}
use Rattle.sched_cursor.specs.Doings.{doings_in_region}
use Rattle.sched_cursor.specs.Scripts.{PutsRegion}
use Rattle.sched_cursor.proofs.script.Script.regions.Given as goal

abbrev pub invariant-loop-k : goal.invariant-loop-k
invariant-loop-k l = PutsRegion l.initial.self.nodes.items l.initial.self.first l.self.nodes.items l.self.first (λ (s : Setting). in_order (map (region_of s) (drop l.k l.regions))) (flat_map doings_in_region (drop l.k l.regions)) next.End l.start
