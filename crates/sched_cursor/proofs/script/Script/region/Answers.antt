use Rattle.std.proofs.Common.{ℕ, List}
use Rattle.nest_syntax.specs.Course.{Setting, region_of}
use Rattle.sched_cursor.specs.declared.node.Next.{Next}
use Rattle.sched_cursor.specs.declared.node.Node.{Node}
use Rattle.sched_cursor.specs.Doings.{doings_in_region}
use Rattle.sched_cursor.specs.Scripts.{PutsRegion}
use Rattle.sched_cursor.proofs.Putting.{pushed, puts_region}
use Rattle.sched_cursor.proofs.script.Script.region.Goals as goal

pub returns : goal.returns
returns c =
    pushed (λ (n : List Node) (f : ℕ) (s : Next). PutsRegion c.args.self.now.nodes.items c.args.self.now.first n f (λ (st : Setting). region_of st c.args.region.now) (doings_in_region c.args.region.now) c.args.leave s) _ _ _ _ _
    (puts_region _ _ _ _ c.args.region.now _ c.args.leave (rw c.as_slice.ensures at c.in_ok-items.ensures)) c.push.result (rw c.in_ok-header.ensures at c.push.ensures)
