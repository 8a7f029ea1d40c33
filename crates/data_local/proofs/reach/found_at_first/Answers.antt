use Rattle.std.proofs.Common.{◌||◌, ◌==◌, get_or, sym, ap, ◌∙◌}
use Rattle.data_local.proofs.Edges.{start_more}
use Rattle.data_local.proofs.reach.found_at_first.Goals as goal

pub loop-start-preserved : goal.loop-start-preserved
loop-start-preserved c = λ node.
    c.in_ok-add.ensures.more node
    ∙ ap (λ b. b || (node == get_or c.args.starts.now c.loop-start.start-index 0)) (c.loop-start.invariant node)
    ∙ sym (start_more c.args.starts.now c.loop-start.start-index node 0 c.loop-start-test.true)
