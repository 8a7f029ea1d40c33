use Rattle.std.proofs.Common.{◌∙◌}
use Rattle.nest_scope.proofs.Steps.{side_more}
use Rattle.nest_scope.proofs.walk.walk_regions.Goals as goal

pub loop-region-preserved : goal.loop-region-preserved
loop-region-preserved c = record {
  found = side_more _ _ _ c.loop-region-test.true c.region-item.result c.region-item.is _ _ _ _ _ _ c.loop-region.invariant.found c.in_ok-walk_loop.ensures.found c.in_ok-walk_loop.ensures.scope;
  scope = c.in_ok-walk_loop.ensures.scope ∙ c.loop-region.invariant.scope;
}
