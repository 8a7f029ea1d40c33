use Rattle.std.proofs.Common.{refl}
use Rattle.nest_check.proofs.Lists.{parts_more, parts_end}
use Rattle.nest_check.proofs.parts.walk_regions.Goals as goal

pub loop-region-preserved : goal.loop-region-preserved
loop-region-preserved c = parts_more _ _ _ _ _ c.loop-region-test.true c.region-item.result c.region-item.is _ _ _ c.loop-region.invariant (c.walk_loop.ensures 1 refl)

pub returns : goal.returns
returns c = parts_end _ _ _ _ _ c.loop-region-test.false _ _ c.loop-region.invariant
