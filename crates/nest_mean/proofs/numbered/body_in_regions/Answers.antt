use Rattle.std.proofs.Common.{ap, ◌∙◌}
use Rattle.nest_mean.specs.Numbered.{at_number, bodies_in_region}
use Rattle.nest_mean.proofs.Numbers.{is_found, is_behind, region_bodies}
use Rattle.nest_mean.proofs.numbered.body_in_regions.Goals as goal

pub returns-in-Ok : goal.returns-in-Ok
returns-in-Ok c =
    is_found bodies_in_region _ _ _ _ c.loop-region-test.true c.region-item.result c.region-item.is c.loop-region.invariant _
    (ap (λ bs. at_number bs c.loop-region.number) (region_bodies c.region-item.result) ∙ (rw c.as_slice.ensures at c.in-Ok.ensures))

pub loop-region-preserved : goal.loop-region-preserved
loop-region-preserved c =
    is_behind bodies_in_region _ _ _ _ c.loop-region-test.true c.region-item.result c.region-item.is c.loop-region.invariant _
    (ap (λ bs. at_number bs c.loop-region.number) (region_bodies c.region-item.result) ∙ (rw c.as_slice.ensures at c.in-Err.ensures))
