use Rattle.std.proofs.Common.{refl, ap, ◌∙◌}
use Rattle.std.specs.List.{flat_map}
use Rattle.nest_syntax.specs.declared.tree.Loop.{Loop}
use Rattle.data_local.specs.Bodies.{bodies_in_items}
use Rattle.data_local.proofs.Gathers.{gathers_more, gathers_end}
use Rattle.data_local.proofs.BodyNodes.{bodies_in_regions}
use Rattle.data_local.proofs.bodies.bodies_of.Goals as goal

pub loop-region-preserved : goal.loop-region-preserved
loop-region-preserved c =
    gathers_more (λ (region : Loop). bodies_in_items region.body) _ _ c.loop-region-test.true c.region-item.result c.region-item.is _ _ _ _ c.loop-region.invariant
    (rw c.as_slice.ensures at c.in_ok-add_bodies.ensures) refl

pub returns : goal.returns
returns c =
    gathers_end (λ (region : Loop). bodies_in_items region.body) _ _ c.loop-region-test.false _ _ c.loop-region.invariant
    ∙ ap (flat_map (λ (region : Loop). bodies_in_items region.body)) c.as_slice-region-items.ensures
    ∙ bodies_in_regions c.args.program.now.regions
