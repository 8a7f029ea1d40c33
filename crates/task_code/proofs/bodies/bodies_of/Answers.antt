use Rattle.std.proofs.Common.{[], ap, ◌∙◌}
use Rattle.std.specs.List.{flat_map}
use Rattle.nest_syntax.specs.declared.tree.Loop.{Loop}
use Rattle.nest_syntax.specs.Shape.{items_of, invoked_in_region}
use Rattle.nest_check.proofs.Lists.{flat_more, flat_end}
use Rattle.task_code.specs.Bodies.{with_invoked}
use Rattle.task_code.proofs.Invoked.{all_invoked, regions_invoked}
use Rattle.task_code.proofs.bodies.bodies_of.Goals as goal

pub loop-region-preserved : goal.loop-region-preserved
loop-region-preserved c =
    flat_more with_invoked (λ (region : Loop). items_of region.body) _ _ c.loop-region-test.true c.region-item.result c.region-item.is _ _ _ c.loop-region.invariant
    (rw c.as_slice.ensures at c.in_ok-add_items.ensures)

pub returns : goal.returns
returns c =
    flat_end with_invoked (λ (region : Loop). items_of region.body) _ _ c.loop-region-test.false _ _ c.loop-region.invariant
    ∙ all_invoked [] (flat_map (λ (region : Loop). items_of region.body) c.as_slice-region-items.result.now) ∙ regions_invoked c.as_slice-region-items.result.now ∙ ap (flat_map invoked_in_region) c.as_slice-region-items.ensures
