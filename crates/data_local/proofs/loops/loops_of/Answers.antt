use Rattle.std.proofs.Common.{◌∷◌, refl, ap, ◌∙◌}
use Rattle.std.specs.List.{flat_map}
use Rattle.nest_syntax.specs.declared.tree.Loop.{Loop}
use Rattle.data_local.specs.Loops.{line_of, loops_in}
use Rattle.data_local.proofs.Gathers.{gathers_more, gathers_end}
use Rattle.data_local.proofs.loops.loops_of.Goals as goal

pub loop-region-preserved : goal.loop-region-preserved
loop-region-preserved c =
    gathers_more (λ (region : Loop). region ∷ loops_in region.body) _ _ c.loop-region-test.true c.region-item.result c.region-item.is _ _ _ _ c.loop-region.invariant c.in_ok-add_loop.ensures refl

pub returns : goal.returns
returns c =
    gathers_end (λ (region : Loop). region ∷ loops_in region.body) _ _ c.loop-region-test.false _ _ c.loop-region.invariant
    ∙ ap (flat_map (λ (region : Loop). region ∷ loops_in region.body)) c.as_slice-region-items.ensures
