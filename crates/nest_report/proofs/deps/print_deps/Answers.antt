use Rattle.std.proofs.Common.{ℕ, List, ◌++◌, ap, ◌∙◌}
use Rattle.std.specs.List.{flat_map}
use Rattle.nest_syntax.specs.declared.tree.Program.{Program}
use Rattle.nest_report.specs.Deps.{region_lines}
use Rattle.nest_report.proofs.Lines.{lines-regions}
use Rattle.nest_report.proofs.deps.print_deps.Goals as goal

pub returns : goal.returns
returns c =
    c.in_ok-add_regions.ensures
    ∙ ap (λ (old : List ℕ). old ++ flat_map (region_lines c.args.checked.now) c.as_slice.result.now) c.new-text.ensures.items
    ∙ ap (flat_map (region_lines c.args.checked.now)) (c.as_slice.ensures ∙ ap (λ (p : Program). p.regions) c.program.ensures.same)
    ∙ lines-regions c.args.checked.now c.args.checked.now.regions
