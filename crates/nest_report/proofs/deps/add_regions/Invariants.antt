use Rattle.std.proofs.Common.{◌≡◌, ◌++◌, drop}
use Rattle.std.specs.List.{flat_map}
use Rattle.nest_report.specs.Deps.{region_lines}
use Rattle.nest_report.proofs.deps.add_regions.Given as goal

abbrev pub invariant-loop-region : goal.invariant-loop-region
invariant-loop-region l = l.text.items ++ flat_map (region_lines l.checked) (drop l.region-index l.regions) ≡ l.fn.text.items ++ flat_map (region_lines l.checked) l.regions
