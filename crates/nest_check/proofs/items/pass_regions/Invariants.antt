use Rattle.std.proofs.Common.{◌≡◌, drop}
use Rattle.nest_check.specs.Through.{through}
use Rattle.nest_check.specs.Noted.{region_passed}
use Rattle.nest_check.proofs.items.pass_regions.Given as goal

abbrev pub invariant-loop-region : goal.invariant-loop-region
invariant-loop-region l = through region_passed l.sizes (drop l.region-index l.regions) ≡ through region_passed l.fn.sizes l.regions
