use Rattle.std.proofs.Common.{◌≡◌, map, drop}
use Rattle.nest_check.specs.Through.{through}
use Rattle.nest_check.specs.Parts.{all_at, parts_in_loop}
use Rattle.nest_check.specs.Noted.{noted}
use Rattle.nest_check.proofs.parts.walk_regions.Given as goal

abbrev pub invariant-loop-region : goal.invariant-loop-region
invariant-loop-region l = through noted l.found (all_at (map parts_in_loop (drop l.region-index l.regions)) 1) ≡ through noted l.fn.found (all_at (map parts_in_loop l.regions) 1)
