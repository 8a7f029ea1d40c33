use Rattle.std.proofs.Common.{◌≡◌, take}
use Rattle.nest_check.proofs.copies.copy_regions.Given as goal

abbrev pub invariant-loop-region : goal.invariant-loop-region
invariant-loop-region l = l.copied ≡ take l.region-index l.regions
