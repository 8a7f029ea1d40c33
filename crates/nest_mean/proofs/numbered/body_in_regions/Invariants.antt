use Rattle.nest_mean.specs.Numbered.{bodies_in_region}
use Rattle.nest_mean.proofs.Numbers.{IsSought}
use Rattle.nest_mean.proofs.numbered.body_in_regions.Given as goal

abbrev pub invariant-loop-region : goal.invariant-loop-region
invariant-loop-region l = IsSought bodies_in_region l.regions l.region-index l.fn.number l.number
