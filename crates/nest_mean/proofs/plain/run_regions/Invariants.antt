use Rattle.std.proofs.Common.{map, drop}
use Rattle.nest_syntax.specs.Course.{in_order, region_of}
use Rattle.nest_mean.specs.Bound.{most_iterations}
use Rattle.nest_mean.specs.CourseParts.{setting_in}
use Rattle.nest_mean.proofs.Walk.{IsAhead}
use Rattle.nest_mean.proofs.plain.run_regions.Given as goal

abbrev pub invariant-loop-region : goal.invariant-loop-region
invariant-loop-region l = IsAhead (setting_in l.job) (in_order (map (region_of (setting_in l.job)) l.regions)) (in_order (map (region_of (setting_in l.job)) (drop l.region-index l.regions))) most_iterations l.fn.run l.run
