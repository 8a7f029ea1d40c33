use Rattle.std.proofs.lemmas.Result.{err_from_is_err_and}
use Rattle.nest_syntax.specs.Course.{region_of}
use Rattle.nest_mean.specs.Bound.{most_iterations}
use Rattle.nest_mean.specs.CourseParts.{setting_in}
use Rattle.nest_mean.proofs.Walk.{ahead_begins, listed_ready, listed_passes, listed_ends, listed_over}
use Rattle.nest_mean.proofs.plain.run_regions.Goals as goal

pub loop-region-init : goal.loop-region-init
loop-region-init c = ahead_begins _ _ _ _

pub run_region-requires : goal.run_region-requires
run_region-requires c = listed_ready (setting_in c.args.job.now) (region_of (setting_in c.args.job.now)) c.args.regions.now most_iterations c.loop-region.region-index c.loop-region-test.true c.region-item.result c.region-item.is _ _ c.loop-region.invariant _ c.requires

pub returns-in_err-run_region : goal.returns-in_err-run_region
returns-in_err-run_region c =
    let p = err_from_is_err_and c.from_residual.result c.from_residual.ensures.1 in
    rw (p.1, p.2) (listed_ends (setting_in c.args.job.now) (region_of (setting_in c.args.job.now)) c.args.regions.now most_iterations c.loop-region.region-index c.loop-region-test.true c.region-item.result c.region-item.is _ _ c.loop-region.invariant _ _ c.in_err-run_region.ensures)

pub loop-region-preserved : goal.loop-region-preserved
loop-region-preserved c = listed_passes (setting_in c.args.job.now) (region_of (setting_in c.args.job.now)) c.args.regions.now most_iterations c.loop-region.region-index c.loop-region-test.true c.region-item.result c.region-item.is _ _ c.loop-region.invariant _ c.in_ok-run_region.ensures

pub returns : goal.returns
returns c = listed_over (setting_in c.args.job.now) (region_of (setting_in c.args.job.now)) c.args.regions.now most_iterations c.loop-region.region-index c.loop-region-test.false _ _ c.loop-region.invariant
