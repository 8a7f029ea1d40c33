use Rattle.std.proofs.Common.{◌≡◌, ◌+◌, ◌-◌, length, drop, map, arith}
use Rattle.std.proofs.lemmas.List.{drop_all, drop_more}
use Rattle.nest_syntax.specs.Course.{Setting, region_of}
use Rattle.std.specs.List.{flat_map}
use Rattle.sched_cursor.specs.Doings.{doings_in_region}
use Rattle.sched_cursor.proofs.Putting.{puts_no_region, puts_more_regions}
use Rattle.sched_cursor.proofs.script.Script.regions.Goals as goal

pub loop-k-init : goal.loop-k-init
loop-k-init c = rw (drop_all (length c.args.regions.now) c.args.regions.now (omega arith)) (puts_no_region _ _ _)

pub loop-k-preserved : goal.loop-k-preserved
loop-k-preserved c =
    let k = c.loop-k.k in
    let back : k - 1 + 1 ≡ k = omega arith in
    let region = c.index-regions-k.result in
    rw (drop_more c.args.regions.now (k - 1) region (omega arith), back, ← c.index-regions-k.is)
    (puts_more_regions _ _ _ _ _ _ (λ (s : Setting). region_of s region) (λ (s : Setting). map (region_of s) (drop k c.args.regions.now)) (doings_in_region region) (flat_map doings_in_region (drop k c.args.regions.now)) _ _ _ c.loop-k.invariant c.in_ok-start.ensures)

pub returns : goal.returns
returns c = let start : c.loop-k.k ≡ 0 = omega arith in rw start at c.loop-k.invariant
