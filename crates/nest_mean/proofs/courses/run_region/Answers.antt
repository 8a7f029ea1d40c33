use Rattle.std.proofs.Common.{rules, ◌≡◌, to_z, of_z, w64}
use Rattle.std.proofs.lemmas.Int.{to_z-of_z}
use Rattle.nest_mean.proofs.Walk.{region_traps, region_runs, region_ready}
use Rattle.nest_mean.proofs.courses.run_region.Goals as goal

pub run_region_turns-requires-clause-ready : goal.run_region_turns-requires-clause-ready
run_region_turns-requires-clause-ready c = region_ready _ _ _ _ _ c.in-Ok.ensures.count c.requires

pub returns-in-Ok : goal.returns-in-Ok
returns-in-Ok c =
    let low : to_z w64 (of_z w64 c.in-Ok.low) ≡ c.in-Ok.low = to_z-of_z w64 c.in-Ok.low (search rules) in
    region_runs _ _ _ c.in-Ok.low c.in-Ok.count c.in-Ok.ensures.value c.in-Ok.ensures.count _ _ (simp low at c.run_region_turns.ensures)

pub returns-in-Err : goal.returns-in-Err
returns-in-Err c = rw c.scheduler_trap.ensures (region_traps _ _ _ c.in-Err.cause _ c.in-Err.ensures.value)
