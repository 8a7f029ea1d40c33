use Rattle.std.proofs.Common.{rules, ◌≡◌, to_z, of_z, w64}
use Rattle.std.proofs.lemmas.Int.{to_z-of_z}
use Rattle.nest_mean.proofs.Walk.{ready_for, invocation_traps, invocation_runs}
use Rattle.nest_mean.proofs.courses.run_invocation.Goals as goal

pub run_iterations-requires-clause-ready : goal.run_iterations-requires-clause-ready
run_iterations-requires-clause-ready c = ready_for _ _ _ _ c.in-Ok.ensures.count c.requires

pub returns-in-Ok : goal.returns-in-Ok
returns-in-Ok c =
    let low : to_z w64 (of_z w64 c.in-Ok.low) ≡ c.in-Ok.low = to_z-of_z w64 c.in-Ok.low (search rules) in
    invocation_runs _ _ _ c.in-Ok.low c.in-Ok.count c.in-Ok.ensures.value c.in-Ok.ensures.count _ _ (simp low at c.run_iterations.ensures)

pub returns-in-Err : goal.returns-in-Err
returns-in-Err c = rw c.scheduler_trap.ensures (invocation_traps _ _ _ c.in-Err.cause c.in-Err.ensures.value)
