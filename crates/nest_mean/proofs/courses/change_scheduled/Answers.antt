use Rattle.std.proofs.Common.{rules, ◌≡◌, to_z, of_z, w64}
use Rattle.std.proofs.lemmas.Int.{to_z-of_z}
use Rattle.nest_mean.proofs.Walk.{assigns, assignment_traps}
use Rattle.nest_mean.proofs.courses.change_scheduled.Goals as goal

pub returns-in-Ok : goal.returns-in-Ok
returns-in-Ok c =
    let new : to_z w64 (of_z w64 c.in-Ok.new) ≡ c.in-Ok.new = to_z-of_z w64 c.in-Ok.new (search rules) in
    assigns _ _ _ _ _ _ c.in-Ok.new c.in-Ok.ensures _ (simp new at c.set.ensures.present)

pub returns-in-Err : goal.returns-in-Err
returns-in-Err c = rw c.scheduler_trap.ensures (assignment_traps _ _ _ _ _ _ c.in-Err.cause c.in-Err.ensures)
