use Rattle.std.proofs.Common.{◌≡◌, map, take}
use Rattle.task_code.specs.Bodies.{told}
use Rattle.spec_core.specs.Shared.{is_shared}
use Rattle.spec_core.proofs.shared.shared_bodies.Given as goal

abbrev pub invariant-loop-body : goal.invariant-loop-body
invariant-loop-body l = l.shared.items ≡ map (λ b. is_shared l.checked (told b)) (take l.body-index l.body-items)
