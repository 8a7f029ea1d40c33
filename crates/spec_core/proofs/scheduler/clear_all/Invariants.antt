use Rattle.std.proofs.Common.{◌≡◌, ◌++◌, map, take, drop, length}
use Rattle.spec_core.specs.Hands.{cleared}
use Rattle.spec_core.proofs.scheduler.clear_all.Given as goal

abbrev pub invariant-seats : goal.invariant-seats
invariant-seats g l = (l.seats.items ≡ map cleared (take l.worker l.fn.seats.items) ++ drop l.worker l.fn.seats.items) × (length l.seats.items ≡ length l.fn.seats.items)
