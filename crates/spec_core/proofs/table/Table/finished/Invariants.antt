use Rattle.std.proofs.Common.{◌≡◌, map, take, length}
use Rattle.spec_core.specs.Hands.{Bench}
use Rattle.spec_core.proofs.table.Table.finished.Given as goal

abbrev pub invariant-workers : goal.invariant-workers
invariant-workers g l = (length l.finished ≡ 8) × (take l.worker l.finished ≡ map (λ (b : Bench g.row.G.Denot). b.done) (take l.worker l.self.seats.items))
