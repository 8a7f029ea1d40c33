use Rattle.std.proofs.Common.{◌≡◌, ◌++◌, map, take, drop, length}
use Rattle.nest_profile.proofs.row.Row.clear.Given as goal

abbrev pub invariant-workers : goal.invariant-workers
invariant-workers g l = (l.self.signs.items ≡ map (λ (sign : g.row.G.Denot). g.G.Signature.nothing (g.G.Signature.sizes_of sign)) (take l.worker l.fn.self.signs.items) ++ drop l.worker l.fn.self.signs.items) × (length l.self.signs.items ≡ length l.fn.self.signs.items)
