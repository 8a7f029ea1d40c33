use Rattle.std.proofs.Common.{◌≡◌, ℕ, List, length, if◌then◌else◌, nat_lt}
use Rattle.nest_profile.specs.Hulls.{IsTable, sign_in}
use Rattle.nest_profile.proofs.walk.clear_first.Given as goal

abbrev pub invariant-epochs : goal.invariant-epochs
invariant-epochs g l = (length l.rows.items ≡ length l.fn.rows.items)
    × ((sizes : List ℕ) (room width : ℕ) → IsTable g.G.Signature.sizes_of sizes room width l.fn.rows.items → IsTable g.G.Signature.sizes_of sizes room width l.rows.items
    × ((e u : ℕ) → sign_in (g.G.Signature.nothing sizes) l.rows.items e u ≡ (if nat_lt e l.epoch then g.G.Signature.nothing sizes else sign_in (g.G.Signature.nothing sizes) l.fn.rows.items e u)))
