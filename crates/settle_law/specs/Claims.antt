-- Claims: the words that an iteration may read and those that it may write. Iterations whose claims don't clash are apart.
use Rattle.std.specs.Prelude.{◌≡◌, ℕ, ◌⊎◌, ℤ, Bool, true, ◌||◌}
use Rattle.settle_law.specs.Trees.{Tree, Finished, Trapped, Load, Store}
use Rattle.settle_law.specs.Traces.{Access, Read, Write, Apart}

pub record Claims : Type 0 where
  pub read : ℕ → Bool
  pub written : ℕ → Bool

-- the claims hold the tree: each access, on any path, is claimed
abbrev pub Within : Claims → Tree → Type 0
Within claims Finished = Unit {0}
Within claims (Trapped cause line) = Unit {0}
Within claims (Load w go) = (claims.read w ≡ true) × ((value : ℤ) → Within claims (go value))
Within claims (Store w value rest) = (claims.written w ≡ true) × Within claims rest

-- the claims cover the access
abbrev pub Covers : Claims → Access → Type 0
Covers claims (Read k w value) = claims.read w ≡ true
Covers claims (Write k w value) = claims.written w ≡ true

-- whether a word is claimed at all
abbrev pub claimed : Claims → ℕ → Bool
claimed claims w = claims.read w || claims.written w

-- two sets of claims clash where they share a word and one of them claims it for writing
abbrev pub Clash : Claims → Claims → Type 0
Clash claims others = (w : ℕ) × ((claims.written w ≡ true) × (claimed others w ≡ true) ⊎ (claimed claims w ≡ true) × (others.written w ≡ true))

abbrev pub ClaimsPartIterations : Type 0
ClaimsPartIterations = (claims others : Claims) (tree other : Tree) → Within claims tree → Within others other → (Clash claims others → ⊥) → Apart tree other
