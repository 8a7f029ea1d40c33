-- No caller needs this. Pairs whose hulls overlap, among segments that were looked at.
use Rattle.std.specs.Prelude.{◌⊎◌, ℕ, IsSome, List, [], ◌∷◌}
use Rattle.settle_law.specs.Claims.{Claims}
use Rattle.settle_law.specs.Courses.{Nest, reached}
use Rattle.spec_machine.specs.Facts.{Pair}
use Rattle.spec_machine.specs.Machine.{Setup, Epoch}
use Rattle.spec_machine.specs.Segments.{opens_at, IsPairIn, hull}

module _ {B C P G : Type 0} (m : Setup B C P G) (nest : Nest) (start : C) (claims : ℕ → Claims) (size : ℕ) where
  -- in a segment that textual order reaches
  pub record FoundAt (epochs : List (Epoch B)) (p : Pair) : Type 0 where
    pub reaches : IsSome (reached nest (opens_at epochs 0))
    pub is_pair : IsPairIn m nest start epochs p
    pub overlap : IsSome (m.kind.overlap (hull m nest start claims size epochs p.early) (hull m nest start claims size epochs p.late))

  abbrev pub FoundIn : List (List (Epoch B)) → Pair → Type 0
  FoundIn [] p = ⊥
  FoundIn (epochs ∷ segments) p = FoundAt epochs p ⊎ FoundIn segments p
