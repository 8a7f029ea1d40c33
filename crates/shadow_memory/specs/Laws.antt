-- What is needed is a maximum: the greatest of the iterations noted whose claims conflict.
use Rattle.std.specs.Prelude.{◌≡◌, ℕ, ◌≤◌, Option, Some, None, List}
use Rattle.std.specs.List.{Contains}
use Rattle.addr_slice.specs.Claims.{Claimed, Clash, IsEven}
use Rattle.shadow_memory.specs.Notes.{Note, need}

-- an iteration of this worker, whose claims conflict with these
pub record Conflicts (claims : Claimed) (worker : ℕ) (note : Note) : Type 0 where
  pub own : note.worker ≡ worker
  pub clash : Clash claims note.claims

-- the greatest number of those that are noted, or none where none is
abbrev pub IsGreatest : List Note → Claimed → (worker : ℕ) → Option ℕ → Type 0
IsGreatest notes claims worker None = (note : Note) → Contains notes note → Conflicts claims worker note → ⊥
IsGreatest notes claims worker (Some number) = ((note : Note) × Contains notes note × Conflicts claims worker note × (note.number ≡ number))
    × ((note : Note) → Contains notes note → Conflicts claims worker note → note.number ≤ number)

-- What an iteration needs of another worker is that number. Its claims are as many for writing as for reading.
abbrev pub NeedsAreGreatest : Type 0
NeedsAreGreatest = (notes : List Note) (claims : Claimed) → IsEven claims → (worker other : ℕ) → (other ≡ worker → ⊥) → IsGreatest notes claims other (need notes claims worker other)
