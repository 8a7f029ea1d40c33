-- An iteration is noted word by word.
use Rattle.std.proofs.Common.{◌≡◌, ℕ, ◌<◌, if◌then◌else◌, nat_lt, List, ◌∷◌}
use Rattle.shadow_memory.specs.Notes.{Note}
use Rattle.shadow_memory.specs.Accesses.{LastAccesses, last_access, access_at}

-- the words below `from` have it already, the others not yet
abbrev pub IsNotedBelow : (note : Note) (notes : List Note) (words workers from : ℕ) → LastAccesses → Type 0
IsNotedBelow note notes words workers from shadow = (word worker : ℕ) → word < words → worker < workers
    → access_at shadow word worker ≡ (if nat_lt word from then last_access (note ∷ notes) worker word else last_access notes worker word)
