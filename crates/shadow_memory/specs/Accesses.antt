-- What a shadow holds of its notes: for each word and each worker the last accesses.
use Rattle.std.specs.Prelude.{◌≡◌, ℕ, ◌+◌, ◌*◌, ◌<◌, Bool, true, false, ◌&&◌, ◌==◌, Option, None, List, [], ◌∷◌, slice_index_or}
use Rattle.addr_slice.specs.Claims.{Claimed, has, clash_at}
use Rattle.shadow_memory.specs.declared.access.LastAccess.{LastAccess}
use Rattle.shadow_memory.specs.Notes.{Note, greatest}

-- the greatest iteration of a worker that claims the word so
abbrev pub last_claim : List Note → (worker word : ℕ) → (write : Bool) → Option ℕ
last_claim notes worker word write = greatest (λ note. (note.worker == worker) && has note.claims word write) notes

abbrev pub last_access : List Note → (worker word : ℕ) → LastAccess
last_access notes worker word = record { read = last_claim notes worker word false; write = last_claim notes worker word true }

-- the greatest iteration of a worker that conflicts at a word with an iteration of these claims
abbrev pub last_conflict : List Note → Claimed → (worker word : ℕ) → Option ℕ
last_conflict notes claims worker word = greatest (λ note. (note.worker == worker) && clash_at claims note.claims word) notes

-- The last accesses of so many words by so many workers. That of a word and a worker is at `word * workers + worker`.
pub record LastAccesses : Type 0 where
  pub words : ℕ
  pub workers : ℕ
  pub list : List LastAccess

abbrev pub access_at : LastAccesses → (word worker : ℕ) → LastAccess
access_at shadow word worker = slice_index_or shadow.list (word * shadow.workers + worker) (record { read = None; write = None })

-- each note is of a worker below
abbrev pub AreOf : ℕ → List Note → Type 0
AreOf workers [] = Unit {0}
AreOf workers (note ∷ notes) = (note.worker < workers) × AreOf workers notes

-- These were noted, and nothing else.
pub record IsNoted (shadow : LastAccesses) (notes : List Note) : Type 0 where
  pub own : AreOf shadow.workers notes
  pub last : (word worker : ℕ) → word < shadow.words → worker < shadow.workers → access_at shadow word worker ≡ last_access notes worker word
