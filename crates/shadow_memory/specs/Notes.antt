-- What is noted: iterations, each with its worker, its number and its claims. And what an iteration needs of them.
use Rattle.std.specs.Prelude.{ℕ, max, Bool, ◌&&◌, ◌==◌, if◌then◌else◌, Option, Some, None, List, [], ◌∷◌}
use Rattle.addr_slice.specs.Claims.{Claimed, clash}

-- an iteration of a worker, with its claims
pub record Note : Type 0 where
  pub worker : ℕ
  pub number : ℕ
  pub claims : Claimed

-- the greater of two numbers, where there are two
abbrev pub later : Option ℕ → Option ℕ → Option ℕ
later None second = second
later (Some first) None = Some first
later (Some first) (Some second) = Some (max first second)

-- the greatest number of the notes that pass a test, and none where none passes
abbrev pub greatest : (Note → Bool) → List Note → Option ℕ
greatest passes [] = None
greatest passes (note ∷ notes) = if passes note then later (Some note.number) (greatest passes notes) else greatest passes notes

-- What an iteration of a worker, with these claims, needs of another worker: of those of its iterations that are noted
-- the greatest whose claims conflict with them. It needs nothing of its own worker.
abbrev pub need : List Note → Claimed → (worker other : ℕ) → Option ℕ
need notes claims worker other = if other == worker then None else greatest (λ note. (note.worker == other) && clash claims note.claims) notes
