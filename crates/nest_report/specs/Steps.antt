-- The steps of a run, as text.
use Rattle.std.specs.Prelude.{ℕ, ◌+◌, ◌%◌, ◌==◌, if◌then◌else◌, List, [], ◌∷◌, ◌++◌, codes, decimal}

-- the byte before the step with this number, from 0: a line has 32 of them
abbrev pub before : ℕ → ℕ
before number = if number % 32 == 0 then 10 else 32

-- the steps from the one with this number on
abbrev pub steps_from : ℕ → List ℕ → List ℕ
steps_from number [] = []
steps_from number (step ∷ steps) = before number ∷ decimal step ++ steps_from (number + 1) steps

-- the line `steps`, and behind it the lines of the steps
abbrev pub steps_text : List ℕ → List ℕ
steps_text steps = codes "steps" ++ steps_from 0 steps ++ 10 ∷ []
