-- The lowest of the lines that break a rule, as a condition and as it is found.
use Rattle.std.specs.Prelude.{◌≡◌, ◌≤◌, Bool, nat_lt, if◌then◌else◌, ◌⊎◌, Option, Some, None, MatchOption, List, [], ◌∷◌, map, filter}
use Rattle.nest_syntax.specs.declared.names.Line.{Line}
use Rattle.nest_syntax.specs.Among.{IsOne}

-- The lowest line of those that break a rule: none where no line does, else one that does and that no other is below.
abbrev pub IsLowest : (Line → Type 0) → Option Line → Type 0
IsLowest Breaks found = MatchOption found ((line : Line) → Breaks line → ⊥) (λ lowest. Breaks lowest × ((line : Line) → Breaks line → lowest.0 ≤ line.0))

-- the same of a rule that the lines of a list break
abbrev pub IsLowestOf : List Line → Option Line → Type 0
IsLowestOf lines found = IsLowest (IsOne lines) found

-- the lower of the lowest line so far and a further one
abbrev pub lower : Option Line → Line → Option Line
lower None line = Some line
lower (Some lowest) line = Some (if nat_lt line.0 lowest.0 then line else lowest)

-- the lowest line so far, and a further one where it breaks the rule
abbrev pub lower_if : Bool → Option Line → Line → Option Line
lower_if breaks found line = if breaks then lower found line else found

-- the lowest line so far, and then the lines of a list
abbrev pub lower_of : Option Line → List Line → Option Line
lower_of found [] = found
lower_of found (line ∷ lines) = lower_of (lower found line) lines

-- the lowest line of a list, none where it is empty
abbrev pub lowest : List Line → Option Line
lowest lines = lower_of None lines

-- the lines of those items of a list that break a rule, in order
abbrev pub lines_where : {A : Type 0} → (A → Line) → (A → Bool) → List A → List Line
lines_where line breaks items = map line (filter breaks items)

-- that there is a line, not above this one
abbrev pub IsAtMost : Option Line → Line → Type 0
IsAtMost None line = ⊥
IsAtMost (Some lowest) line = lowest.0 ≤ line.0

-- what the lowest line becomes by the lines that break a rule
pub record Lowers (Breaks : Line → Type 0) (old new : Option Line) : Type 0 where
  pub reached : (line : Line) → Breaks line → IsAtMost new line
  pub kept : (line : Line) → old ≡ Some line → IsAtMost new line
  pub from : (line : Line) → new ≡ Some line → (old ≡ Some line) ⊎ Breaks line
