-- Where the lines are that end a part. No caller of `parts` needs this.
use Rattle.std.specs.Prelude.{◌≡◌, ℕ, ◌+◌, ◌<◌, ◌≤◌, List, length, slice_index}
use Rattle.nest_lex.specs.Parts.{IsMarkerLine, NoneBetween}
use Rattle.nest_lex.specs.declared.input.Marker.{Marker}
use Rattle.nest_lex.specs.declared.input.Marker.TheVariants.{Steps}
use Rattle.nest_lex.specs.declared.input.MarkerLine.{MarkerLine}

-- a line begins here, or the text ends
abbrev pub BeginsLine : List ℕ → ℕ → Type 0
BeginsLine text at = at < length text → (k : ℕ) → k + 1 ≡ at → slice_index text k ≡ 10

-- no line that begins from `from` on and before `to` says a marker
abbrev pub NoMarker : List ℕ → ℕ → ℕ → Type 0
NoMarker text from to = (marker : Marker) → NoneBetween text marker from to

-- the first line from `from` on that says a marker
pub record IsFirstMarker (text : List ℕ) (from : ℕ) (line : MarkerLine) : Type 0 where
  pub after : from ≤ line.start
  pub none : NoMarker text from line.start
  pub here : IsMarkerLine text line.marker line.start line.stop

-- the first line from `from` on that says `steps`
pub record IsFirstSteps (text : List ℕ) (from : ℕ) (line : MarkerLine) : Type 0 where
  pub after : from ≤ line.start
  pub none : NoneBetween text Steps from line.start
  pub here : IsMarkerLine text Steps line.start line.stop
