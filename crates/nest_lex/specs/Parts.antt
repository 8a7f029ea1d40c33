-- The parts of the input: the nest, the data lines, the step words.
use Rattle.std.specs.Prelude.{◌≡◌, ℕ, ◌+◌, ◌<◌, ◌≤◌, min, true, List, length, slice_index, slice_range, take, drop, Some, None, codes}
use Rattle.std.specs.List.{list_all}
use Rattle.nest_lex.specs.Bytes.{is_space}
use Rattle.nest_lex.specs.Pieces.{IsLineEnd}
use Rattle.nest_lex.specs.Spots.{spot_of}
use Rattle.nest_lex.specs.declared.input.Marker.{Marker}
use Rattle.nest_lex.specs.declared.input.Marker.TheVariants.{Data, Steps}
use Rattle.nest_lex.specs.declared.input.Parts.{Parts}

-- the word of a marker
abbrev pub marker_text : Marker → List ℕ
marker_text Data = codes "data"
marker_text Steps = codes "steps"

-- the line is this word, and behind it nothing but spaces, tabs and carriage returns
pub record Says (line : List ℕ) (word : List ℕ) : Type 0 where
  pub begins : take (length word) line ≡ word
  pub blank : list_all is_space (drop (length word) line) ≡ true

-- a whole line, from `start` up to `stop`, which is its line feed or the end, says this marker
pub record IsMarkerLine (text : List ℕ) (marker : Marker) (start stop : ℕ) : Type 0 where
  pub begins : (k : ℕ) → k + 1 ≡ start → slice_index text k ≡ 10
  pub ends : IsLineEnd text start stop
  pub says : Says (slice_range text start stop) (marker_text marker)

-- no line that says this marker begins from `from` on and before `to`
abbrev pub NoneBetween : List ℕ → Marker → ℕ → ℕ → Type 0
NoneBetween text marker from to = (start stop : ℕ) → from ≤ start → start < to → IsMarkerLine text marker start stop → ⊥

-- the place behind a line that ends at `stop`
abbrev pub behind : List ℕ → ℕ → ℕ
behind text stop = min (stop + 1) (length text)

-- Which parts a text has: the first line `data` or `steps` ends the nest, also inside a comment. Behind a line `data`
-- the first line `steps` ends the data lines.
pub data IsParts (text : List ℕ) : Parts → Type 0 where
  nest_alone : NoneBetween text Data 0 (length text) → NoneBetween text Steps 0 (length text)
      → IsParts text (record { nest_end = length text; values = None; data_line = 0; steps = None })
  with_steps : (start stop : ℕ) → NoneBetween text Data 0 start → NoneBetween text Steps 0 start → IsMarkerLine text Steps start stop
      → IsParts text (record { nest_end = start; values = None; data_line = 0; steps = Some (behind text stop) })
  with_data : (start stop : ℕ) → NoneBetween text Data 0 start → NoneBetween text Steps 0 start → IsMarkerLine text Data start stop
      → NoneBetween text Steps (behind text stop) (length text)
      → IsParts text (record { nest_end = start; values = Some (behind text stop, length text); data_line = (spot_of text start).line + 1; steps = None })
  with_both : (start stop last end : ℕ) → NoneBetween text Data 0 start → NoneBetween text Steps 0 start → IsMarkerLine text Data start stop
      → behind text stop ≤ last → NoneBetween text Steps (behind text stop) last → IsMarkerLine text Steps last end
      → IsParts text (record { nest_end = start; values = Some (behind text stop, last); data_line = (spot_of text start).line + 1; steps = Some (behind text end) })
