-- Why an input is refused, as text.
use Rattle.std.specs.Prelude.{ℕ, List, ◌++◌, codes, decimal}
use Rattle.nest_lex.specs.declared.token.Spot.{Spot}
use Rattle.nest_data.specs.declared.refused.DataKind.{DataKind}
use Rattle.nest_data.specs.declared.refused.DataKind.TheVariants as kind
use Rattle.nest_input.specs.declared.refused.Refusal.{Refusal}
use Rattle.nest_input.specs.declared.refused.Refusal.TheVariants as refusal

-- a text, and behind it ` at line L`
abbrev pub line_text : List ℕ → ℕ → List ℕ
line_text what line = what ++ codes " at line " ++ decimal line

-- a text, and behind it ` at line L column C`
abbrev pub spot_text : List ℕ → Spot → List ℕ
spot_text what at = line_text what at.line ++ codes " column " ++ decimal at.column

-- what is wrong with a data line
abbrev pub data_text : DataKind → List ℕ
data_text kind.Name = codes "data name"
data_text kind.Repeated = codes "data repeated"
data_text kind.Number = codes "data number"
data_text kind.Count = codes "data count"

-- the reason that stands behind `refused: `
abbrev pub reason_text : Refusal → List ℕ
reason_text (refusal.Token at) = spot_text (codes "token") at
reason_text (refusal.Dense at) = spot_text (codes "dense") at
reason_text (refusal.Syntax at) = spot_text (codes "syntax") at
reason_text (refusal.Rule rule line) = line_text (codes "rule " ++ decimal rule) line.0
reason_text (refusal.Data kind line) = line_text (data_text kind) line
