use Rattle.std.proofs.Common.{◌≡◌, ◌++◌, [], ◌∷◌, drop}
use Rattle.std.specs.List.{flat_map}
use Rattle.nest_data.specs.Text.{array_line, value_text}
use Rattle.nest_data.proofs.print.add_line.Given as goal

-- what is written and what is left to write is the old text and the line
abbrev pub invariant-loop-value : goal.invariant-loop-value
invariant-loop-value l = l.text.items ++ (flat_map value_text (drop l.value-index l.values) ++ 10 ∷ []) ≡ l.fn.text.items ++ array_line l.fn.name l.fn.values
