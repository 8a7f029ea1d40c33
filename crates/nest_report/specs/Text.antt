-- The texts that are printed. Each line ends with a line feed, and numbers are decimal.
use Rattle.std.specs.Prelude.{ℕ, Bool, true, false, Option, Some, None, List, [], ◌∷◌, ◌++◌, codes, decimal}
use Rattle.nest_syntax.specs.declared.operators.Cause.{Cause}
use Rattle.nest_syntax.specs.declared.operators.Cause.TheVariants as cause
use Rattle.nest_syntax.specs.declared.place.Place.{Place}

abbrev pub cause_text : Cause → List ℕ
cause_text cause.Divide = codes "divide"
cause_text cause.Index = codes "index"
cause_text cause.Loop = codes "loop"

-- `iteration N` or, for the scheduler, `before iteration N`
abbrev pub moment_text : Bool → List ℕ
moment_text true = codes " before iteration "
moment_text false = codes " iteration "

-- `trap CAUSE line L iteration N`
abbrev pub trap_line : Place → List ℕ
trap_line place = codes "trap " ++ cause_text place.cause ++ codes " line " ++ decimal place.line.0 ++ moment_text place.by_scheduler ++ decimal place.number ++ 10 ∷ []

-- `least distance N` or, where there is none, `least distance none`
abbrev pub distance_text : Option ℕ → List ℕ
distance_text (Some distance) = decimal distance
distance_text None = codes "none"

abbrev pub least_line : Option ℕ → List ℕ
least_line least = codes "least distance " ++ distance_text least ++ 10 ∷ []
