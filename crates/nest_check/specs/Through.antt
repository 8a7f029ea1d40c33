-- States that the items of a list change in turn.
use Rattle.std.specs.Prelude.{List, [], ◌∷◌}

-- a state that each item of a list changes in turn
abbrev pub through : {S E : Type 0} → (S → E → S) → S → List E → S
through step s [] = s
through step s (e ∷ es) = through step (step s e) es
