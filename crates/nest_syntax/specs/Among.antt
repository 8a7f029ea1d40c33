-- What is among the values of a list. The values are often numbers: of names, of nodes, of places.
use Rattle.std.specs.Prelude.{◌≡◌, ℕ, Bool, ◌==◌, ◌⊎◌, List, [], ◌∷◌}
use Rattle.std.specs.List.{list_any}

-- whether a number is one of a list
abbrev pub is_among : List ℕ → ℕ → Bool
is_among numbers number = list_any (λ other. number == other) numbers

-- that a value is one of a list
abbrev pub IsOne : {A : Type 0} → List A → A → Type 0
IsOne [] one = ⊥
IsOne (first ∷ others) one = (one ≡ first) ⊎ IsOne others one

-- that each value of a list has a property
abbrev pub Each : {A : Type 0} → (A → Type 0) → List A → Type 0
Each P [] = Unit {0}
Each P (x ∷ xs) = P x × Each P xs
