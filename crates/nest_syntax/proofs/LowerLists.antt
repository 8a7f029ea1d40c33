-- The lowest line over lists that follow one another.
use Rattle.std.proofs.Common.{◌≡◌, Bool, true, false, if◌then◌else◌, Option, List, [], ◌∷◌, ◌++◌, map, filter, refl}
use Rattle.nest_syntax.specs.declared.names.Line.{Line}
use Rattle.nest_syntax.specs.Lowest.{lower, lower_if, lower_of, lines_where}

pub lower_of-append : (found : Option Line) (xs ys : List Line) → lower_of found (xs ++ ys) ≡ lower_of (lower_of found xs) ys
lower_of-append found [] ys = refl
lower_of-append found (x ∷ xs) ys = lower_of-append (lower found x) xs ys

-- one more item, and then those of a list
pub lower_of-where : {A : Type 0} (line : A → Line) (breaks : A → Bool) (found : Option Line) (x : A) (xs : List A) → lower_of (lower_if (breaks x) found (line x)) (lines_where line breaks xs) ≡ lower_of found (lines_where line breaks (x ∷ xs))
lower_of-where line breaks found x xs = by_test (breaks x)
  where
    by_test : (b : Bool) → lower_of (if b then lower found (line x) else found) (lines_where line breaks xs) ≡ lower_of found (map line (if b then x ∷ filter breaks xs else filter breaks xs))
    by_test true = refl
    by_test false = refl
