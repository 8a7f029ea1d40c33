-- Lists of names, whatever their order.
use Rattle.std.specs.Prelude.{◌≡◌, ℕ, ◌||◌, List}
use Rattle.nest_syntax.specs.Among.{is_among}

-- that the names of two lists are the same
abbrev pub HasNames : List ℕ → List ℕ → Type 0
HasNames few all = (name : ℕ) → is_among few name ≡ is_among all name

-- that the new names are the old ones and those of a list
abbrev pub Adds : List ℕ → List ℕ → List ℕ → Type 0
Adds old new names = (name : ℕ) → is_among new name ≡ (is_among old name || is_among names name)
