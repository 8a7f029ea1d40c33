-- How words give texts to names: before what the texts say.
use Rattle.std.specs.Prelude.{◌≡◌, ◌≤◌, ◌==◌, ℕ, Bool, true, not, List, [], ◌∷◌, ◌++◌, Option, codes, find, length}
use Rattle.std.specs.Option.{option_map}
use Rattle.std.specs.List.{filter}
use Rattle.std.specs.Str.{bytes_eq}

abbrev pub Text : Type 0
Text = List ℕ

-- the options that have a value
pub data IsOption : Text → Type 0 where
  engine : IsOption (codes "engine")
  workers : IsOption (codes "workers")
  queue : IsOption (codes "queue")
  sign : IsOption (codes "sign")
  segment : IsOption (codes "segment")
  distance : IsOption (codes "distance")
  seed : IsOption (codes "seed")
  size : IsOption (codes "size")

-- a name and its text. The action's name is `action`, and `--record` has the text `true`.
abbrev pub Pair : Type 0
Pair = Text × Text

-- a word that begins with no hyphen
abbrev pub is_plain : Text → Bool
is_plain [] = true
is_plain (b ∷ bytes) = not (b == 45)

abbrev pub dashed : Text → Text
dashed name = 45 ∷ 45 ∷ name

-- The first words give a name its text, and these words are left: `--name text`, `--name=text`, `--record` or an
-- action. No text of a word of its own begins with a hyphen.
pub data Begins (words : List Text) (given : Pair) (rest : List Text) : Type 0 where
  apart : IsOption given.0 → is_plain given.1 ≡ true → words ≡ dashed given.0 ∷ given.1 ∷ rest → Begins words given rest
  joined : IsOption given.0 → words ≡ (dashed given.0 ++ 61 ∷ given.1) ∷ rest → Begins words given rest
  flag : given ≡ (codes "record", codes "true") → words ≡ codes "--record" ∷ rest → Begins words given rest
  action : given.0 ≡ codes "action" → is_plain given.1 ≡ true → words ≡ given.1 ∷ rest → Begins words given rest

-- the words give these pairs, in this order, and nothing else
abbrev pub Spells : List Text → List Pair → Type 0
Spells words [] = words ≡ []
Spells words (pair ∷ given) = (rest : List Text) × Begins words pair rest × Spells rest given

abbrev pub is_named : Text → Pair → Bool
is_named name pair = bytes_eq pair.0 name

-- the text that a name has
abbrev pub text_of : Text → List Pair → Option Text
text_of name given = option_map (λ (pair : Pair). pair.1) (find (is_named name) given)

-- no name comes twice
abbrev pub IsOnce : List Pair → Type 0
IsOnce given = (name : Text) → length (filter (is_named name) given) ≤ 1

-- the words give these pairs, no name twice
pub record Give (words : List Text) (given : List Pair) : Type 0 where
  pub spelled : Spells words given
  pub once : IsOnce given
