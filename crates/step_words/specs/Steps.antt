-- The words behind the line `steps`.
use Rattle.std.specs.Prelude.{◌≡◌, ℕ, ◌+◌, Bool, ◌==◌, ◌||◌, not, Option, Some, None, is_some, List, ⊤}
use Rattle.std.specs.List.{filter_map, position_from}
use Rattle.nest_lex.specs.Spelling.{number_within}
use Rattle.nest_data.specs.Lines.{parted_by}
use Rattle.step_words.specs.declared.refused.StepsRefused.{StepsRefused}
use Rattle.step_words.specs.declared.refused.StepsRefused.TheVariants as refused

-- a space, a tab, a carriage return or a line feed
abbrev pub is_separator : ℕ → Bool
is_separator b = b == 32 || b == 9 || b == 13 || b == 10

abbrev pub is_word_byte : ℕ → Bool
is_word_byte b = not (is_separator b)

-- what the separators part, without the empty parts
abbrev pub words_in : List ℕ → List (List ℕ)
words_in bytes = parted_by is_separator bytes

-- the actor that a word names: decimal digits, and at most the checker's number
abbrev pub actor_of : ℕ → List ℕ → Option ℕ
actor_of workers word = number_within (workers + 1) word

-- the number, from 0, of the first word that names no actor
abbrev pub first_stranger : ℕ → List (List ℕ) → Option ℕ
first_stranger workers words = position_from (λ (word : List ℕ). not (is_some (actor_of workers word))) 0 words

-- each word names an actor, and these are the actors in order
pub record Name (workers : ℕ) (words : List (List ℕ)) (steps : List ℕ) : Type 0 where
  pub each : first_stranger workers words ≡ None
  pub steps_are : steps ≡ filter_map (actor_of workers) words

-- what a refusal says of the words
abbrev pub Refuses : ℕ → List (List ℕ) → StepsRefused → Type 0
Refuses workers words (refused.Word n) = first_stranger workers words ≡ Some n
Refuses workers words refused.NoMemory = ⊤
