-- How far a reader has come. No caller of `lex` needs this.
use Rattle.std.specs.Prelude.{◌≡◌, ℕ, ◌≤◌, true, List, [], ◌∷◌, ◌++◌, length, map}
use Rattle.std.specs.List.{list_any}
use Rattle.std.specs.Str.{bytes_eq}
use Rattle.nest_lex.specs.Spots.{spot_of}
use Rattle.nest_lex.specs.Load.{no_load, IsAllowed}
use Rattle.nest_lex.specs.Text.{Lexeme, Ending, Reads, bytes_of, names_of, token_of}
use Rattle.nest_lex.specs.declared.load.Load.{Load}
use Rattle.nest_lex.specs.declared.piece.Piece.{Piece}
use Rattle.nest_lex.specs.declared.piece.Piece.TheVariants as piece
use Rattle.nest_lex.specs.declared.reader.Reader.{Reader}
use Rattle.nest_lex.specs.declared.token.Spot.{Spot}
use Rattle.nest_lex.specs.declared.token.Token.{Token}

-- the bytes of a name are among the names
abbrev pub IsKnown : List (List ℕ) → List ℕ → Piece → Type 0
IsKnown names bytes piece.Name = list_any (bytes_eq bytes) names ≡ true
IsKnown names bytes _ = Unit {0}

-- each name among the lexemes is
abbrev pub AllKnown : List ℕ → List (List ℕ) → List Lexeme → Type 0
AllKnown text names [] = Unit {0}
AllKnown text names (lexeme ∷ more) = IsKnown names (bytes_of text lexeme) lexeme.is × AllKnown text names more

-- up to `at` the text gave these names and tokens, and this load: each reading from there on is one from the start
pub record Went (text : List ℕ) (names : List (List ℕ)) (list : List Token) (load : Load) (at : ℕ) (spot : Spot) : Type 0 where
  pub lexemes : List Lexeme
  pub goes : (more : List Lexeme) (ending : Ending) → Reads text at load more ending → Reads text 0 no_load (lexemes ++ more) ending
  pub names_are : names ≡ names_of text lexemes
  pub known : AllKnown text names lexemes
  pub list_is : list ≡ map (token_of text names) lexemes
  pub spot_is : spot ≡ spot_of text at
  pub allowed : IsAllowed load
  pub within : at ≤ length text
  pub few : length names ≤ at

-- and the set of names has them in their order
pub record HasRead (text : List ℕ) (reader : Reader) : Type 0 where
  pub went : Went text reader.names reader.list reader.load reader.at reader.spot
  pub seen : reader.names ≡ map (λ k. k.now) reader.seen.keys
