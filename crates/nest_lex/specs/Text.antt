-- The tokens of a text, or its first fault.
use Rattle.std.specs.Prelude.{◌≡◌, ◌≢◌, ℕ, ◌+◌, ◌^◌, ◌<◌, ◌≤◌, true, false, List, [], ◌∷◌, ◌++◌, All, AllPairs, length, fold, map, if◌then◌else◌, slice_index, slice_range}
use Rattle.std.specs.List.{list_any, position_or_len}
use Rattle.std.specs.Str.{bytes_eq}
use Rattle.nest_lex.specs.Bytes.{is_digit, is_blank}
use Rattle.nest_lex.specs.Spots.{spot_of}
use Rattle.nest_lex.specs.Pieces.{OpensLine, OpensBlock, ClosesBlock, Gaps, Stands}
use Rattle.nest_lex.specs.Load.{no_load, load_after, IsAllowed}
use Rattle.nest_lex.specs.declared.load.Load.{Load}
use Rattle.nest_lex.specs.declared.piece.Piece.{Piece}
use Rattle.nest_lex.specs.declared.piece.Piece.TheVariants as piece
use Rattle.nest_lex.specs.declared.token.Kind.{Kind}
use Rattle.nest_lex.specs.declared.token.Kind.TheVariants as kind
use Rattle.nest_lex.specs.declared.token.Spot.{Spot}
use Rattle.nest_lex.specs.declared.token.Token.{Token}
use Rattle.nest_lex.specs.declared.token.Tokens.{Tokens}
use Rattle.nest_lex.specs.declared.refused.LexKind.{LexKind}
use Rattle.nest_lex.specs.declared.refused.LexKind.TheVariants.{Byte, Number, Comment, Dense}
use Rattle.nest_lex.specs.declared.refused.LexRefused.{LexRefused}
use Rattle.nest_lex.specs.declared.refused.LexRefused.TheVariants.{Fault, NoMemory}

-- a piece that stands in the text from `start` up to `next`
pub record Lexeme : Type 0 where
  pub is : Piece
  pub start : ℕ
  pub next : ℕ

-- no piece stands at this place
abbrev pub NoPiece : List ℕ → ℕ → Type 0
NoPiece text at = (p : Piece) (next : ℕ) → Stands text p at next → ⊥

-- a byte that is no blank, opens no comment, is no digit and begins no piece
pub record IsBadByte (text : List ℕ) (at : ℕ) : Type 0 where
  pub within : at < length text
  pub no_blank : is_blank (slice_index text at) ≡ false
  pub no_line : OpensLine text at → ⊥
  pub no_block : OpensBlock text at → ⊥
  pub no_digit : is_digit (slice_index text at) ≡ false
  pub no_piece : NoPiece text at

-- a digit where no piece stands
pub record IsBadNumber (text : List ℕ) (at : ℕ) : Type 0 where
  pub digit : is_digit (slice_index text at) ≡ true
  pub no_piece : NoPiece text at

-- a `/*` with no `*/` behind it
pub record IsBadComment (text : List ℕ) (at : ℕ) : Type 0 where
  pub block : OpensBlock text at
  pub no_end : (k : ℕ) → at + 2 ≤ k → ClosesBlock text k → ⊥

-- a piece that exceeds a bound
pub record IsTooDense (text : List ℕ) (load : Load) (at : ℕ) : Type 0 where
  pub is : Piece
  pub next : ℕ
  pub stands : Stands text is at next
  pub too_much : IsAllowed (load_after load is) → ⊥

-- how the reading of a text ends: at its end, or at a fault
pub data Ending : Type 0 where
  Whole : Ending
  Faulty : LexKind → ℕ → Ending

-- at this place, with this load, the reading ends so
abbrev pub EndsAt : List ℕ → Load → ℕ → Ending → Type 0
EndsAt text load at Whole = at ≡ length text
EndsAt text load at (Faulty Byte place) = (place ≡ at) × IsBadByte text at
EndsAt text load at (Faulty Number place) = (place ≡ at) × IsBadNumber text at
EndsAt text load at (Faulty Comment place) = (place ≡ at) × IsBadComment text at
EndsAt text load at (Faulty Dense place) = (place ≡ at) × IsTooDense text load at

-- From `at` on, with this load, the text is these lexemes with gaps between them, each within the bounds, and then
-- the reading ends so.
abbrev pub Reads : List ℕ → ℕ → Load → List Lexeme → Ending → Type 0
Reads text at load [] ending = (gaps : List ℕ) × (stop : ℕ) × Gaps text at gaps stop × EndsAt text load stop ending
Reads text at load (lexeme ∷ more) ending = (gaps : List ℕ) × Gaps text at gaps lexeme.start × Stands text lexeme.is lexeme.start lexeme.next
    × IsAllowed (load_after load lexeme.is) × Reads text lexeme.next (load_after load lexeme.is) more ending

-- the bytes of a lexeme
abbrev pub bytes_of : List ℕ → Lexeme → List ℕ
bytes_of text lexeme = slice_range text lexeme.start lexeme.next

-- a name goes last where it isn't there yet
abbrev pub with_name : List (List ℕ) → List ℕ → List (List ℕ)
with_name names name = if list_any (bytes_eq name) names then names else names ++ name ∷ []

-- the names after these bytes, which are this piece
abbrev pub names_with : List (List ℕ) → List ℕ → Piece → List (List ℕ)
names_with names bytes piece.Name = with_name names bytes
names_with names bytes _ = names

-- the names among lexemes, each once, in the order of their first appearance
abbrev pub names_of : List ℕ → List Lexeme → List (List ℕ)
names_of text lexemes = fold (λ names lexeme. names_with names (bytes_of text lexeme) lexeme.is) [] lexemes

-- a name's number is its place among the names
abbrev pub kind_of : List (List ℕ) → List ℕ → Piece → Kind
kind_of names bytes piece.Name = kind.Name (position_or_len (bytes_eq bytes) names)
kind_of names bytes (piece.Number n) = kind.Number n
kind_of names bytes (piece.Keyword k) = kind.Keyword k
kind_of names bytes (piece.Mark m) = kind.Mark m

-- the token of a lexeme
abbrev pub token_of : List ℕ → List (List ℕ) → Lexeme → Token
token_of text names lexeme = record { kind = kind_of names (bytes_of text lexeme) lexeme.is; spot = spot_of text lexeme.start }

-- the tokens of a text that consists of these lexemes and of gaps
abbrev pub tokens_of : List ℕ → List Lexeme → Tokens
tokens_of text lexemes = let names = names_of text lexemes in
    record { names = names; list = map (token_of text names) lexemes; end = spot_of text (length text) }

-- the text is these tokens, whole
pub record AreTokens (text : List ℕ) (tokens : Tokens) : Type 0 where
  pub lexemes : List Lexeme
  pub read : Reads text 0 no_load lexemes Whole
  pub are : tokens ≡ tokens_of text lexemes

-- the first fault of the text is of this kind, at this place
pub record IsFault (text : List ℕ) (fault : LexKind) (spot : Spot) : Type 0 where
  pub lexemes : List Lexeme
  pub place : ℕ
  pub read : Reads text 0 no_load lexemes (Faulty fault place)
  pub at : spot ≡ spot_of text place

-- a refusal tells the first fault, or that there was no memory
abbrev pub IsRefusal : List ℕ → LexRefused → Type 0
IsRefusal text (Fault fault spot) = IsFault text fault spot
IsRefusal text NoMemory = Unit {0}

-- a name's number is below the count of the names, and a number is at most 2^63 - 1
abbrev pub IsKindWithin : ℕ → Kind → Type 0
IsKindWithin names (kind.Name n) = n < names
IsKindWithin names (kind.Number n) = n ≤ 9223372036854775807
IsKindWithin names _ = Unit {0}

-- no two names are alike, and the kinds of the tokens are within their bounds
pub record AreWellNamed (tokens : Tokens) : Type 0 where
  pub differ : AllPairs (λ a b. a ≢ b) tokens.names
  pub few : length tokens.names < 2 ^ 32
  pub kinds : All (λ token. IsKindWithin (length tokens.names) token.kind) tokens.list
