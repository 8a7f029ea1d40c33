-- What an input says: the program of its nest, or what is wrong with it; the words that its data lines give; and the
-- actors that its step words name.
use Rattle.std.specs.Prelude.{◌≡◌, ℕ, Option, Some, None, Result, Ok, Err, List, [], slice_get, slice_range, take, drop}
use Rattle.std.specs.List.{filter_map}
use Rattle.std.specs.Option.{option_map_or}
use Rattle.nest_syntax.specs.declared.names.Line.{Line}
use Rattle.nest_syntax.specs.declared.tree.Program.{Program}
use Rattle.nest_syntax.specs.Arrays.{arrays_of}
use Rattle.nest_lex.specs.declared.input.Parts.{Parts}
use Rattle.nest_lex.specs.declared.token.Spot.{Spot}
use Rattle.nest_lex.specs.declared.token.Token.{Token}
use Rattle.nest_lex.specs.declared.token.Tokens.{Tokens}
use Rattle.nest_lex.specs.declared.refused.LexKind.{LexKind}
use Rattle.nest_lex.specs.declared.refused.LexKind.TheVariants as lexing
use Rattle.nest_lex.specs.Parts.{IsParts}
use Rattle.nest_lex.specs.Text.{AreTokens, IsFault}
use Rattle.nest_parse.specs.Grammar.{Derives, IsFaultAt}
use Rattle.nest_check.specs.Broken.{IsBroken}
use Rattle.word_store.specs.Memory.{Memory}
use Rattle.nest_data.specs.declared.refused.DataKind.{DataKind}
use Rattle.nest_data.specs.Data.{data_of}
use Rattle.step_words.specs.declared.refused.StepsRefused.{StepsRefused}
use Rattle.step_words.specs.declared.refused.StepsRefused.TheVariants as stepping
use Rattle.step_words.specs.Steps.{words_in, actor_of, first_stranger}
use Rattle.nest_input.specs.declared.refused.Refusal.{Refusal}
use Rattle.nest_input.specs.declared.refused.Refusal.TheVariants as refusal
use Rattle.nest_input.specs.declared.refused.InputRefused.{InputRefused}
use Rattle.nest_input.specs.declared.refused.InputRefused.TheVariants as refused

-- the nest of an input, the bytes of its data lines, and its step words
abbrev pub nest_in : List ℕ → Parts → List ℕ
nest_in input parts = take parts.nest_end input

abbrev pub data_in : List ℕ → Parts → List ℕ
data_in input parts = option_map_or (λ (p : ℕ × ℕ). slice_range input p.0 p.1) parts.values []

abbrev pub steps_in : List ℕ → Parts → List (List ℕ)
steps_in input parts = words_in (option_map_or (λ (at : ℕ). drop at input) parts.steps [])

abbrev pub token_refusal : LexKind → Spot → Refusal
token_refusal lexing.Dense spot = refusal.Dense spot
token_refusal kind spot = refusal.Token spot

-- the place of a token by its number; that of the number behind the last one is the end of the nest
abbrev pub spot_at : Tokens → ℕ → Spot
spot_at tokens n = option_map_or (λ (t : Token). t.spot) (slice_get tokens.list n) tokens.end

-- What the text of a nest says: it has no tokens, its tokens are no program's, its program breaks a rule, or it is a
-- program that keeps the rules.
pub data IsNest (text : List ℕ) (said : Result Program Refusal) : Type 0 where
  no_tokens : (kind : LexKind) (at : Spot) → IsFault text kind at → said ≡ Err (token_refusal kind at) → IsNest text said
  no_program : (tokens : Tokens) (at : ℕ) → AreTokens text tokens → IsFaultAt tokens.list at → said ≡ Err (refusal.Syntax (spot_at tokens at)) → IsNest text said
  no_rules : (tokens : Tokens) (program : Program) (rule : ℕ) (line : Line) → AreTokens text tokens → Derives tokens program → IsBroken program (Some (rule, line)) → said ≡ Err (refusal.Rule rule line) → IsNest text said
  a_nest : (tokens : Tokens) (program : Program) → AreTokens text tokens → Derives tokens program → IsBroken program None → said ≡ Ok program → IsNest text said

-- what the nest of an input says
pub record SaysNest (input : List ℕ) (said : Result Program Refusal) : Type 0 where
  pub parts : Parts
  pub divided : IsParts input parts
  pub nest : IsNest (nest_in input parts) said

-- the words, or the refusal of a data line
abbrev pub words_said : Result Memory (DataKind × ℕ) → Result Memory Refusal
words_said (Ok memory) = Ok memory
words_said (Err fault) = Err (refusal.Data fault.0 fault.1)

-- what the data lines of an input say of the words of a program
pub record SaysWords (input : List ℕ) (program : Program) (said : Result Memory Refusal) : Type 0 where
  pub parts : Parts
  pub divided : IsParts input parts
  pub words : said ≡ words_said (data_of program.names (arrays_of program.decls) parts.data_line (data_in input parts))

-- an answer tells what is said, or that memory ran out
abbrev pub Tells : {A : Type 0} → (Result A Refusal → Type 0) → Result A InputRefused → Type 0
Tells Says (Ok value) = Says (Ok value)
Tells Says (Err (refused.Refused why)) = Says (Err why)
Tells Says (Err refused.NoMemory) = Unit {0}

-- the actors that step words name, or the number, from 0, of the first word that names none
abbrev pub actors_said : ℕ → List (List ℕ) → Option ℕ → Result (List ℕ) ℕ
actors_said workers words None = Ok (filter_map (actor_of workers) words)
actors_said workers words (Some n) = Err n

-- what the step words of an input say to so many workers; without the line `steps` there are none
pub record SaysSteps (input : List ℕ) (workers : ℕ) (said : Result (List ℕ) ℕ) : Type 0 where
  pub parts : Parts
  pub divided : IsParts input parts
  pub actors : said ≡ actors_said workers (steps_in input parts) (first_stranger workers (steps_in input parts))

-- what a refusal says of them; `NoMemory` says nothing
abbrev pub RefusesSteps : List ℕ → ℕ → StepsRefused → Type 0
RefusesSteps input workers (stepping.Word n) = SaysSteps input workers (Err n)
RefusesSteps input workers stepping.NoMemory = Unit {0}
