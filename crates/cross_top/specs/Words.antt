-- What the command words ask the program for.
use Rattle.std.specs.Prelude.{◌≡◌, ℕ, Bool, true, false, Option, Some, None, List}
use Rattle.cross_words.specs.declared.call.Action.{Action}
use Rattle.cross_words.specs.declared.call.Action.TheVariants.{Gen, Big, Run}
use Rattle.cross_words.specs.declared.call.Call.{Call}
use Rattle.cross_words.specs.Table.{Say}
use Rattle.cross_words.specs.Ranges.{IsInRange}

-- whether an action reads an input
abbrev pub reads_input : Action → Bool
reads_input Gen = false
reads_input Big = false
reads_input _ = true

-- Whether an action is answered. The words for `run` are refused: it has threads, while this call waits for nobody.
abbrev pub is_answered : Action → Bool
is_answered Run = false
is_answered _ = true

-- What words ask for: the call that they say, where it is answered, or nothing, where they say no such call.
abbrev pub Ask : List (List ℕ) → Option Call → Type 0
Ask words (Some call) = Say words call × (is_answered call.action ≡ true)
Ask words None = (call : Call) → Say words call → is_answered call.action ≡ false

-- words that ask for an action that reads an input
abbrev pub AskToRead : List (List ℕ) → Type 0
AskToRead words = (call : Call) × Ask words (Some call) × (reads_input call.action ≡ true)

-- a call that words may ask for
pub record IsAnswerable (call : Call) : Type 0 where
  pub in_range : IsInRange call
  pub answered : is_answered call.action ≡ true
