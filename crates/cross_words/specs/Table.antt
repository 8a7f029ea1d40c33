-- What words say: the table of actions and options.
use Rattle.std.specs.Prelude.{◌≡◌, ℕ, Option, Some, None, is_some, List, length, codes, nat_le, if◌then◌else◌}
use Rattle.std.specs.Option.{option_and_then}
use Rattle.std.specs.Str.{bytes_eq}
use Rattle.nest_lex.specs.Spelling.{number_within}
use Rattle.progress_board.specs.declared.options.Engine.{Engine}
use Rattle.progress_board.specs.declared.options.Engine.TheVariants.{Domore, Speccross, Barrier}
use Rattle.progress_board.specs.declared.options.Sign.{Sign}
use Rattle.progress_board.specs.declared.options.Sign.TheVariants.{Range, Exact}
use Rattle.word_texts.specs.Spelling.{Text, Pair, Give, text_of}
use Rattle.cross_words.specs.declared.call.Action.{Action}
use Rattle.cross_words.specs.declared.call.Action.TheVariants.{Plain, Check, Deps, Alone, Replay, Profile, Gen, Big, Run}
use Rattle.cross_words.specs.declared.call.Call.{Call}

abbrev pub action_named : Text → Option Action
action_named text =
    if bytes_eq text (codes "plain") then Some Plain else (if bytes_eq text (codes "check") then Some Check else (if bytes_eq text (codes "deps") then Some Deps
    else (if bytes_eq text (codes "alone") then Some Alone else (if bytes_eq text (codes "replay") then Some Replay else (if bytes_eq text (codes "profile") then Some Profile
    else (if bytes_eq text (codes "gen") then Some Gen else (if bytes_eq text (codes "big") then Some Big else (if bytes_eq text (codes "run") then Some Run else None))))))))

abbrev pub engine_named : Text → Option Engine
engine_named text = if bytes_eq text (codes "domore") then Some Domore else (if bytes_eq text (codes "speccross") then Some Speccross else (if bytes_eq text (codes "barrier") then Some Barrier else None))

abbrev pub sign_named : Text → Option Sign
sign_named text = if bytes_eq text (codes "range") then Some Range else (if bytes_eq text (codes "exact") then Some Exact else None)

abbrev pub at_least : ℕ → Option ℕ → Option ℕ
at_least least None = None
at_least least (Some n) = if nat_le least n then Some n else None

-- what 1 to 10 decimal digits say, within these bounds
abbrev pub number_between : ℕ → ℕ → Text → Option ℕ
number_between least most text = if nat_le (length text) 10 then at_least least (number_within most text) else None

-- what the text of an option says, or the default where it has none
abbrev pub or_default : {X : Type 0} → X → (Text → Option X) → Option Text → Option X
or_default default read None = Some default
or_default default read (Some text) = read text

-- what each name's text says is what the call has
pub record Sets (given : List Pair) (call : Call) : Type 0 where
  pub action : option_and_then action_named (text_of (codes "action") given) ≡ Some call.action
  pub engine : or_default Domore engine_named (text_of (codes "engine") given) ≡ Some call.options.engine
  pub workers : or_default 2 (number_between 1 8) (text_of (codes "workers") given) ≡ Some call.options.workers
  pub queue : or_default 16 (number_between 1 1024) (text_of (codes "queue") given) ≡ Some call.options.queue
  pub sign : or_default Range sign_named (text_of (codes "sign") given) ≡ Some call.options.sign
  pub segment : or_default 16 (number_between 1 64) (text_of (codes "segment") given) ≡ Some call.options.segment
  pub distance : or_default 4 (number_between 0 64) (text_of (codes "distance") given) ≡ Some call.options.distance
  pub seed : or_default 1 (number_between 0 2147483647) (text_of (codes "seed") given) ≡ Some call.seed
  pub size : or_default 64 (number_between 1 262144) (text_of (codes "size") given) ≡ Some call.size
  pub with_steps : call.with_steps ≡ is_some (text_of (codes "record") given)

-- these words say this call
pub record Say (words : List Text) (call : Call) : Type 0 where
  pub given : List Pair
  pub give : Give words given
  pub sets : Sets given call
