-- The command that reads the words. No public contract needs it.
use Rattle.std.specs.Prelude.{Bool, true, not, ◌==◌, ◌||◌, List, [], ◌∷◌, Some, codes, fold}
use Rattle.clap.specs.Walk.{Rule, Text}
use Rattle.clap.specs.Simple.{App, Shape, new_app, new_rule, on_top, with_rule}
use Rattle.clap.specs.declared.builder.action.ArgAction.TheVariants.{SetTrue}

abbrev pub action_rule : Rule
action_rule = new_rule (codes "action")

abbrev pub option_rule : Text → Rule
option_rule name = record (new_rule name) { long = Some name }

abbrev pub flag_rule : Rule
flag_rule = record (option_rule (codes "record")) { action = Some SetTrue }

abbrev pub bare : App
bare = on_top (λ (s : Shape). record s { no_binary_name = true; disable_help_flag = true; disable_version_flag = true }) (new_app (codes "cross"))

abbrev pub options : List Text
options = codes "engine" ∷ codes "workers" ∷ codes "queue" ∷ codes "sign" ∷ codes "segment" ∷ codes "distance" ∷ codes "seed" ∷ codes "size" ∷ []

abbrev pub with_options : App → List Text → App
with_options app names = fold (λ (a : App) (name : Text). with_rule a (option_rule name)) app names

abbrev pub app : App
app = with_rule (with_options (with_rule bare action_rule) options) flag_rule

-- a word that begins with no hyphen, or with two and something behind them
abbrev pub is_usual : Text → Bool
is_usual [] = true
is_usual (a ∷ []) = not (a == 45)
is_usual (a ∷ b ∷ []) = not (a == 45)
is_usual (a ∷ b ∷ c ∷ rest) = not (a == 45) || b == 45
