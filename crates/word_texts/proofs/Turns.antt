-- What one word does to a parse that holds pairs.
use Rattle.std.proofs.Common.{◌≡◌, ◌⊎◌, inl, inr, ◌&&◌, ◌==◌, ℕ, Bool, true, false, not, List, [], ◌∷◌, ◌++◌, Option, Some, None, codes, refl, sym, ap, ◌∙◌, subst}
use Rattle.std.specs.Prelude.{⊤}
use Rattle.std.specs.Option.{option_map, option_map_or}
use Rattle.std.specs.Prelude.{if◌then◌else◌, nat_lt}
use Rattle.std.specs.Str.{bytes_eq}
use Rattle.std.proofs.lemmas.Bool.{cond-false}
use Rattle.std.proofs.Math.Bool.{and-false}
use Rattle.clap.specs.Lexer.{long_of, short_of}
use Rattle.clap.specs.Walk.{Held, Row, Rule, Text, Step, Waiting, Walk, next, value, idle, option as wants, positional as many, after_flag, after_step, arg_by_long, has_row, is_pending, long_met, long_or_other, option_word, plain_word, pushed, settled, settled_rows, short_or_plain, subcommand_met, subcommand_or_other, used, used_by_id, walked, word_met}
use Rattle.clap.specs.Kinds.{Kinds, or_else}
use Rattle.clap.specs.Faults.{bundle_fault, flag_word_fault, long_fault, other_fault, repeat_fault, settle_fault, step_fault, turn_fault, use_fault, word_fault}
use Rattle.clap.specs.declared.error.kind.ErrorKind.TheVariants as kind
use Rattle.word_texts.specs.Spelling.{Pair, IsOption, is_plain}
use Rattle.word_texts.proofs.Rules.{top, rules, built_action, built_option, built_flag, by_id, by_long}
use Rattle.word_texts.proofs.Rows.{rows_for, rows_have, rows_more, has_name, option_used, action_used, flag_used, same_name}

-- what is held of pairs, with one more that isn't settled yet
abbrev pub held : List Pair → Option Pair → Held
held given last = record { rows = rows_for given; pending = option_map (λ (p : Pair). (p.0, p.1 ∷ [])) last; skip = 0 }

-- an option waits for its text
abbrev pub asked : List Pair → Text → Held
asked given name = record { rows = rows_for given; pending = Some (name, []); skip = 0 }

abbrev pub at : List Pair → Option Pair → ℕ → Walk
at given last position = record { held = held given last; waiting = idle; position = position; is_trailing = false; stopped = None }

abbrev pub asking : List Pair → Text → ℕ → Walk
asking given name position = record { held = asked given name; waiting = wants name; position = position; is_trailing = false; stopped = None }

abbrev pub behind : List Pair → Option Pair → List Pair
behind given None = given
behind given (Some p) = given ++ p ∷ []

abbrev pub IsLast : Option Pair → Type 0
IsLast None = ⊤
IsLast (Some p) = IsOption p.0 ⊎ (p.0 ≡ codes "action")

abbrev pub Fits : List Pair → Option Pair → Type 0
Fits given None = ⊤
Fits given (Some p) = has_name p.0 given ≡ false

repeated : (b : Bool) → or_else (if b && true then kind.ArgumentConflict ∷ [] else []) [] ≡ [] → b ≡ false
repeated false e = refl
repeated true e = cc

pub is_new : (name : Text) (given : List Pair) → or_else (repeat_fault false name (rows_for given)) [] ≡ [] → has_name name given ≡ false
is_new name given e = sym (rows_have name given) ∙ repeated (has_row name (rows_for given)) e

pub not_again : (name : Text) (given : List Pair) → has_name name given ≡ false → or_else (repeat_fault false name (rows_for given)) [] ≡ []
not_again name given e = ap (λ (b : Bool). or_else (if b && true then kind.ArgumentConflict ∷ [] else []) []) (rows_have name given ∙ e)

-- the fault of the last pair is that its name came before
last_fault : (given : List Pair) (p : Pair) → IsLast (Some p) → settle_fault rules false (held given (Some p)) ≡ or_else (repeat_fault false p.0 (rows_for given)) []
last_fault given p (inl option) = ap (λ (a : Option Rule). option_map_or (λ a. use_fault false a (p.1 ∷ []) (rows_for given)) a []) (by_id option)
last_fault given p (inr action) = subst (λ (name : Text). settle_fault rules false (held given (Some (name, p.1))) ≡ or_else (repeat_fault false name (rows_for given)) []) (sym action) refl

pub fits : (given : List Pair) (last : Option Pair) → IsLast last → settle_fault rules false (held given last) ≡ [] → Fits given last
fits given None is e = tt
fits given (Some p) is e = is_new p.0 given (sym (last_fault given p is) ∙ e)

pub no_fault : (given : List Pair) (last : Option Pair) → IsLast last → Fits given last → settle_fault rules false (held given last) ≡ []
no_fault given None is e = refl
no_fault given (Some p) is e = last_fault given p is ∙ not_again p.0 given e

abbrev settled_with : List Row → Held
settled_with rows = record { rows = rows; pending = None; skip = 0 }

last_rows : (given : List Pair) (p : Pair) → IsLast (Some p) → has_name p.0 given ≡ false → settled_rows rules (Some (p.0, p.1 ∷ [])) (rows_for given) ≡ rows_for (given ++ p ∷ [])
last_rows given p (inl option) fresh =
    ap (λ (a : Option Rule). used_by_id a (p.1 ∷ []) (rows_for given)) (by_id option)
    ∙ option_used option p.1 (rows_for given) (rows_have p.0 given ∙ fresh)
    ∙ sym (rows_more given p)
last_rows given p (inr action) fresh =
    subst (λ (name : Text). has_name name given ≡ false → settled_rows rules (Some (name, p.1 ∷ [])) (rows_for given) ≡ rows_for (given ++ (name, p.1) ∷ [])) (sym action)
    (λ fresh. action_used p.1 (rows_for given) (rows_have (codes "action") given ∙ fresh) ∙ sym (rows_more given (codes "action", p.1))) fresh

pub settled_is : (given : List Pair) (last : Option Pair) → IsLast last → Fits given last → settled rules (held given last) ≡ held (behind given last) None
settled_is given None is e = refl
settled_is given (Some p) is e = ap settled_with (last_rows given p is e)

-- ---- plain words

pub record IsOther (word : Text) : Type 0 where
  pub no_end : bytes_eq word (45 ∷ 45 ∷ []) ≡ false
  pub no_long : long_of word ≡ None
  pub no_short : short_of word ≡ None

pub other_word : (word : Text) → is_plain word ≡ true → IsOther word
other_word [] plain = record { no_end = refl; no_long = refl; no_short = refl }
other_word (b ∷ bytes) plain = chosen (b == 45) refl
  where
    chosen : (c : Bool) → (b == 45) ≡ c → IsOther (b ∷ bytes)
    chosen true e = let bad : false ≡ true = sym (ap not e) ∙ plain in cc
    chosen false e = record { no_end = rw e refl; no_long = rw e refl; no_short = rw e refl }

no_subcommand : (waiting : Waiting) (word : Text) → subcommand_met [] waiting word ≡ None
no_subcommand idle word = refl
no_subcommand (wants name) word = refl
no_subcommand many word = refl

plain_met : (waiting : Waiting) (position : ℕ) (word : Text) (h : Held) → IsOther word → word_met rules [] false waiting position word h ≡ plain_word rules waiting word h
plain_met waiting position word h is =
    ap (λ (name : Option Text). subcommand_or_other rules name waiting position word h) (no_subcommand waiting word)
    ∙ cond-false (bytes_eq word (45 ∷ 45 ∷ [])) _ _ is.no_end
    ∙ ap (λ (l : Option (Text × Option Text)). long_or_other rules waiting word l h) is.no_long
    ∙ ap (λ (s : Option Text). short_or_plain rules waiting word s h) is.no_short

plain_fault : (waiting : Waiting) (word : Text) (h : Held) → IsOther word → word_fault top [] false waiting word h ≡ []
plain_fault waiting word h is =
    ap (λ (name : Option Text). other_fault top name word h) (no_subcommand waiting word)
    ∙ cond-false (bytes_eq word (45 ∷ 45 ∷ [])) _ _ is.no_end
    ∙ ap (λ (l : Option (Text × Option Text)). flag_word_fault rules false l word h) is.no_long
    ∙ ap (λ (s : Option Text). option_map_or (λ flags. bundle_fault rules false flags h) s []) is.no_short

-- a plain word is the text that an option waits for
asked_word : {name : Text} (given : List Pair) (word : Text) (option : IsOption name) → plain_word rules (wants name) word (asked given name) ≡ (held given (Some (name, word)), next idle)
asked_word {name} given word option =
    ap (λ (a : Option Rule). ((option_word a name word (asked given name)).0, next (option_word a name word (asked given name)).1)) (by_id option)
    ∙ ap (λ (b : Bool). (held given (Some (name, word)), next (if nat_lt (if b then 1 else 0) 1 then wants name else idle))) (same_name name)

pub text_walked : {name : Text} (given : List Pair) (position : ℕ) (word : Text) (option : IsOption name) → IsOther word
    → walked rules [] (asking given name position) word ≡ at given (Some (name, word)) position
unfolding walked
text_walked {name} given position word option is =
    ap (λ (met : Held × Step). after_step rules word (asking given name position) met.0 met.1) (plain_met (wants name) position word (asked given name) is ∙ asked_word given word option)

pub text_fault : {name : Text} (given : List Pair) (position : ℕ) (word : Text) (option : IsOption name) → IsOther word
    → turn_fault top [] (asking given name position) word ≡ []
text_fault {name} given position word option is =
    ap (λ (met : Held × Step). or_else (word_fault top [] false (wants name) word (asked given name)) (step_fault top position met.0 met.1)) (plain_met (wants name) position word (asked given name) is ∙ asked_word given word option)
    ∙ ap (λ (faults : Kinds). or_else faults []) (plain_fault (wants name) word (asked given name) is)

-- a plain word where nothing waits is the action, where there was none
idle_met : (given : List Pair) (last : Option Pair) (position : ℕ) (word : Text) → IsOther word → word_met rules [] false idle position word (held given last) ≡ (held given last, value)
idle_met given last position word is = plain_met idle position word (held given last) is

pub idle_fault : (given : List Pair) (last : Option Pair) (position : ℕ) (word : Text) → IsOther word
    → turn_fault top [] (at given last position) word ≡ step_fault top position (held given last) value
idle_fault given last position word is =
    ap (λ (met : Held × Step). or_else (word_fault top [] false idle word (held given last)) (step_fault top position met.0 met.1)) (idle_met given last position word is)
    ∙ ap (λ (faults : Kinds). or_else faults (step_fault top position (held given last) value)) (plain_fault idle word (held given last) is)

pub action_fault_is : (given : List Pair) (last : Option Pair) → step_fault top 1 (held given last) value ≡ settle_fault rules false (held given last)
action_fault_is given last = cond-false (is_pending built_action (held given last).pending && false) _ _ (and-false (is_pending built_action (held given last).pending))

pub action_walked : (given : List Pair) (last : Option Pair) (word : Text) → IsOther word → IsLast last → Fits given last
    → walked rules [] (at given last 1) word ≡ at (behind given last) (Some (codes "action", word)) 2
unfolding walked
action_walked given last word is kept fit =
    ap (λ (met : Held × Step). after_step rules word (at given last 1) met.0 met.1) (idle_met given last 1 word is)
    ∙ ap (λ (h : Held). record { held = pushed (codes "action") word h; waiting = idle; position = 2; is_trailing = false; stopped = None })
    (cond-false (is_pending built_action (held given last).pending && false) _ _ (and-false (is_pending built_action (held given last).pending)) ∙ settled_is given last kept fit)

-- ---- words of options

abbrev pub met_long : Waiting → Text → Text → Option Text → Held → Option Rule → Held × Step
met_long waiting word name text h rule = after_flag rules waiting word (long_met rules rule text h).0 (long_met rules rule text h).1

long_word_met : (waiting : Waiting) (position : ℕ) (word name : Text) (text : Option Text) (h : Held) → bytes_eq word (45 ∷ 45 ∷ []) ≡ false → long_of word ≡ Some (name, text)
    → word_met rules [] false waiting position word h ≡ met_long waiting word name text h (arg_by_long rules name)
long_word_met waiting position word name text h no_end read =
    ap (λ (sub : Option Text). subcommand_or_other rules sub waiting position word h) (no_subcommand waiting word)
    ∙ cond-false (bytes_eq word (45 ∷ 45 ∷ [])) _ _ no_end
    ∙ ap (λ (l : Option (Text × Option Text)). long_or_other rules waiting word l h) read

long_word_fault : (waiting : Waiting) (word name : Text) (text : Option Text) (h : Held) → bytes_eq word (45 ∷ 45 ∷ []) ≡ false → long_of word ≡ Some (name, text)
    → word_fault top [] false waiting word h ≡ long_fault rules false (arg_by_long rules name) text h
long_word_fault waiting word name text h no_end read =
    ap (λ (sub : Option Text). other_fault top sub word h) (no_subcommand waiting word)
    ∙ cond-false (bytes_eq word (45 ∷ 45 ∷ [])) _ _ no_end
    ∙ ap (λ (l : Option (Text × Option Text)). flag_word_fault rules false l word h) read

-- the fault of an option's word where nothing waits begins with that of its option
pub option_fault_is : (given : List Pair) (last : Option Pair) (position : ℕ) (word name : Text) (text : Option Text) → bytes_eq word (45 ∷ 45 ∷ []) ≡ false → long_of word ≡ Some (name, text)
    → turn_fault top [] (at given last position) word
    ≡ or_else (long_fault rules false (arg_by_long rules name) text (held given last)) (step_fault top position (met_long idle word name text (held given last) (arg_by_long rules name)).0 (met_long idle word name text (held given last) (arg_by_long rules name)).1)
option_fault_is given last position word name text no_end read =
    ap (λ (met : Held × Step). or_else (word_fault top [] false idle word (held given last)) (step_fault top position met.0 met.1)) (long_word_met idle position word name text (held given last) no_end read)
    ∙ ap (λ (faults : Kinds). or_else faults (step_fault top position (met_long idle word name text (held given last) (arg_by_long rules name)).0 (met_long idle word name text (held given last) (arg_by_long rules name)).1)) (long_word_fault idle word name text (held given last) no_end read)

-- the same where an option waits for its text
pub asked_fault_is : (given : List Pair) (asks : Text) (position : ℕ) (word name : Text) (text : Option Text) → bytes_eq word (45 ∷ 45 ∷ []) ≡ false → long_of word ≡ Some (name, text)
    → turn_fault top [] (asking given asks position) word
    ≡ or_else (long_fault rules false (arg_by_long rules name) text (asked given asks)) (step_fault top position (met_long (wants asks) word name text (asked given asks) (arg_by_long rules name)).0 (met_long (wants asks) word name text (asked given asks) (arg_by_long rules name)).1)
asked_fault_is given asks position word name text no_end read =
    ap (λ (met : Held × Step). or_else (word_fault top [] false (wants asks) word (asked given asks)) (step_fault top position met.0 met.1)) (long_word_met (wants asks) position word name text (asked given asks) no_end read)
    ∙ ap (λ (faults : Kinds). or_else faults (step_fault top position (met_long (wants asks) word name text (asked given asks) (arg_by_long rules name)).0 (met_long (wants asks) word name text (asked given asks) (arg_by_long rules name)).1)) (long_word_fault (wants asks) word name text (asked given asks) no_end read)

-- the walk at an option's word, by the rule that its name finds
option_walked : (given : List Pair) (last : Option Pair) (position : ℕ) (word name : Text) (text : Option Text) (rule : Option Rule) → bytes_eq word (45 ∷ 45 ∷ []) ≡ false → long_of word ≡ Some (name, text)
    → arg_by_long rules name ≡ rule
    → walked rules [] (at given last position) word ≡ after_step rules word (at given last position) (met_long idle word name text (held given last) rule).0 (met_long idle word name text (held given last) rule).1
unfolding walked
option_walked given last position word name text rule no_end read found =
    ap (λ (met : Held × Step). after_step rules word (at given last position) met.0 met.1) (long_word_met idle position word name text (held given last) no_end read ∙ ap (met_long idle word name text (held given last)) found)

abbrev pub apart_walk : List Row → Text → ℕ → Walk
apart_walk rows name position = record { held = record { rows = rows; pending = Some (name, []); skip = 0 }; waiting = wants name; position = position; is_trailing = false; stopped = None }

pub apart_walked : {name : Text} (given : List Pair) (last : Option Pair) (position : ℕ) (word : Text) (option : IsOption name) → bytes_eq word (45 ∷ 45 ∷ []) ≡ false → long_of word ≡ Some (name, None)
    → IsLast last → Fits given last → walked rules [] (at given last position) word ≡ asking (behind given last) name position
apart_walked {name} given last position word option no_end read kept fit =
    option_walked given last position word name None (Some (built_option name)) no_end read (by_long option)
    ∙ ap (λ (h : Held). apart_walk h.rows name position) (settled_is given last kept fit)

abbrev pub used_walk : List Row → ℕ → Walk
used_walk rows position = record { held = record { rows = rows; pending = None; skip = 0 }; waiting = idle; position = position; is_trailing = false; stopped = None }

pub joined_walked : {name : Text} (given : List Pair) (last : Option Pair) (position : ℕ) (word text : Text) (option : IsOption name) → bytes_eq word (45 ∷ 45 ∷ []) ≡ false → long_of word ≡ Some (name, Some text)
    → IsLast last → Fits given last → has_name name (behind given last) ≡ false → walked rules [] (at given last position) word ≡ at (behind given last ++ (name, text) ∷ []) None position
joined_walked {name} given last position word text option no_end read kept fit fresh =
    option_walked given last position word name (Some text) (Some (built_option name)) no_end read (by_long option)
    ∙ ap (λ (h : Held). used_walk (used (built_option name) (text ∷ []) h.rows) position) (settled_is given last kept fit)
    ∙ ap (λ (rows : List Row). used_walk rows position) (option_used option text (rows_for (behind given last)) (rows_have name (behind given last) ∙ fresh) ∙ sym (rows_more (behind given last) (name, text)))

pub flag_walked : (given : List Pair) (last : Option Pair) (position : ℕ) (word : Text) → bytes_eq word (45 ∷ 45 ∷ []) ≡ false → long_of word ≡ Some (codes "record", None)
    → IsLast last → Fits given last → has_name (codes "record") (behind given last) ≡ false → walked rules [] (at given last position) word ≡ at (behind given last ++ (codes "record", codes "true") ∷ []) None position
flag_walked given last position word no_end read kept fit fresh =
    option_walked given last position word (codes "record") None (Some built_flag) no_end read refl
    ∙ ap (λ (h : Held). used_walk (used built_flag [] h.rows) position) (settled_is given last kept fit)
    ∙ ap (λ (rows : List Row). used_walk rows position) (flag_used (rows_for (behind given last)) (rows_have (codes "record") (behind given last) ∙ fresh) ∙ sym (rows_more (behind given last) (codes "record", codes "true")))
