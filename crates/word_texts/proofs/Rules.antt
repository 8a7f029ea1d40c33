-- Which rule of the command a name finds.
use Rattle.std.proofs.Common.{◌≡◌, Bool, true, false, List, ◌∷◌, ◌++◌, Some, None, codes, refl, sym, subst}
use Rattle.std.specs.Str.{bytes_eq}
use Rattle.std.proofs.lemmas.Slice.Eq.{bytes_eq-Decides}
use Rattle.clap.specs.Lexer.{long_of}
use Rattle.clap.specs.Walk.{Rule, Text, arg_by_id, arg_by_long}
use Rattle.clap.specs.Simple.{Shape, built, is_simple, filled, with_index}
use Rattle.clap.specs.Faults.{is_simple_and_free}
use Rattle.clap.proofs.OnLiterals.{clap_on_literals}
use Rattle.word_texts.specs.Command.{action_rule, option_rule, flag_rule, app}
use Rattle.word_texts.specs.Spelling.{IsOption, engine, workers, queue, sign, segment, distance, seed, size, dashed}

pub is_free : is_simple_and_free app ≡ true
unfolding clap_on_literals
is_free = refl

pub is_exact : is_simple app ≡ true
unfolding clap_on_literals
is_exact = refl

-- the command as it is built
abbrev pub top : Shape
top = (built app).top

abbrev pub rules : List Rule
rules = top.rules

-- its rules
abbrev pub built_action : Rule
built_action = with_index 1 (filled action_rule)

abbrev pub built_option : Text → Rule
built_option name = filled (option_rule name)

abbrev pub built_flag : Rule
built_flag = filled flag_rule

pub by_long : {name : Text} → IsOption name → arg_by_long rules name ≡ Some (built_option name)
by_long engine = refl
by_long workers = refl
by_long queue = refl
by_long sign = refl
by_long segment = refl
by_long distance = refl
by_long seed = refl
by_long size = refl

pub by_id : {name : Text} → IsOption name → arg_by_id rules name ≡ Some (built_option name)
by_id engine = refl
by_id workers = refl
by_id queue = refl
by_id sign = refl
by_id segment = refl
by_id distance = refl
by_id seed = refl
by_id size = refl

-- an option's word is read as its name and the text that is joined to it
pub long_apart : {name : Text} → IsOption name → long_of (dashed name) ≡ Some (name, None)
long_apart engine = refl
long_apart workers = refl
long_apart queue = refl
long_apart sign = refl
long_apart segment = refl
long_apart distance = refl
long_apart seed = refl
long_apart size = refl

pub long_joined : {name : Text} → IsOption name → (text : Text) → long_of (dashed name ++ 61 ∷ text) ≡ Some (name, Some text)
long_joined engine text = refl
long_joined workers text = refl
long_joined queue text = refl
long_joined sign text = refl
long_joined segment text = refl
long_joined distance text = refl
long_joined seed text = refl
long_joined size text = refl

-- a name is an option's, the flag's, or finds no rule
pub data Known (name : Text) : Type 0 where
  option : IsOption name → Known name
  flag : name ≡ codes "record" → Known name
  unknown : arg_by_long rules name ≡ None → Known name

split : (n name : Text) (P : Type 0) → (bytes_eq n name ≡ false → P) → (n ≡ name → P) → P
split n name P other same = chosen (bytes_eq n name) refl
  where
    chosen : (b : Bool) → bytes_eq n name ≡ b → P
    chosen true e = same ((bytes_eq-Decides n name).0 e)
    chosen false e = other e

pub known : (name : Text) → Known name
known name =
    split (codes "engine") name (Known name) (λ e0.
    split (codes "workers") name (Known name) (λ e1.
    split (codes "queue") name (Known name) (λ e2.
    split (codes "sign") name (Known name) (λ e3.
    split (codes "segment") name (Known name) (λ e4.
    split (codes "distance") name (Known name) (λ e5.
    split (codes "seed") name (Known name) (λ e6.
    split (codes "size") name (Known name) (λ e7.
    split (codes "record") name (Known name) (λ e8. unknown (rw (e0, e1, e2, e3, e4, e5, e6, e7, e8) refl))
    (λ e. flag (sym e)))
    (λ e. option (subst IsOption e size)))
    (λ e. option (subst IsOption e seed)))
    (λ e. option (subst IsOption e distance)))
    (λ e. option (subst IsOption e segment)))
    (λ e. option (subst IsOption e sign)))
    (λ e. option (subst IsOption e queue)))
    (λ e. option (subst IsOption e workers)))
    (λ e. option (subst IsOption e engine))
