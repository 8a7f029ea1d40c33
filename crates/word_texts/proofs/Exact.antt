-- The command takes exactly the words that spell pairs, no name twice, and its matches are the texts of these pairs.
use Rattle.std.proofs.Common.{◌≡◌, ◌||◌, Bool, true, false, List, [], ◌∷◌, ◌++◌, Option, Some, None, is_some, map, codes, refl, sym, ap, ◌∙◌, subst, ⊎_elim, arith}
use Rattle.std.specs.Prelude.{⊤}
use Rattle.std.specs.Option.{option_map, option_and_then}
use Rattle.std.specs.Prelude.{find, fold, slice_get, take, if◌then◌else◌}
use Rattle.clap.specs.declared.parser.matches.ValueSource.TheVariants.{DefaultValue}
use Rattle.std.specs.List.{list_all}
use Rattle.std.specs.Str.{bytes_eq}
use Rattle.std.proofs.lemmas.Bool.{cond-true, cond-false, true≢false}
use Rattle.std.proofs.lemmas.List.{append-nil}
use Rattle.clap.specs.Walk.{Held, Row, Rule, Text, Walk, default_rows, finished, first_of, has_row, more_values, one_of, reading_by, row_text, settled, with_default}
use Rattle.clap.specs.Matches.{found_of}
use Rattle.clap.specs.Values.{kind_of}
use Rattle.clap.specs.declared.parser.matches.ArgMatches.{ArgMatches}
use Rattle.clap.specs.declared.error.Error.{Error}
use Rattle.clap.specs.declared.error.kind.ErrorKind.{ErrorKind}
use Rattle.clap.specs.declared.error.kind.ErrorKind.TheVariants as kind
use Rattle.clap.proofs.WalkLemmas.{first_value-rows, one_text-rows}
use Rattle.clap.specs.Simple.{App, HasMatchesOf, built, entered, matches_of}
use Rattle.clap.specs.Kinds.{HasKind, IsAmong, Kinds, or_else}
use Rattle.clap.specs.Faults.{is_simple_and_free, check_fault, defaults_fault, entered_fault, fault_of, given_default_fault, settle_fault, walk_fault}
use Rattle.word_texts.specs.Spelling.{Pair, IsOption, engine, workers, queue, sign, segment, distance, seed, size, Begins, apart, joined, flag, action, Spells, Give, IsOnce, text_of}
use Rattle.word_texts.specs.Found.{Finds}
use Rattle.word_texts.specs.Command.{app, is_usual}
use Rattle.word_texts.proofs.Rules.{rules, built_flag, top, is_free, is_exact}
use Rattle.word_texts.proofs.Rows.{row_for, rows_for, has_name, rows_have, at_none}
use Rattle.word_texts.proofs.Turns.{at}
use Rattle.word_texts.proofs.Taken.{run, taken, idly, nothing_first, nothing_then, Took}
use Rattle.word_texts.proofs.Given.{given_pass, Passes}

abbrev start : Walk
start = at [] None 1

-- no subcommand is there to enter
no_entry : (stop : Option (Text × List Text)) → entered_fault (built app) stop ≡ []
no_entry None = refl
no_entry (Some p) = refl

none_named : IsOnce []
none_named name = omega arith

pub took_words : (words : List Text) → list_all is_usual words ≡ true → fault_of app words ≡ [] → (given : List Pair) × Give words given
took_words words usual none =
    let walked = nothing_first (walk_fault top [] start words) _ none in
    let behind = nothing_then (walk_fault top [] start words) _ none in
    let settles = nothing_first (settle_fault rules false (run start words).held) _ (nothing_then (entered_fault (built app) (run start words).stopped) _ behind) in
    let took : Took [] words (run start words) = taken words (idly [] None false) (tt, none_named) usual walked settles in
    (took.more, record { spelled = took.spelled; once = took.once })

-- ---- defaults

-- no default of these rules is refused
abbrev DefaultsPass : List Rule → Type 0
DefaultsPass [] = ⊤
DefaultsPass (a ∷ rest) = (given_default_fault a a.defaults ≡ []) × DefaultsPass rest

either_none : (b : Bool) (faults : Kinds) → faults ≡ [] → (if b then [] else faults) ≡ []
either_none true faults none = refl
either_none false faults none = none

defaults_pass : (rs : List Rule) (rows : List Row) → DefaultsPass rs → defaults_fault rows rs ≡ []
unfolding defaults_fault
defaults_pass [] rows pass = refl
defaults_pass (a ∷ rest) rows pass =
    ap (λ (faults : Kinds). or_else faults (defaults_fault (with_default rows a) rest)) (either_none _ _ pass.0)
    ∙ defaults_pass rest (with_default rows a) pass.1

same_either : (b : Bool) (rows : List Row) → (if b then rows else rows) ≡ rows
same_either true rows = refl
same_either false rows = refl

-- these rules have no default
abbrev NoDefaults : List Rule → Type 0
NoDefaults [] = ⊤
NoDefaults (a ∷ rest) = (a.defaults ≡ []) × NoDefaults rest

undefaulted : (a : Rule) (rows : List Row) → a.defaults ≡ [] → with_default rows a ≡ rows
undefaulted a rows none = ap (λ (texts : List Text). if has_row a.id rows then rows else default_rows a.id (reading_by a) texts rows) none ∙ same_either (has_row a.id rows) rows

passed_by : (rs : List Rule) (last : Rule) (rows : List Row) → NoDefaults rs → fold with_default rows (rs ++ last ∷ []) ≡ with_default rows last
passed_by [] last rows none = refl
passed_by (a ∷ rest) last rows none =
    ap (λ (rows : List Row). fold with_default rows (rest ++ last ∷ [])) (undefaulted a rows none.0) ∙ passed_by rest last rows none.1

none_of_five : (a b c d e : Kinds) → a ≡ [] → b ≡ [] → c ≡ [] → d ≡ [] → e ≡ [] → or_else a (or_else b (or_else c (or_else d e))) ≡ []
none_of_five a b c d e p q r s t =
    ap (λ (faults : Kinds). or_else faults (or_else b (or_else c (or_else d e)))) p ∙ ap (λ (faults : Kinds). or_else faults (or_else c (or_else d e))) q
    ∙ ap (λ (faults : Kinds). or_else faults (or_else d e)) r ∙ ap (λ (faults : Kinds). or_else faults e) s ∙ t

-- nothing is asked of the rows
no_check : (stop : Option (Text × List Text)) (rows : List Row) → check_fault top rows (is_some (entered (built app) stop)) ≡ []
no_check None rows = refl
no_check (Some p) rows = refl

abbrev flagless : List Rule
flagless = take 9 rules

-- the rows at the end: those of the pairs, and the flag's default where it wasn't given
pub given_words : (words : List Text) (given : List Pair) → Give words given
    → (fault_of app words ≡ []) × (list_all is_usual words ≡ true) × (matches_of app words ≡ with_default (rows_for given) built_flag)
given_words words given give =
    let passes : Passes given words start = given_pass given words [] None false give.spelled tt tt give.once in
    let end = run start words in (
      none_of_five _ _ _ _ _ passes.walk (no_entry end.stopped) passes.end (defaults_pass rules (settled rules end.held).rows (refl, (refl, (refl, (refl, (refl, (refl, (refl, (refl, (refl, (refl, tt))))))))))) (no_check end.stopped (finished rules end.held)),
      passes.usual,
      ap (λ (h : Held). fold with_default h.rows rules) passes.held_is ∙ passed_by flagless built_flag (rows_for given) (refl, (refl, (refl, (refl, (refl, (refl, (refl, (refl, (refl, tt))))))))),
    )

-- ---- the texts of pairs

by_first : (b : Bool) (pair : Pair) (found : Option Row) (other : Option Pair) → option_and_then (λ (r : Row). slice_get r.values 0) found ≡ option_map (λ (p : Pair). p.1) other
    → option_and_then (λ (r : Row). slice_get r.values 0) (if b then Some (row_for pair) else found) ≡ option_map (λ (p : Pair). p.1) (if b then Some pair else other)
by_first true pair found other same = refl
by_first false pair found other same = same

pub texts_found : (name : Text) (given : List Pair) → first_of name (rows_for given) ≡ text_of name given
texts_found name [] = refl
texts_found name (pair ∷ given) = by_first (bytes_eq pair.0 name) pair _ _ (texts_found name given)

abbrev default_row : Row
default_row = record { id = codes "record"; values = codes "false" ∷ []; count = None; source = Some DefaultValue; reading = reading_by built_flag }

skipped : (name : Text) (rows : List Row) (row : Row) → bytes_eq row.id name ≡ false → first_of name (rows ++ row ∷ []) ≡ first_of name rows
skipped name [] row other = ap (λ (b : Bool). option_and_then (λ (r : Row). slice_get r.values 0) (if b then Some row else None)) other
skipped name (r ∷ rows) row other = chosen (skipped name rows row other) (bytes_eq r.id name)
  where
    chosen : first_of name (rows ++ row ∷ []) ≡ first_of name rows → (b : Bool) → option_and_then (λ (r : Row). slice_get r.values 0) (if b then Some r else find (λ (r : Row). bytes_eq r.id name) (rows ++ row ∷ [])) ≡ option_and_then (λ (r : Row). slice_get r.values 0) (if b then Some r else find (λ (r : Row). bytes_eq r.id name) rows)
    chosen rest true = refl
    chosen rest false = rest

-- the flag's default changes no other text
pub defaults_kept : (name : Text) (given : List Pair) → bytes_eq (codes "record") name ≡ false → first_of name (with_default (rows_for given) built_flag) ≡ text_of name given
defaults_kept name given other = chosen (has_row (codes "record") (rows_for given)) refl ∙ texts_found name given
  where
    chosen : (b : Bool) → has_row (codes "record") (rows_for given) ≡ b → first_of name (with_default (rows_for given) built_flag) ≡ first_of name (rows_for given)
    chosen true e = ap (first_of name) (cond-true (has_row (codes "record") (rows_for given)) (rows_for given) (default_rows (codes "record") (reading_by built_flag) (codes "false" ∷ []) (rows_for given)) e)
    chosen false e =
        ap (first_of name) (cond-false (has_row (codes "record") (rows_for given)) (rows_for given) (default_rows (codes "record") (reading_by built_flag) (codes "false" ∷ []) (rows_for given)) e ∙ at_none (codes "record") (more_values DefaultValue (codes "false" ∷ [])) (default_row ∷ []) (rows_for given) e)
        ∙ skipped name (rows_for given) default_row other

-- ---- the flag

not_flag : {name : Text} → IsOption name → bytes_eq name (codes "record") ≡ false
not_flag engine = refl
not_flag workers = refl
not_flag queue = refl
not_flag sign = refl
not_flag segment = refl
not_flag distance = refl
not_flag seed = refl
not_flag size = refl

-- only the flag gives its name a text, which reads `true`
reads_true : (words : List Text) (pair : Pair) (rest : List Text) → Begins words pair rest → bytes_eq pair.0 (codes "record") ≡ true → row_text (row_for pair) ≡ Some (codes "true")
reads_true words pair rest (apart option plain is) named = absurd (true≢false (sym named ∙ not_flag option))
reads_true words pair rest (joined option is) named = absurd (true≢false (sym named ∙ not_flag option))
reads_true words pair rest (flag is e) named = ap (λ (p : Pair). row_text (row_for p)) is
reads_true words pair rest (action is plain e) named = absurd (true≢false (sym named ∙ ap (λ (name : Text). bytes_eq name (codes "record")) is))

abbrev flag_or : Option Text → Option Text → Option Text
flag_or found other = if is_some found then Some (codes "true") else other

by_flag : (b : Bool) (pair : Pair) (found : Option Row) (other : Option Pair) (last : Option Text) → (b ≡ true → row_text (row_for pair) ≡ Some (codes "true"))
    → option_and_then row_text found ≡ flag_or (option_map (λ (p : Pair). p.1) other) last
    → option_and_then row_text (if b then Some (row_for pair) else found) ≡ flag_or (option_map (λ (p : Pair). p.1) (if b then Some pair else other)) last
by_flag true pair found other last reads same = reads refl
by_flag false pair found other last reads same = same

flag_from : (given : List Pair) (words : List Text) (rest : List Row) → Spells words given → one_of (codes "record") (rows_for given ++ rest) ≡ flag_or (text_of (codes "record") given) (one_of (codes "record") rest)
flag_from [] words rest spelled = refl
flag_from (pair ∷ given) words rest spelled =
    by_flag (bytes_eq pair.0 (codes "record")) pair _ _ _ (reads_true words pair spelled.0 spelled.1) (flag_from given spelled.0 rest spelled.2)

there_by : (b : Bool) (pair : Pair) (other : Option Pair) (more : Bool) → is_some (option_map (λ (p : Pair). p.1) other) ≡ more → is_some (option_map (λ (p : Pair). p.1) (if b then Some pair else other)) ≡ (b || more)
there_by true pair other more same = refl
there_by false pair other more same = same

is_there : (name : Text) (given : List Pair) → is_some (text_of name given) ≡ has_name name given
is_there name [] = refl
is_there name (pair ∷ given) = there_by (bytes_eq pair.0 name) pair _ _ (is_there name given)

pub flag_read : (given : List Pair) (words : List Text) → Spells words given → one_of (codes "record") (with_default (rows_for given) built_flag) ≡ Some (if is_some (text_of (codes "record") given) then codes "true" else codes "false")
flag_read given words spelled = chosen (has_name (codes "record") given) refl
  where
    chosen : (b : Bool) → has_name (codes "record") given ≡ b → one_of (codes "record") (with_default (rows_for given) built_flag) ≡ Some (if is_some (text_of (codes "record") given) then codes "true" else codes "false")
    chosen true e =
        let there = is_there (codes "record") given ∙ e in
        ap (one_of (codes "record")) (cond-true (has_row (codes "record") (rows_for given)) (rows_for given) (default_rows (codes "record") (reading_by built_flag) (codes "false" ∷ []) (rows_for given)) (rows_have (codes "record") given ∙ e) ∙ sym (append-nil (rows_for given)))
        ∙ flag_from given words [] spelled
        ∙ ap (λ (b : Bool). if b then Some (codes "true") else None) there
        ∙ sym (ap (λ (b : Bool). Some (if b then codes "true" else codes "false")) there)
    chosen false e =
        let there = is_there (codes "record") given ∙ e in
        let none = rows_have (codes "record") given ∙ e in
        ap (one_of (codes "record")) (cond-false (has_row (codes "record") (rows_for given)) (rows_for given) (default_rows (codes "record") (reading_by built_flag) (codes "false" ∷ []) (rows_for given)) none
        ∙ at_none (codes "record") (more_values DefaultValue (codes "false" ∷ [])) (default_row ∷ []) (rows_for given) none)
        ∙ flag_from given words (default_row ∷ []) spelled
        ∙ ap (λ (b : Bool). if b then Some (codes "true") else Some (codes "false")) there
        ∙ sym (ap (λ (b : Bool). Some (if b then codes "true" else codes "false")) there)

-- ---- what a caller of clap gets

pub finds : (command : App) (words : List Text) (m : ArgMatches) → command ≡ app → list_all is_usual words ≡ true → (is_simple_and_free command ≡ true → fault_of command words ≡ []) → HasMatchesOf command words m → Finds words m
finds command words m is usual none matches =
    let own : fault_of app words ≡ [] = subst (λ (a : App). is_simple_and_free a ≡ true → fault_of a words ≡ []) is none is_free in
    let rows = (subst (λ (a : App). HasMatchesOf a words m) is matches is_exact).0 in
    let took = took_words words usual own in
    let same = rows ∙ (given_words words took.0 took.1).2 in
    record {
      given = took.0;
      give = took.1;
      texts = λ name other. first_value-rows (found_of m) name ∙ ap (first_of name) same ∙ defaults_kept name took.0 other;
      flag = one_text-rows (found_of m) (codes "record") ∙ ap (one_of (codes "record")) same ∙ flag_read took.0 words took.1.spelled;
    }

among_none : (k : ErrorKind) (kinds : Kinds) → kinds ≡ [] → IsAmong k kinds → ⊥
among_none k kinds none among = subst (λ (ks : Kinds). IsAmong k ks) none among

pub refuses : (command : App) (words : List Text) (e : Error) → command ≡ app → (is_simple_and_free command ≡ true → HasKind (fault_of command words) e) → (kind_of e ≡ kind.OutOfMemory → ⊥) → (given : List Pair) → Give words given → ⊥
refuses command words e is fails other given give =
    let own : HasKind (fault_of app words) e = subst (λ (a : App). is_simple_and_free a ≡ true → HasKind (fault_of a words) e) is fails is_free in
    ⊎_elim (λ memory. other memory) (λ among. among_none (kind_of e) (fault_of app words) (given_words words given give).0 among) own

-- the words give one list of pairs
unrow : Row → Pair
unrow r = (r.id, first_text r.values)
  where
    first_text : List Text → Text
    first_text [] = []
    first_text (text ∷ texts) = text

unrows : (given : List Pair) → map unrow (rows_for given) ≡ given
unfolding unrow
unrows [] = refl
unrows ((name, text) ∷ given) = ap (λ (ps : List Pair). (name, text) ∷ ps) (unrows given)

pub one_given : (words : List Text) (a b : List Pair) → Give words a → Give words b → a ≡ b
one_given words a b first second =
    let p : Passes a words start = given_pass a words [] None false first.spelled tt tt first.once in
    let q : Passes b words start = given_pass b words [] None false second.spelled tt tt second.once in
    sym (unrows a) ∙ ap (λ (h : Held). map unrow h.rows) (sym p.held_is ∙ q.held_is) ∙ unrows b
