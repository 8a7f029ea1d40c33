-- What a parse holds of pairs: one row for each.
use Rattle.std.proofs.Common.{◌≡◌, ◌≤◌, ◌||◌, ℕ, Bool, true, false, cond, List, [], ◌∷◌, ◌++◌, Some, None, length, map, codes, refl, sym, ap, ◌∙◌, subst, arith}
use Rattle.std.specs.List.{filter, list_any}
use Rattle.std.specs.Str.{bytes_eq}
use Rattle.std.proofs.lemmas.Bool.{cond-true, cond-false, or_parts, true≢false}
use Rattle.std.proofs.lemmas.List.{append-nil, map-append, length-append}
use Rattle.std.proofs.lemmas.List.Elements.{filter-append}
use Rattle.std.proofs.lemmas.Slice.Eq.{bytes_eq-Decides}
use Rattle.clap.specs.declared.builder.value_parser.Reading.{Reading}
use Rattle.clap.specs.declared.parser.matches.ValueSource.TheVariants.{CommandLine}
use Rattle.clap.specs.Walk.{Row, Text, at_row, has_row, more_values, reading_by, used, with_values, without}
use Rattle.word_texts.specs.Spelling.{Pair, IsOption, engine, workers, queue, sign, segment, distance, seed, size, IsOnce, is_named}
use Rattle.word_texts.proofs.Rules.{built_action, built_option, built_flag}

-- how the texts of a name are read
abbrev pub reading_for : Text → Reading
reading_for name = if_flag (bytes_eq (codes "record") name)
  where
    if_flag : Bool → Reading
    if_flag true = reading_by built_flag
    if_flag false = reading_by built_action

abbrev pub row_for : Pair → Row
row_for pair = record { id = pair.0; values = pair.1 ∷ []; count = None; source = Some CommandLine; reading = reading_for pair.0 }

abbrev pub rows_for : List Pair → List Row
rows_for = map row_for

-- where no row has the id, a row joins at the end
pub at_none : (id : Text) (change : Row → List Row) (missing rows : List Row) → has_row id rows ≡ false → at_row id change missing rows ≡ rows ++ missing
at_none id change missing [] none = refl
at_none id change missing (r ∷ rows) none =
    let parts = or_parts (bytes_eq r.id id) (has_row id rows) none in
    cond-false (bytes_eq r.id id) _ _ parts.0 ∙ ap (λ (rs : List Row). r ∷ rs) (at_none id change missing rows parts.1)

pub added : (id : Text) (how : Reading) (text : Text) (rows : List Row) → has_row id rows ≡ false
    → with_values id how CommandLine (text ∷ []) (without id rows) ≡ rows ++ record { id = id; values = text ∷ []; count = None; source = Some CommandLine; reading = how } ∷ []
added id how text rows none =
    ap (λ (rs : List Row). with_values id how CommandLine (text ∷ []) rs) (at_none id (λ _. []) [] rows none ∙ append-nil rows)
    ∙ at_none id (more_values CommandLine (text ∷ [])) _ rows none

option_reading : {name : Text} → IsOption name → reading_by (built_option name) ≡ reading_for name
option_reading engine = refl
option_reading workers = refl
option_reading queue = refl
option_reading sign = refl
option_reading segment = refl
option_reading distance = refl
option_reading seed = refl
option_reading size = refl

pub option_used : {name : Text} (option : IsOption name) (text : Text) (rows : List Row) → has_row name rows ≡ false
    → used (built_option name) (text ∷ []) rows ≡ rows ++ row_for (name, text) ∷ []
option_used {name} option text rows none =
    added name (reading_by (built_option name)) text rows none
    ∙ ap (λ (how : Reading). rows ++ record { id = name; values = text ∷ []; count = None; source = Some CommandLine; reading = how } ∷ []) (option_reading option)

pub action_used : (text : Text) (rows : List Row) → has_row (codes "action") rows ≡ false → used built_action (text ∷ []) rows ≡ rows ++ row_for (codes "action", text) ∷ []
action_used text rows none = added (codes "action") (reading_by built_action) text rows none

pub flag_used : (rows : List Row) → has_row (codes "record") rows ≡ false → used built_flag [] rows ≡ rows ++ row_for (codes "record", codes "true") ∷ []
flag_used rows none = added (codes "record") (reading_by built_flag) (codes "true") rows none

-- a pair has the name
abbrev pub has_name : Text → List Pair → Bool
has_name name given = list_any (is_named name) given

pub rows_have : (name : Text) (given : List Pair) → has_row name (rows_for given) ≡ has_name name given
rows_have name [] = refl
rows_have name (pair ∷ given) = ap (λ (b : Bool). bytes_eq pair.0 name || b) (rows_have name given)

pub rows_more : (given : List Pair) (pair : Pair) → rows_for (given ++ pair ∷ []) ≡ rows_for given ++ row_for pair ∷ []
rows_more given pair = map-append row_for given (pair ∷ [])

none_named : (name : Text) (given : List Pair) → has_name name given ≡ false → filter (is_named name) given ≡ []
none_named name [] none = refl
none_named name (pair ∷ given) none =
    let parts = or_parts (is_named name pair) (has_name name given) none in
    cond-false (is_named name pair) _ _ parts.0 ∙ none_named name given parts.1

some_named : (name : Text) (given : List Pair) → has_name name given ≡ true → 1 ≤ length (filter (is_named name) given)
some_named name [] some = absurd (true≢false (sym some))
some_named name (pair ∷ given) some = chosen (some_named name given) (is_named name pair) refl
  where
    chosen : (has_name name given ≡ true → 1 ≤ length (filter (is_named name) given)) → (b : Bool) → is_named name pair ≡ b → 1 ≤ length (filter (is_named name) (pair ∷ given))
    chosen more true e = let many = ap (λ (ps : List Pair). length ps) (cond-true (is_named name pair) (pair ∷ filter (is_named name) given) (filter (is_named name) given) e) in omega (arith, many)
    chosen more false e =
        let same = ap (λ (ps : List Pair). length ps) (cond-false (is_named name pair) (pair ∷ filter (is_named name) given) (filter (is_named name) given) e) in
        let rest = more (sym (ap (λ (b : Bool). b || has_name name given) e) ∙ some) in
        omega (arith, same, rest)

one_named : (name : Text) (pair : Pair) → length (filter (is_named name) (pair ∷ [])) ≤ 1
one_named name pair = chosen (is_named name pair)
  where
    chosen : (b : Bool) → length (cond b (pair ∷ []) []) ≤ 1
    chosen true = omega arith
    chosen false = omega arith

-- a new name keeps names single
pub once_more : (given : List Pair) (pair : Pair) → IsOnce given → has_name pair.0 given ≡ false → IsOnce (given ++ pair ∷ [])
once_more given pair once fresh name =
    let parts : length (filter (is_named name) (given ++ pair ∷ [])) ≡ length (filter (is_named name) given ++ filter (is_named name) (pair ∷ [])) = ap (λ (ps : List Pair). length ps) (filter-append (is_named name) given (pair ∷ [])) in
    subst (λ (n : ℕ). n ≤ 1) (sym parts) (chosen (is_named name pair) refl)
  where
    chosen : (b : Bool) → is_named name pair ≡ b → length (filter (is_named name) given ++ filter (is_named name) (pair ∷ [])) ≤ 1
    chosen true e =
        let same : pair.0 ≡ name = (bytes_eq-Decides pair.0 name).0 e in
        let none = none_named name given (ap (λ (n : Text). has_name n given) (sym same) ∙ fresh) in
        subst (λ (ps : List Pair). length (ps ++ filter (is_named name) (pair ∷ [])) ≤ 1) (sym none) (one_named name pair)
    chosen false e =
        let none : filter (is_named name) (pair ∷ []) ≡ [] = cond-false (is_named name pair) _ _ e in
        subst (λ (ps : List Pair). length (filter (is_named name) given ++ ps) ≤ 1) (sym none) (subst (λ (ps : List Pair). length ps ≤ 1) (sym (append-nil (filter (is_named name) given))) (once name))

pub same_name : (name : Text) → bytes_eq name name ≡ true
same_name name = (bytes_eq-Decides name name).1 refl

-- where no name comes twice, a name is new behind those before it
pub once_new : (given : List Pair) (pair : Pair) (more : List Pair) → IsOnce (given ++ pair ∷ more) → has_name pair.0 given ≡ false
once_new given pair more once = chosen (has_name pair.0 given) refl
  where
    chosen : (b : Bool) → has_name pair.0 given ≡ b → b ≡ false
    chosen false e = refl
    chosen true e =
        let parts : length (filter (is_named pair.0) (given ++ pair ∷ more)) ≡ length (filter (is_named pair.0) given ++ filter (is_named pair.0) (pair ∷ more)) = ap (λ (ps : List Pair). length ps) (filter-append (is_named pair.0) given (pair ∷ more)) in
        let here : filter (is_named pair.0) (pair ∷ more) ≡ pair ∷ filter (is_named pair.0) more = cond-true (is_named pair.0 pair) _ _ (same_name pair.0) in
        let some = some_named pair.0 given e in
        let long = length-append (filter (is_named pair.0) given) (filter (is_named pair.0) (pair ∷ more)) in
        let one = ap (λ (ps : List Pair). length ps) here in
        let most = once pair.0 in
        absurd (omega (arith, parts, long, one, some, most))
