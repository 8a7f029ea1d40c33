-- Words that spell pairs are taken by a parse, which holds these pairs at the end.
use Rattle.std.proofs.Common.{◌≡◌, inl, inr, ℕ, Bool, true, false, List, [], ◌∷◌, ◌++◌, Option, Some, None, codes, refl, sym, ap, ◌∙◌, subst}
use Rattle.std.specs.Prelude.{⊤}
use Rattle.std.specs.List.{list_all}
use Rattle.std.specs.Str.{bytes_eq}
use Rattle.std.proofs.lemmas.Bool.{and_from, or_left, or_right, true≢false}
use Rattle.std.proofs.lemmas.List.{append-nil, append_assoc}
use Rattle.std.proofs.lemmas.List.Folds.{list_any-append}
use Rattle.clap.specs.Walk.{Held, Rule, Text, Walk, idle, settled, walked}
use Rattle.clap.specs.Kinds.{Kinds, or_else}
use Rattle.clap.specs.Faults.{long_fault, repeat_fault, settle_fault, step_fault, turn_fault, walk_fault}
use Rattle.word_texts.specs.Spelling.{Pair, is_named, IsOption, engine, workers, queue, sign, segment, distance, seed, size, Begins, Spells, IsOnce, is_plain, dashed, apart, joined, flag, action}
use Rattle.word_texts.specs.Command.{is_usual}
use Rattle.word_texts.proofs.Rules.{top, rules, by_long, long_apart, long_joined}
use Rattle.word_texts.proofs.Rows.{has_name, once_new}
use Rattle.word_texts.proofs.Turns.{held, at, behind, IsLast, Fits, no_fault, not_again, settled_is, other_word, text_walked, text_fault, idle_fault, action_fault_is, action_walked, option_fault_is, apart_walked, joined_walked, flag_walked, met_long}
use Rattle.word_texts.proofs.Taken.{place, run}

-- the words are taken from there, and these pairs are held at the end
pub record Passes (all : List Pair) (words : List Text) (w : Walk) : Type 0 where
  pub usual : list_all is_usual words ≡ true
  pub walk : walk_fault top [] w words ≡ []
  pub end : settle_fault rules false (run w words).held ≡ []
  pub held_is : settled rules (run w words).held ≡ held all None

one_turn : (all : List Pair) (word : Text) (rest : List Text) (w next : Walk) → is_usual word ≡ true → turn_fault top [] w word ≡ [] → walked rules [] w word ≡ next → Passes all rest next → Passes all (word ∷ rest) w
unfolding walk_fault
one_turn all word rest w next usual fault is passes =
    let p = subst (Passes all rest) (sym is) passes in
    record {
      usual = and_from (is_usual word) (list_all is_usual rest) usual p.usual;
      walk = ap (λ (faults : Kinds). or_else faults (walk_fault top [] (walked rules [] w word) rest)) fault ∙ p.walk;
      end = p.end;
      held_is = p.held_is;
    }

usual_apart : {name : Text} → IsOption name → is_usual (dashed name) ≡ true
usual_apart engine = refl
usual_apart workers = refl
usual_apart queue = refl
usual_apart sign = refl
usual_apart segment = refl
usual_apart distance = refl
usual_apart seed = refl
usual_apart size = refl

no_end_apart : {name : Text} → IsOption name → bytes_eq (dashed name) (45 ∷ 45 ∷ []) ≡ false
no_end_apart engine = refl
no_end_apart workers = refl
no_end_apart queue = refl
no_end_apart sign = refl
no_end_apart segment = refl
no_end_apart distance = refl
no_end_apart seed = refl
no_end_apart size = refl

usual_joined : {name : Text} → IsOption name → (text : Text) → is_usual (dashed name ++ 61 ∷ text) ≡ true
usual_joined engine text = refl
usual_joined workers text = refl
usual_joined queue text = refl
usual_joined sign text = refl
usual_joined segment text = refl
usual_joined distance text = refl
usual_joined seed text = refl
usual_joined size text = refl

no_end_joined : {name : Text} → IsOption name → (text : Text) → bytes_eq (dashed name ++ 61 ∷ text) (45 ∷ 45 ∷ []) ≡ false
no_end_joined engine text = refl
no_end_joined workers text = refl
no_end_joined queue text = refl
no_end_joined sign text = refl
no_end_joined segment text = refl
no_end_joined distance text = refl
no_end_joined seed text = refl
no_end_joined size text = refl

plain_usual : (word : Text) → is_plain word ≡ true → is_usual word ≡ true
plain_usual [] plain = refl
plain_usual (a ∷ []) plain = plain
plain_usual (a ∷ b ∷ []) plain = plain
plain_usual (a ∷ b ∷ c ∷ rest) plain = or_left _ _ plain

-- an action stands among the pairs, where the walk had one
abbrev Acts : Bool → List Pair → Type 0
Acts false given = ⊤
Acts true given = has_name (codes "action") given ≡ true

acts_more : (acted : Bool) (given more : List Pair) → Acts acted given → Acts acted (given ++ more)
acts_more false given more acts = tt
acts_more true given more acts = list_any-append (is_named (codes "action")) given more ∙ or_left _ _ acts

fits_once : (given : List Pair) (last : Option Pair) (more : List Pair) → IsOnce (behind given last ++ more) → Fits given last
fits_once given None more once = tt
fits_once given (Some p) more once = once_new given p more (subst IsOnce (append_assoc given (p ∷ []) more) once)

-- pairs that are left are taken, wherever the walk stands
abbrev Behind : List Pair → Type 0
Behind more = (words : List Text) (given : List Pair) (last : Option Pair) (acted : Bool) → Spells words more → IsLast last → Acts acted (behind given last) → IsOnce (behind given last ++ more)
    → Passes (behind given last ++ more) words (at given last (place acted))

-- the fault of an option's word, by the rule that its name finds
abbrev fault_by : List Pair → Option Pair → ℕ → Text → Text → Option Text → Option Rule → Kinds
fault_by given last position word name text rule =
    or_else (long_fault rules false rule text (held given last)) (step_fault top position (met_long idle word name text (held given last) rule).0 (met_long idle word name text (held given last) rule).1)

settled_once : (name : Text) (given : List Pair) (last : Option Pair) → IsLast last → Fits given last → has_name name (behind given last) ≡ false
    → or_else (or_else (settle_fault rules false (held given last)) (or_else (repeat_fault false name (settled rules (held given last)).rows) [])) [] ≡ []
settled_once name given last kept fit fresh =
    ap (λ (faults : Kinds). or_else (or_else faults (or_else (repeat_fault false name (settled rules (held given last)).rows) [])) []) (no_fault given last kept fit)
    ∙ ap (λ (h : Held). or_else (or_else (repeat_fault false name h.rows) []) []) (settled_is given last kept fit)
    ∙ ap (λ (faults : Kinds). or_else faults []) (not_again name (behind given last) fresh)

by_apart : (name text : Text) (more : List Pair) (rest : List Text) (given : List Pair) (last : Option Pair) (acted : Bool) → Behind more → Spells rest more → IsOption name → is_plain text ≡ true
    → IsLast last → Acts acted (behind given last) → IsOnce (behind given last ++ (name, text) ∷ more) → Passes (behind given last ++ (name, text) ∷ more) (dashed name ∷ text ∷ rest) (at given last (place acted))
by_apart name text more rest given last acted others spelled option plain kept acts once =
    let fit = fits_once given last ((name, text) ∷ more) once in
    let no_end = no_end_apart option in
    let read = long_apart option in
    let other = other_word text plain in
    let same = append_assoc (behind given last) ((name, text) ∷ []) more in
    let passes = others rest (behind given last) (Some (name, text)) acted spelled (inl option) (acts_more acted (behind given last) ((name, text) ∷ []) acts) (subst IsOnce (sym same) once) in
    let whole = subst (λ (all : List Pair). Passes all rest (at (behind given last) (Some (name, text)) (place acted))) same passes in
    one_turn _ (dashed name) (text ∷ rest) _ _ (usual_apart option)
    (option_fault_is given last (place acted) (dashed name) name None no_end read ∙ ap (fault_by given last (place acted) (dashed name) name None) (by_long option) ∙ ap (λ (faults : Kinds). or_else faults []) (no_fault given last kept fit))
    (apart_walked given last (place acted) (dashed name) option no_end read kept fit)
    (one_turn _ text rest _ _ (plain_usual text plain) (text_fault (behind given last) (place acted) text option other) (text_walked (behind given last) (place acted) text option other) whole)

-- a pair is held at once, and the rest is taken behind it
settled_rest : (pair : Pair) (more : List Pair) (rest : List Text) (given : List Pair) (last : Option Pair) (acted : Bool) → Behind more → Spells rest more → Acts acted (behind given last) → IsOnce (behind given last ++ pair ∷ more)
    → Passes (behind given last ++ pair ∷ more) rest (at (behind given last ++ pair ∷ []) None (place acted))
settled_rest pair more rest given last acted others spelled acts once =
    let same = append_assoc (behind given last) (pair ∷ []) more in
    subst (λ (all : List Pair). Passes all rest (at (behind given last ++ pair ∷ []) None (place acted))) same
    (others rest (behind given last ++ pair ∷ []) None acted spelled tt (acts_more acted (behind given last) (pair ∷ []) acts) (subst IsOnce (sym same) once))

by_joined : (name text : Text) (more : List Pair) (rest : List Text) (given : List Pair) (last : Option Pair) (acted : Bool) → Behind more → Spells rest more → IsOption name
    → IsLast last → Acts acted (behind given last) → IsOnce (behind given last ++ (name, text) ∷ more) → Passes (behind given last ++ (name, text) ∷ more) ((dashed name ++ 61 ∷ text) ∷ rest) (at given last (place acted))
by_joined name text more rest given last acted others spelled option kept acts once =
    let fit = fits_once given last ((name, text) ∷ more) once in
    let fresh = once_new (behind given last) (name, text) more once in
    let no_end = no_end_joined option text in
    let read = long_joined option text in
    one_turn _ (dashed name ++ 61 ∷ text) rest _ _ (usual_joined option text)
    (option_fault_is given last (place acted) (dashed name ++ 61 ∷ text) name (Some text) no_end read ∙ ap (fault_by given last (place acted) (dashed name ++ 61 ∷ text) name (Some text)) (by_long option) ∙ settled_once name given last kept fit fresh)
    (joined_walked given last (place acted) (dashed name ++ 61 ∷ text) text option no_end read kept fit fresh)
    (settled_rest (name, text) more rest given last acted others spelled acts once)

by_flag : (more : List Pair) (rest : List Text) (given : List Pair) (last : Option Pair) (acted : Bool) → Behind more → Spells rest more
    → IsLast last → Acts acted (behind given last) → IsOnce (behind given last ++ (codes "record", codes "true") ∷ more) → Passes (behind given last ++ (codes "record", codes "true") ∷ more) (codes "--record" ∷ rest) (at given last (place acted))
by_flag more rest given last acted others spelled kept acts once =
    let fit = fits_once given last ((codes "record", codes "true") ∷ more) once in
    let fresh = once_new (behind given last) (codes "record", codes "true") more once in
    one_turn _ (codes "--record") rest _ _ refl
    (option_fault_is given last (place acted) (codes "--record") (codes "record") None refl refl ∙ settled_once (codes "record") given last kept fit fresh)
    (flag_walked given last (place acted) (codes "--record") refl refl kept fit fresh)
    (settled_rest (codes "record", codes "true") more rest given last acted others spelled acts once)

by_action : (text : Text) (more : List Pair) (rest : List Text) (given : List Pair) (last : Option Pair) (acted : Bool) → Behind more → Spells rest more → is_plain text ≡ true
    → IsLast last → Acts acted (behind given last) → IsOnce (behind given last ++ (codes "action", text) ∷ more) → Passes (behind given last ++ (codes "action", text) ∷ more) (text ∷ rest) (at given last (place acted))
by_action text more rest given last true others spelled plain kept acts once =
    absurd (true≢false (sym acts ∙ once_new (behind given last) (codes "action", text) more once))
by_action text more rest given last false others spelled plain kept acts once =
    let fit = fits_once given last ((codes "action", text) ∷ more) once in
    let other = other_word text plain in
    let same = append_assoc (behind given last) ((codes "action", text) ∷ []) more in
    let now : has_name (codes "action") (behind given last ++ (codes "action", text) ∷ []) ≡ true = list_any-append (is_named (codes "action")) (behind given last) ((codes "action", text) ∷ []) ∙ or_right (has_name (codes "action") (behind given last)) true refl in
    let passes = others rest (behind given last) (Some (codes "action", text)) true spelled (inr refl) now (subst IsOnce (sym same) once) in
    one_turn _ text rest _ _ (plain_usual text plain) (idle_fault given last 1 text other ∙ action_fault_is given last ∙ no_fault given last kept fit) (action_walked given last text other kept fit)
    (subst (λ (all : List Pair). Passes all rest (at (behind given last) (Some (codes "action", text)) 2)) same passes)

by_words : (all : List Pair) (words more : List Text) (w : Walk) → words ≡ more → Passes all more w → Passes all words w
by_words all words more w is passes = subst (λ (ws : List Text). Passes all ws w) (sym is) passes

begun : (name text : Text) (more : List Pair) (words rest : List Text) (given : List Pair) (last : Option Pair) (acted : Bool) → Behind more → Spells rest more → Begins words (name, text) rest
    → IsLast last → Acts acted (behind given last) → IsOnce (behind given last ++ (name, text) ∷ more) → Passes (behind given last ++ (name, text) ∷ more) words (at given last (place acted))
begun name text more words rest given last acted others spelled (apart option plain is) kept acts once =
    by_words _ words _ _ is (by_apart name text more rest given last acted others spelled option plain kept acts once)
begun name text more words rest given last acted others spelled (joined option is) kept acts once =
    by_words _ words _ _ is (by_joined name text more rest given last acted others spelled option kept acts once)
begun name text more words rest given last acted others spelled (flag pair is) kept acts once =
    by_words _ words _ _ is
    (subst (λ (pair : Pair). IsOnce (behind given last ++ pair ∷ more) → Passes (behind given last ++ pair ∷ more) (codes "--record" ∷ rest) (at given last (place acted))) (sym pair)
    (by_flag more rest given last acted others spelled kept acts) once)
begun name text more words rest given last acted others spelled (action named plain is) kept acts once =
    by_words _ words _ _ is
    (subst (λ (name : Text). IsOnce (behind given last ++ (name, text) ∷ more) → Passes (behind given last ++ (name, text) ∷ more) (text ∷ rest) (at given last (place acted))) (sym named)
    (by_action text more rest given last acted others spelled plain kept acts) once)

none_left : (words : List Text) (given : List Pair) (last : Option Pair) (acted : Bool) → words ≡ [] → IsLast last → IsOnce (behind given last ++ []) → Passes (behind given last ++ []) words (at given last (place acted))
unfolding walk_fault
none_left words given last acted none kept once =
    let fit = fits_once given last [] once in
    by_words _ words [] _ none (record {
      usual = refl;
      walk = refl;
      end = no_fault given last kept fit;
      held_is = settled_is given last kept fit ∙ ap (λ (all : List Pair). held all None) (sym (append-nil (behind given last)));
    })

pub given_pass : (more : List Pair) → Behind more
given_pass [] words given last acted spelled kept acts once = none_left words given last acted spelled kept once
given_pass ((name, text) ∷ more) words given last acted spelled kept acts once = begun name text more words spelled.0 given last acted (given_pass more) spelled.2 spelled.1 kept acts once
