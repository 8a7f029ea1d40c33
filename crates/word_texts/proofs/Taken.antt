-- Words that a parse takes spell pairs.
use Rattle.std.proofs.Common.{◌≡◌, inl, inr, ℕ, Bool, true, false, List, [], ◌∷◌, ◌++◌, Option, Some, None, codes, refl, sym, ap, ◌∙◌, subst}
use Rattle.std.specs.Prelude.{fold}
use Rattle.std.specs.List.{list_all}
use Rattle.std.proofs.lemmas.Bool.{and_parts}
use Rattle.std.proofs.lemmas.List.{append-nil, append_assoc}
use Rattle.clap.specs.Walk.{Held, Rule, Text, Walk, arg_by_long, settled, walked}
use Rattle.clap.specs.Kinds.{Kinds, or_else}
use Rattle.clap.specs.declared.error.kind.ErrorKind.TheVariants as kind
use Rattle.clap.specs.Faults.{long_fault, repeat_fault, settle_fault, turn_fault, walk_fault}
use Rattle.word_texts.specs.Spelling.{Pair, IsOption, engine, workers, queue, sign, segment, distance, seed, size, Begins, Spells, IsOnce, is_plain, apart as begins_apart, joined as begins_joined, flag as begins_flag, action as begins_action}
use Rattle.word_texts.specs.Command.{is_usual}
use Rattle.word_texts.proofs.Rules.{Known, known, option, flag, unknown, top, rules, built_option, built_flag, by_long}
use Rattle.word_texts.proofs.Rows.{has_name, once_more}
use Rattle.word_texts.proofs.Cuts.{Usual, usual, plain, dashes, Cut, cut, joined, apart}
use Rattle.word_texts.proofs.Turns.{held, asked, at, asking, behind, IsLast, Fits, fits, is_new, settled_is, other_word, text_walked, idle_fault, action_fault_is, action_walked, option_fault_is, asked_fault_is, apart_walked, joined_walked, flag_walked}

pub nothing_first : (a b : Kinds) → or_else a b ≡ [] → a ≡ []
nothing_first [] b e = refl
nothing_first (k ∷ ks) b e = cc

pub nothing_then : (a b : Kinds) → or_else a b ≡ [] → b ≡ []
nothing_then [] b e = e
nothing_then (k ∷ ks) b e = cc

-- the words give more pairs, which is what is settled at the end
pub record Took (before : List Pair) (words : List Text) (end : Walk) : Type 0 where
  pub more : List Pair
  pub spelled : Spells words more
  pub once : IsOnce (before ++ more)
  pub held_is : settled rules end.held ≡ held (before ++ more) None

-- where a walk stands between two words
pub data State : Type 0 where
  idly : List Pair → Option Pair → Bool → State
  waiting : List Pair → Text → Bool → State

-- the position of the next plain word, where there was an action or not
abbrev pub place : Bool → ℕ
place false = 1
place true = 2

abbrev pub walk_at : State → Walk
walk_at (idly given last acted) = at given last (place acted)
walk_at (waiting given name acted) = asking given name (place acted)

abbrev pub IsState : State → Type 0
IsState (idly given last acted) = IsLast last × IsOnce given
IsState (waiting given name acted) = IsOption name × IsOnce given

-- what the words of a walk from there give
abbrev pub Gives : State → List Text → Walk → Type 0
Gives (idly given last acted) words end = Took (behind given last) words end
Gives (waiting given name acted) words end = (text : Text) × (rest : List Text) × (words ≡ text ∷ rest) × (is_plain text ≡ true) × Took (given ++ (name, text) ∷ []) rest end

abbrev pub run : Walk → List Text → Walk
run w words = fold (walked rules []) w words

abbrev pub Takes : State → Walk → List Text → Type 0
Takes s w words = walk_fault top [] w words ≡ [] → settle_fault rules false (run w words).held ≡ [] → Gives s words (run w words)

one_more : (before : List Pair) (pair : Pair) (words rest : List Text) (end : Walk) → Begins words pair rest → Took (before ++ pair ∷ []) rest end → Took before words end
one_more before pair words rest end begins took =
    let same = append_assoc before (pair ∷ []) took.more in
    record {
      more = pair ∷ took.more;
      spelled = (rest, begins, took.spelled);
      once = subst IsOnce same took.once;
      held_is = took.held_is ∙ ap (λ (given : List Pair). held given None) same;
    }

last_once : (given : List Pair) (last : Option Pair) → IsOnce given → Fits given last → IsOnce (behind given last)
last_once given None once fit = once
last_once given (Some p) once fit = once_more given p once fit

-- ---- no word is left

ended : (given : List Pair) (last : Option Pair) (position : ℕ) → IsLast last → IsOnce given → settle_fault rules false (held given last) ≡ [] → Took (behind given last) [] (at given last position)
ended given last position kept once none =
    let fit = fits given last kept none in
    let same = sym (append-nil (behind given last)) in
    record {
      more = [];
      spelled = refl;
      once = subst IsOnce same (last_once given last once fit);
      held_is = settled_is given last kept fit ∙ ap (λ (given : List Pair). held given None) same;
    }

no_text : {name : Text} (given : List Pair) → IsOption name → settle_fault rules false (asked given name) ≡ [] → ⊥
no_text given option_is none = missing option_is none
  where
    missing : {name : Text} → IsOption name → settle_fault rules false (asked given name) ≡ [] → ⊥
    missing engine e = cc
    missing workers e = cc
    missing queue e = cc
    missing sign e = cc
    missing segment e = cc
    missing distance e = cc
    missing seed e = cc
    missing size e = cc

-- ---- what an option's word may be

pub data Reads (name : Text) (text : Option Text) (h : Held) : Type 0 where
  with_text : IsOption name → (content : Text) → text ≡ Some content → settle_fault rules false h ≡ [] → or_else (repeat_fault false name (settled rules h).rows) [] ≡ [] → Reads name text h
  without : IsOption name → text ≡ None → settle_fault rules false h ≡ [] → Reads name text h
  as_flag : name ≡ codes "record" → text ≡ None → settle_fault rules false h ≡ [] → or_else (repeat_fault false (codes "record") (settled rules h).rows) [] ≡ [] → Reads name text h

by_rule : (name : Text) (text : Option Text) (h : Held) (rule : Option Rule) → arg_by_long rules name ≡ rule → long_fault rules false (arg_by_long rules name) text h ≡ [] → long_fault rules false rule text h ≡ []
by_rule name text h rule is none = sym (ap (λ (r : Option Rule). long_fault rules false r text h) is) ∙ none

reads_by : (name : Text) (text : Option Text) (h : Held) → Known name → long_fault rules false (arg_by_long rules name) text h ≡ [] → Reads name text h
reads_by name text h (unknown is) none = let bad = by_rule name text h None is none in cc
reads_by name None h (option is) none = without is refl (by_rule name None h (Some (built_option name)) (by_long is) none)
reads_by name (Some content) h (option is) none =
    let parts = by_rule name (Some content) h (Some (built_option name)) (by_long is) none in
    with_text is content refl (nothing_first _ _ parts) (nothing_then (settle_fault rules false h) _ parts)
reads_by name (Some content) h (flag is) none =
    let bad = by_rule name (Some content) h (Some built_flag) (ap (arg_by_long rules) is) none in cc
reads_by name None h (flag is) none =
    let parts = by_rule name None h (Some built_flag) (ap (arg_by_long rules) is) none in
    as_flag is refl (nothing_first _ _ parts) (nothing_then (settle_fault rules false h) _ parts)

pub reads : (name : Text) (text : Option Text) (h : Held) → long_fault rules false (arg_by_long rules name) text h ≡ [] → Reads name text h
reads name text h none = reads_by name text h (known name) none

settles : {name : Text} {text : Option Text} {h : Held} → Reads name text h → settle_fault rules false h ≡ []
settles (with_text is content e none new) = none
settles (without is e none) = none
settles (as_flag is e none new) = none

-- ---- one word

onward : (w : Walk) (s : State) (rest : List Text) → w ≡ walk_at s → Takes s (walk_at s) rest → Takes s w rest
onward w s rest is takes = subst (λ (v : Walk). Takes s v rest) (sym is) takes

-- whatever is behind the words that are left, by where the walk stands
abbrev Rest : List Text → Type 0
Rest rest = (s : State) → IsState s → list_all is_usual rest ≡ true → Takes s (walk_at s) rest

fresh_behind : (name : Text) (given : List Pair) (last : Option Pair) → IsLast last → Fits given last → or_else (repeat_fault false name (settled rules (held given last)).rows) [] ≡ [] → has_name name (behind given last) ≡ false
fresh_behind name given last kept fit new = is_new name (behind given last) (ap (λ (h : Held). or_else (repeat_fault false name h.rows) []) (sym (settled_is given last kept fit)) ∙ new)

plain_taken : (given : List Pair) (last : Option Pair) (acted : Bool) (word : Text) (rest : List Text) → IsLast last → IsOnce given → is_plain word ≡ true → Rest rest → list_all is_usual rest ≡ true
    → turn_fault top [] (at given last (place acted)) word ≡ [] → walk_fault top [] (walked rules [] (at given last (place acted)) word) rest ≡ []
    → settle_fault rules false (run (walked rules [] (at given last (place acted)) word) rest).held ≡ [] → Took (behind given last) (word ∷ rest) (run (walked rules [] (at given last (place acted)) word) rest)
plain_taken given last false word rest kept once plain_is others usual_rest fault walk end =
    let is = other_word word plain_is in
    let none : settle_fault rules false (held given last) ≡ [] = sym (action_fault_is given last) ∙ sym (idle_fault given last 1 word is) ∙ fault in
    let fit = fits given last kept none in
    let s : State = idly (behind given last) (Some (codes "action", word)) true in
    let took = onward (walked rules [] (at given last 1) word) s rest (action_walked given last word is kept fit) (others s (inr refl, last_once given last once fit) usual_rest) walk end in
    one_more (behind given last) (codes "action", word) (word ∷ rest) rest _ (begins_action refl plain_is refl) took
plain_taken given last true word rest kept once plain_is others usual_rest fault walk end =
    let is = other_word word plain_is in
    let bad : kind.UnknownArgument ∷ [] ≡ [] = sym (idle_fault given last 2 word is) ∙ fault in
    cc

option_taken : (given : List Pair) (last : Option Pair) (acted : Bool) (b : ℕ) (text : Text) (rest : List Text) → IsLast last → IsOnce given → Cut (b ∷ text) → Rest rest → list_all is_usual rest ≡ true
    → turn_fault top [] (at given last (place acted)) (45 ∷ 45 ∷ b ∷ text) ≡ [] → walk_fault top [] (walked rules [] (at given last (place acted)) (45 ∷ 45 ∷ b ∷ text)) rest ≡ []
    → settle_fault rules false (run (walked rules [] (at given last (place acted)) (45 ∷ 45 ∷ b ∷ text)) rest).held ≡ []
    → Took (behind given last) ((45 ∷ 45 ∷ b ∷ text) ∷ rest) (run (walked rules [] (at given last (place acted)) (45 ∷ 45 ∷ b ∷ text)) rest)
option_taken given last acted b text rest kept once (joined name content is read) others usual_rest fault walk end =
    by (reads name (Some content) (held given last) (nothing_first _ _ (sym (option_fault_is given last (place acted) (45 ∷ 45 ∷ b ∷ text) name (Some content) refl (ap Some read)) ∙ fault)))
  where
    by : Reads name (Some content) (held given last) → Took (behind given last) ((45 ∷ 45 ∷ b ∷ text) ∷ rest) (run (walked rules [] (at given last (place acted)) (45 ∷ 45 ∷ b ∷ text)) rest)
    by (without option_is e none) = cc
    by (as_flag name_is e none new) = cc
    by (with_text option_is v e none new) =
        let fit = fits given last kept none in
        let fresh = fresh_behind name given last kept fit new in
        let s : State = idly (behind given last ++ (name, content) ∷ []) None acted in
        let took = onward (walked rules [] (at given last (place acted)) (45 ∷ 45 ∷ b ∷ text)) s rest (joined_walked given last (place acted) (45 ∷ 45 ∷ b ∷ text) content option_is refl (ap Some read) kept fit fresh)
        (others s (tt, once_more (behind given last) (name, content) (last_once given last once fit) fresh) usual_rest) walk end in
        one_more (behind given last) (name, content) ((45 ∷ 45 ∷ b ∷ text) ∷ rest) rest _ (begins_joined option_is (ap (λ (t : Text). (45 ∷ 45 ∷ t) ∷ rest) is)) took
option_taken given last acted b text rest kept once (apart read) others usual_rest fault walk end =
    by (reads (b ∷ text) None (held given last) (nothing_first _ _ (sym (option_fault_is given last (place acted) (45 ∷ 45 ∷ b ∷ text) (b ∷ text) None refl (ap Some read)) ∙ fault)))
  where
    by : Reads (b ∷ text) None (held given last) → Took (behind given last) ((45 ∷ 45 ∷ b ∷ text) ∷ rest) (run (walked rules [] (at given last (place acted)) (45 ∷ 45 ∷ b ∷ text)) rest)
    by (with_text option_is v e none new) = cc
    by (without option_is e none) =
        let fit = fits given last kept none in
        let s : State = waiting (behind given last) (b ∷ text) acted in
        let gives = onward (walked rules [] (at given last (place acted)) (45 ∷ 45 ∷ b ∷ text)) s rest (apart_walked given last (place acted) (45 ∷ 45 ∷ b ∷ text) option_is refl (ap Some read) kept fit)
        (others s (option_is, last_once given last once fit) usual_rest) walk end in
        one_more (behind given last) (b ∷ text, gives.0) ((45 ∷ 45 ∷ b ∷ text) ∷ rest) gives.1 _ (begins_apart option_is gives.3 (ap (λ (r : List Text). (45 ∷ 45 ∷ b ∷ text) ∷ r) gives.2)) gives.4
    by (as_flag name_is e none new) =
        let fit = fits given last kept none in
        let fresh = fresh_behind (codes "record") given last kept fit new in
        let s : State = idly (behind given last ++ (codes "record", codes "true") ∷ []) None acted in
        let took = onward (walked rules [] (at given last (place acted)) (45 ∷ 45 ∷ b ∷ text)) s rest (flag_walked given last (place acted) (45 ∷ 45 ∷ b ∷ text) refl (ap Some read ∙ ap (λ (t : Text). Some (t, None)) name_is) kept fit fresh)
        (others s (tt, once_more (behind given last) (codes "record", codes "true") (last_once given last once fit) fresh) usual_rest) walk end in
        one_more (behind given last) (codes "record", codes "true") ((45 ∷ 45 ∷ b ∷ text) ∷ rest) rest _ (begins_flag refl (ap (λ (t : Text). (45 ∷ 45 ∷ t) ∷ rest) name_is)) took

idle_taken : (given : List Pair) (last : Option Pair) (acted : Bool) (word : Text) (rest : List Text) → IsLast last → IsOnce given → Usual word → Rest rest → list_all is_usual rest ≡ true
    → turn_fault top [] (at given last (place acted)) word ≡ [] → walk_fault top [] (walked rules [] (at given last (place acted)) word) rest ≡ []
    → settle_fault rules false (run (walked rules [] (at given last (place acted)) word) rest).held ≡ [] → Took (behind given last) (word ∷ rest) (run (walked rules [] (at given last (place acted)) word) rest)
idle_taken given last acted word rest kept once (plain is) others usual_rest = plain_taken given last acted word rest kept once is others usual_rest
idle_taken given last acted word rest kept once (dashes b text is) others usual_rest =
    subst (λ (word : Text). turn_fault top [] (at given last (place acted)) word ≡ [] → walk_fault top [] (walked rules [] (at given last (place acted)) word) rest ≡ []
    → settle_fault rules false (run (walked rules [] (at given last (place acted)) word) rest).held ≡ [] → Took (behind given last) (word ∷ rest) (run (walked rules [] (at given last (place acted)) word) rest))
    (sym is) (option_taken given last acted b text rest kept once (cut (b ∷ text)) others usual_rest)

no_dashes : (given : List Pair) (name : Text) (acted : Bool) (b : ℕ) (text : Text) → IsOption name → Cut (b ∷ text) → turn_fault top [] (asking given name (place acted)) (45 ∷ 45 ∷ b ∷ text) ≡ [] → ⊥
no_dashes given name acted b text option_is (joined other content is read) fault =
    no_text given option_is (settles (reads other (Some content) (asked given name) (nothing_first _ _ (sym (asked_fault_is given name (place acted) (45 ∷ 45 ∷ b ∷ text) other (Some content) refl (ap Some read)) ∙ fault))))
no_dashes given name acted b text option_is (apart read) fault =
    no_text given option_is (settles (reads (b ∷ text) None (asked given name) (nothing_first _ _ (sym (asked_fault_is given name (place acted) (45 ∷ 45 ∷ b ∷ text) (b ∷ text) None refl (ap Some read)) ∙ fault))))

waiting_taken : (given : List Pair) (name : Text) (acted : Bool) (word : Text) (rest : List Text) → IsOption name → IsOnce given → Usual word → Rest rest → list_all is_usual rest ≡ true
    → turn_fault top [] (asking given name (place acted)) word ≡ [] → walk_fault top [] (walked rules [] (asking given name (place acted)) word) rest ≡ []
    → settle_fault rules false (run (walked rules [] (asking given name (place acted)) word) rest).held ≡ [] → Gives (waiting given name acted) (word ∷ rest) (run (walked rules [] (asking given name (place acted)) word) rest)
waiting_taken given name acted word rest option_is once (plain is) others usual_rest fault walk end =
    let s : State = idly given (Some (name, word)) acted in
    (word, rest, refl, is, onward (walked rules [] (asking given name (place acted)) word) s rest (text_walked given (place acted) word option_is (other_word word is)) (others s (inl option_is, once) usual_rest) walk end)
waiting_taken given name acted word rest option_is once (dashes b text is) others usual_rest fault walk end =
    absurd (no_dashes given name acted b text option_is (cut (b ∷ text)) (ap (turn_fault top [] (asking given name (place acted))) (sym is) ∙ fault))

-- ---- all words

pub taken : (words : List Text) → Rest words
unfolding walk_fault
taken [] (idly given last acted) state usual_words walk end = ended given last (place acted) state.0 state.1 end
taken [] (waiting given name acted) state usual_words walk end = absurd (no_text given state.0 end)
taken (word ∷ rest) (idly given last acted) state usual_words walk end =
    let parts = and_parts (is_usual word) (list_all is_usual rest) usual_words in
    idle_taken given last acted word rest state.0 state.1 (usual word parts.0) (taken rest) parts.1 (nothing_first _ _ walk) (nothing_then (turn_fault top [] (at given last (place acted)) word) _ walk) end
taken (word ∷ rest) (waiting given name acted) state usual_words walk end =
    let parts = and_parts (is_usual word) (list_all is_usual rest) usual_words in
    waiting_taken given name acted word rest state.0 state.1 (usual word parts.0) (taken rest) parts.1 (nothing_first _ _ walk) (nothing_then (turn_fault top [] (asking given name (place acted)) word) _ walk) end
