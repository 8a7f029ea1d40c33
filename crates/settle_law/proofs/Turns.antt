-- A turn on the words against the plain tree of its cut turn.
use Rattle.std.proofs.Common.{◌≡◌, ℕ, zero, suc, ◌+◌, ◌-◌, ◌<◌, ℤ, Bool, true, false, if◌then◌else◌, nat_lt, Option, Some, None, List, [], ◌∷◌, map, take, sum, get_or, refl, sym, ap, ◌∙◌, subst, add_assoc, arith}
use Rattle.std.proofs.lemmas.Bool.{lt-ltb, le-ltb}
use Rattle.std.proofs.lemmas.List.Sums.{sum_by-cons}
use Rattle.std.specs.Option.{option_map_or}
use Rattle.nest_syntax.specs.Arrays.{Array, sizes_of, is_fixed, word_number, word_at, with_word}
use Rattle.nest_syntax.specs.Turn.{Turn, Finished, Trapped, Load, Store, Op, Go}
use Rattle.nest_syntax.specs.Reads.{Ended, Completed, Stopped, on_words, accesses_on}
use Rattle.nest_syntax.specs.Reads as reads
use Rattle.settle_law.specs.Trees.{Tree, turn}
use Rattle.settle_law.specs.Trees as tree
use Rattle.settle_law.specs.Cuts.{Cut, cut, plain, pausing, is_full, one_more, CanBeRead, HoldsFixed}
use Rattle.settle_law.specs.Traces.{Read, Write}
use Rattle.settle_law.specs.Law.{accesses}
use Rattle.nest_syntax.specs.Inside.{StaysInside}
use Rattle.settle_law.specs.Reading.{number_in, of_iteration, KeepsFixed, TellsFixed, told, is_fixed_word, fixed_in, TurnIsTree, AccessesAreTree, InsideTurnsTell, WithinTurn, WithinTurnIsWithin}
use Rattle.settle_law.specs.Claims.{Claims, Within}
use Rattle.settle_law.specs.Tasks.{System, Realises}
use Rattle.settle_law.proofs.Commuting.{other_word}

pub plain_pausing : (fixed : ℕ → Option ℤ) (due : Bool) (c : Cut) → plain fixed (pausing due c) ≡ plain fixed c
plain_pausing fixed true c = refl
plain_pausing fixed false c = refl

-- a write of a word that isn't told leaves the told ones
pub holds_write : (fixed : ℕ → Option ℤ) (words : List ℤ) (w : ℕ) (value : ℤ) → fixed w ≡ None → HoldsFixed fixed words → HoldsFixed fixed (with_word words w value)
holds_write fixed words w value free holds u old is = other_word words w u value (λ same. let none : fixed u ≡ None = subst (λ x. fixed x ≡ None) same free in let no : None ≡ Some old = sym none ∙ is in absurd cc) ∙ holds u old is

module _ (sizes : List ℕ) (fixed : ℕ → Option ℤ) where
  abbrev pub HoldsAtEnd : Ended → Type 0
  HoldsAtEnd (Completed last) = HoldsFixed fixed last
  HoldsAtEnd (Stopped cause line last) = HoldsFixed fixed last

  -- what a read of the word, as the words have it, may be
  pub can_read : (w : ℕ) (words : List ℤ) → HoldsFixed fixed words → CanBeRead (fixed w) (word_at words w)
  can_read w words holds = by_told (fixed w) (holds w)
    where
      by_told : (o : Option ℤ) → ((old : ℤ) → o ≡ Some old → word_at words w ≡ old) → CanBeRead o (word_at words w)
      by_told None is = tt
      by_told (Some old) is = sym (is old refl)

  pub holds_at_end : (t : Turn) (words : List ℤ) → KeepsFixed sizes fixed t → HoldsFixed fixed words → HoldsAtEnd (on_words sizes t words)
  holds_at_end Finished words keeps holds = holds
  holds_at_end (Trapped cause line) words keeps holds = holds
  holds_at_end (Load array place go) words keeps holds = holds_at_end (go (word_at words (word_number sizes array place))) words (keeps (word_at words (word_number sizes array place)) (can_read (word_number sizes array place) words holds)) holds
  holds_at_end (Store array place value rest) words keeps holds = holds_at_end rest (with_word words (word_number sizes array place) value) keeps.1 (holds_write fixed words (word_number sizes array place) value keeps.0 holds)
  holds_at_end (Op rest) words keeps holds = holds_at_end rest words keeps holds
  holds_at_end (Go rest) words keeps holds = holds_at_end rest words keeps holds

  -- a read of the words, by what is told of the word
  turn_told : (o : Option ℤ) (w : ℕ) (f : ℤ → Tree) (words : List ℤ) → CanBeRead o (word_at words w) → turn (option_map_or f o (tree.Load w f)) words ≡ turn (f (word_at words w)) words
  turn_told None w f words can = refl
  turn_told (Some old) w f words can = ap (λ x. turn (f x) words) can

  pub turn_is : (n : ℕ) (t : Turn) (words : List ℤ) → KeepsFixed sizes fixed t → HoldsFixed fixed words → on_words sizes t words ≡ turn (plain fixed (cut sizes n t)) words
  turn_is n Finished words keeps holds = refl
  turn_is n (Trapped cause line) words keeps holds = refl
  turn_is n (Load array place go) words keeps holds =
      let can : CanBeRead (fixed (word_number sizes array place)) (word_at words (word_number sizes array place)) = can_read (word_number sizes array place) words holds in
      turn_is 0 (go (word_at words (word_number sizes array place))) words (keeps (word_at words (word_number sizes array place)) can) holds
      ∙ sym (turn_told (fixed (word_number sizes array place)) (word_number sizes array place) (λ x. plain fixed (cut sizes 0 (go x))) words can)
  turn_is n (Store array place value rest) words keeps holds = turn_is 0 rest (with_word words (word_number sizes array place) value) keeps.1 (holds_write fixed words (word_number sizes array place) value keeps.0 holds)
  turn_is n (Op rest) words keeps holds = turn_is (one_more n) rest words keeps holds ∙ ap (λ x. turn x words) (sym (plain_pausing fixed (is_full n) (cut sizes (one_more n) rest)))
  turn_is n (Go rest) words keeps holds = turn_is 0 rest words keeps holds

pub turn_is_tree : TurnIsTree
turn_is_tree sizes fixed t words keeps holds = turn_is sizes fixed 0 t words keeps holds

module _ (arrays : List Array) (fixed : ℕ → Option ℤ) (opening : List ℤ) (k : ℕ) where
  -- a read, by whether its array is `const`
  accesses_told : (b : Bool) (o : Option ℤ) (x : ℤ) (w : ℕ) (f : ℤ → Tree) (words : List ℤ) (made : List reads.Access) → o ≡ told b x → CanBeRead o (word_at words w) → map (of_iteration k) made ≡ accesses k (f (word_at words w)) words → map (of_iteration k) (if b then made else reads.Read w (word_at words w) ∷ made) ≡ accesses k (option_map_or f o (tree.Load w f)) words
  accesses_told true o x w f words made is can same =
      let seen : x ≡ word_at words w = subst (λ p. CanBeRead p (word_at words w)) is can in
      subst (λ p. map (of_iteration k) made ≡ accesses k (option_map_or f p (tree.Load w f)) words) (sym is) (same ∙ ap (λ y. accesses k (f y) words) (sym seen))
  accesses_told false o x w f words made is can same = subst (λ p. Read k w (word_at words w) ∷ map (of_iteration k) made ≡ accesses k (option_map_or f p (tree.Load w f)) words) (sym is) (ap (λ l. Read k w (word_at words w) ∷ l) same)

  pub accesses_are : (n : ℕ) (t : Turn) (words : List ℤ) → TellsFixed arrays fixed opening t → HoldsFixed fixed words → map (of_iteration k) (accesses_on arrays t words) ≡ accesses k (plain fixed (cut (sizes_of arrays) n t)) words
  accesses_are n Finished words tells holds = refl
  accesses_are n (Trapped cause line) words tells holds = refl
  accesses_are n (Load array place go) words tells holds =
      let can : CanBeRead (fixed (number_in arrays array place)) (word_at words (number_in arrays array place)) = can_read (sizes_of arrays) fixed (number_in arrays array place) words holds in
      accesses_told (is_fixed arrays array) (fixed (number_in arrays array place)) (word_at opening (number_in arrays array place)) (number_in arrays array place) (λ x. plain fixed (cut (sizes_of arrays) 0 (go x))) words
      (accesses_on arrays (go (word_at words (number_in arrays array place))) words)
      tells.0 can (accesses_are 0 (go (word_at words (number_in arrays array place))) words (tells.1 (word_at words (number_in arrays array place)) can) holds)
  accesses_are n (Store array place value rest) words tells holds = ap (λ l. Write k (number_in arrays array place) value ∷ l) (accesses_are 0 rest (with_word words (number_in arrays array place) value) tells.1 (holds_write fixed words (number_in arrays array place) value tells.0 holds))
  accesses_are n (Op rest) words tells holds = accesses_are (one_more n) rest words tells holds ∙ ap (λ x. accesses k x words) (sym (plain_pausing fixed (is_full n) (cut (sizes_of arrays) (one_more n) rest)))
  accesses_are n (Go rest) words tells holds = accesses_are 0 rest words tells holds

pub accesses_are_tree : AccessesAreTree
accesses_are_tree arrays fixed opening t k words tells holds = accesses_are arrays fixed opening k 0 t words tells holds

-- a turn that tells of its words rightly writes none that is told
pub keeps-from_tells : (arrays : List Array) (fixed : ℕ → Option ℤ) (words : List ℤ) (t : Turn) → TellsFixed arrays fixed words t → KeepsFixed (sizes_of arrays) fixed t
keeps-from_tells arrays fixed words Finished tells = tt
keeps-from_tells arrays fixed words (Trapped cause line) tells = tt
keeps-from_tells arrays fixed words (Load array place go) tells = λ value can. keeps-from_tells arrays fixed words (go value) (tells.1 value can)
keeps-from_tells arrays fixed words (Store array place value rest) tells = (tells.0, keeps-from_tells arrays fixed words rest tells.1)
keeps-from_tells arrays fixed words (Op rest) tells = keeps-from_tells arrays fixed words rest tells
keeps-from_tells arrays fixed words (Go rest) tells = keeps-from_tells arrays fixed words rest tells

-- a word inside an array is `const` where the array is
pub fixed_as_array : (arrays : List Array) (array place : ℕ) → place < get_or (sizes_of arrays) array 0 → is_fixed_word arrays (number_in arrays array place) ≡ is_fixed arrays array
fixed_as_array [] array place inside = absurd (omega (arith, inside))
fixed_as_array (a ∷ arrays) zero place inside =
    let here : nat_lt (0 + place) a.size ≡ true = lt-ltb (0 + place) a.size (omega (arith, inside)) in
    ap (λ t. if t then a.fixed else is_fixed_word arrays ((0 + place) - a.size)) here
fixed_as_array (a ∷ arrays) (suc n) place inside =
    let number : word_number (sizes_of (a ∷ arrays)) (suc n) place ≡ a.size + word_number (sizes_of arrays) n place = ap (λ x. x + place) (sum_by-cons (λ x. x) a.size (take n (sizes_of arrays))) ∙ add_assoc a.size (sum (take n (sizes_of arrays))) place in
    let past : nat_lt (a.size + word_number (sizes_of arrays) n place) a.size ≡ false = le-ltb _ _ (omega arith) in
    let behind : (a.size + word_number (sizes_of arrays) n place) - a.size ≡ word_number (sizes_of arrays) n place = omega arith in
    ap (is_fixed_word (a ∷ arrays)) number
    ∙ ap (λ t. if t then a.fixed else is_fixed_word arrays ((a.size + word_number (sizes_of arrays) n place) - a.size)) past
    ∙ ap (is_fixed_word arrays) behind ∙ fixed_as_array arrays n place inside

pub tells-from_inside : (arrays : List Array) (words : List ℤ) (t : Turn) → StaysInside arrays t → TellsFixed arrays (fixed_in arrays words) words t
tells-from_inside arrays words Finished inside = tt
tells-from_inside arrays words (Trapped cause line) inside = tt
tells-from_inside arrays words (Load array place go) inside = (ap (λ b. told b (word_at words (number_in arrays array place))) (fixed_as_array arrays array place inside.0), λ value can. tells-from_inside arrays words (go value) (inside.1 value))
tells-from_inside arrays words (Store array place value rest) inside = (ap (λ b. told b (word_at words (number_in arrays array place))) (fixed_as_array arrays array place inside.0 ∙ inside.1), tells-from_inside arrays words rest inside.2)
tells-from_inside arrays words (Op rest) inside = tells-from_inside arrays words rest inside
tells-from_inside arrays words (Go rest) inside = tells-from_inside arrays words rest inside

-- the opening words have the values that they tell
pub holds_opening : (arrays : List Array) (words : List ℤ) → HoldsFixed (fixed_in arrays words) words
holds_opening arrays words w old is = by_test (is_fixed_word arrays w) is
  where
    by_test : (b : Bool) → told b (word_at words w) ≡ Some old → word_at words w ≡ old
    by_test true same = let s : Some (word_at words w) ≡ Some old = same in cc
    by_test false same = absurd (let no : None ≡ Some old = same in cc)

pub inside_turns_tell : InsideTurnsTell
inside_turns_tell arrays words = (holds_opening arrays words, λ t inside. tells-from_inside arrays words t inside)

-- a turn whose cut turn is realised writes no word that is told
pub keeps-from_realises : {P : Type 0} (sys : System P) (sizes : List ℕ) (n : ℕ) (t : Turn) (piece : P) → Realises sys (cut sizes n t) piece → KeepsFixed sizes sys.fixed t
keeps-from_realises sys sizes n Finished piece r = tt
keeps-from_realises sys sizes n (Trapped cause line) piece r = tt
keeps-from_realises sys sizes n (Load array place go) piece (next, stop, more) = λ value can. keeps-from_realises sys sizes 0 (go value) (next value) (more value can).1
keeps-from_realises sys sizes n (Store array place value rest) piece (next, stop, free, falls, more) = (free, keeps-from_realises sys sizes 0 rest next more)
keeps-from_realises {P} sys sizes n (Op rest) piece r = by_pause (is_full n) piece (λ p more. keeps-from_realises sys sizes (one_more n) rest p more) r
  where
    by_pause : (due : Bool) (p : P) → ((q : P) → Realises sys (cut sizes (one_more n) rest) q → KeepsFixed sizes sys.fixed rest) → Realises sys (pausing due (cut sizes (one_more n) rest)) p → KeepsFixed sizes sys.fixed rest
    by_pause true p go (next, stop, falls, more) = go next more
    by_pause false p go more = go p more
keeps-from_realises sys sizes n (Go rest) piece (next, stop, falls, more) = keeps-from_realises sys sizes 0 rest next more

-- claims that hold a turn
module _ (sizes : List ℕ) (fixed : ℕ → Option ℤ) (claims : Claims) where
  -- a read, by what is told of its word
  within_told : (o : Option ℤ) (w : ℕ) (f : ℤ → Tree) → (o ≡ None → claims.read w ≡ true) → ((value : ℤ) → CanBeRead o value → Within claims (f value)) → Within claims (option_map_or f o (tree.Load w f))
  within_told None w f claimed more = (claimed refl, λ value. more value tt)
  within_told (Some old) w f claimed more = more old refl

  pub within_turn : (n : ℕ) (t : Turn) → WithinTurn sizes fixed claims t → Within claims (plain fixed (cut sizes n t))
  within_turn n Finished within = tt
  within_turn n (Trapped cause line) within = tt
  within_turn n (Load array place go) within = within_told (fixed (word_number sizes array place)) (word_number sizes array place) (λ x. plain fixed (cut sizes 0 (go x))) within.0 (λ value can. within_turn 0 (go value) (within.1 value can))
  within_turn n (Store array place value rest) within = (within.0, within_turn 0 rest within.1)
  within_turn n (Op rest) within = subst (Within claims) (sym (plain_pausing fixed (is_full n) (cut sizes (one_more n) rest))) (within_turn (one_more n) rest within)
  within_turn n (Go rest) within = within_turn 0 rest within

  told_within : (o : Option ℤ) (w : ℕ) (f : ℤ → Tree) → Within claims (option_map_or f o (tree.Load w f)) → (o ≡ None → claims.read w ≡ true) × ((value : ℤ) → CanBeRead o value → Within claims (f value))
  told_within None w f within = (λ none. within.0, λ value can. within.1 value)
  told_within (Some old) w f within = (λ none. absurd (let no : Some old ≡ None = none in cc), λ value can. subst (λ x. Within claims (f x)) can within)

  pub turn_within : (n : ℕ) (t : Turn) → Within claims (plain fixed (cut sizes n t)) → WithinTurn sizes fixed claims t
  turn_within n Finished within = tt
  turn_within n (Trapped cause line) within = tt
  turn_within n (Load array place go) within =
      let parts : (fixed (word_number sizes array place) ≡ None → claims.read (word_number sizes array place) ≡ true) × ((value : ℤ) → CanBeRead (fixed (word_number sizes array place)) value → Within claims (plain fixed (cut sizes 0 (go value)))) = told_within (fixed (word_number sizes array place)) (word_number sizes array place) (λ x. plain fixed (cut sizes 0 (go x))) within in
      (parts.0, λ value can. turn_within 0 (go value) (parts.1 value can))
  turn_within n (Store array place value rest) within = (within.0, turn_within 0 rest within.1)
  turn_within n (Op rest) within = turn_within (one_more n) rest (subst (Within claims) (plain_pausing fixed (is_full n) (cut sizes (one_more n) rest)) within)
  turn_within n (Go rest) within = turn_within 0 rest within

pub within_turns : WithinTurnIsWithin
within_turns sizes fixed claims t = (within_turn sizes fixed claims 0 t, turn_within sizes fixed claims 0 t)
