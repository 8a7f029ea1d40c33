-- The first pair of accesses that may depend on each other, one access after another.
use Rattle.std.proofs.Common.{◌≡◌, ℕ, suc, ◌+◌, ◌<◌, ◌≤◌, ◌==◌, Bool, true, false, not, ◌&&◌, ◌||◌, if◌then◌else◌, Option, Some, None, List, [], ◌∷◌, ◌++◌, map, filter, length, take, drop, get_or, refl, sym, ap, ◌∙◌, drop-cons, add-one, append_assoc}
use Rattle.std.specs.Option.{option_map}
use Rattle.std.proofs.lemmas.List.{append-nil, drop_all, take_more}
use Rattle.dep_graph.specs.declared.accesses.AccessAt.{AccessAt}
use Rattle.dep_graph.specs.declared.accesses.Access.{Access}
use Rattle.dep_graph.specs.declared.kinds.LoopKind.{LoopKind}
use Rattle.dep_graph.specs.declared.kinds.LoopKind.TheVariants as kind
use Rattle.dep_graph.specs.Kinds.{is_write, is_parted, may_depend, first_where, behind, kind_from}

-- two reads never depend on each other
two_reads : (step : ℕ) (q p : Access) → q.at.write ≡ false → p.at.write ≡ false → may_depend step q p ≡ false
two_reads step q p second first =
    ap (λ w. (p.at.array == q.at.array) && ((w || q.at.write) && not (is_parted step p.subscript q.subscript))) first
    ∙ ap (λ w. (p.at.array == q.at.array) && (w && not (is_parted step p.subscript q.subscript))) second
    ∙ never (p.at.array == q.at.array)
  where
    never : (b : Bool) → (b && false) ≡ false
    never true = refl
    never false = refl

-- so for a read the writes are enough
pub writes_enough : (step : ℕ) (q : Access) → q.at.write ≡ false → (accesses : List Access) → first_where (may_depend step q) (filter is_write accesses) ≡ first_where (may_depend step q) accesses
writes_enough step q second [] = refl
writes_enough step q second (p ∷ accesses) = by (writes_enough step q second accesses) (is_write p) refl
  where
    by : first_where (may_depend step q) (filter is_write accesses) ≡ first_where (may_depend step q) accesses → (b : Bool) → is_write p ≡ b → first_where (may_depend step q) (if b then p ∷ filter is_write accesses else filter is_write accesses) ≡ (if may_depend step q p then Some p else first_where (may_depend step q) accesses)
    by rest true is = ap (λ o. if may_depend step q p then Some p else o) rest
    by rest false is = rest ∙ ap (λ t. if t then Some p else first_where (may_depend step q) accesses) (sym (two_reads step q p second is))

abbrev place_of : Access → AccessAt
place_of a = a.at

none_found : (o : Option Access) → None ≡ option_map place_of o → o ≡ None
none_found None e = refl
none_found (Some a) e = absurd cc

at_none : (o : Option Access) (q : Access) (others : LoopKind) → o ≡ None → behind o q others ≡ others
at_none o q others e = ap (λ x. behind x q others) e

at_some : (o : Option Access) (q : Access) (others : LoopKind) (first : AccessAt) → Some first ≡ option_map place_of o → behind o q others ≡ kind.Plain first q.at
at_some None q others first e = absurd cc
at_some (Some p) q others first e = let same : first ≡ p.at = cc in ap (λ x. kind.Plain x q.at) (sym same)

module _ (step : ℕ) (accesses : List Access) (k : ℕ) (there : k < length accesses) (second : Access) (is : second ≡ get_or accesses k second) (whole : LoopKind) (left : kind_from step (take k accesses) (drop k accesses) ≡ whole) where
  up_to : take (k + 1) accesses ≡ take k accesses ++ second ∷ []
  up_to = take_more accesses k second there ∙ ap (λ x. take k accesses ++ x ∷ []) (sym is)

  next : drop k accesses ≡ second ∷ drop (k + 1) accesses
  next = drop-cons accesses k second there ∙ ap (λ x. x ∷ drop (suc k) accesses) (sym is) ∙ ap (λ n. second ∷ drop n accesses) (sym (add-one k))

  now : behind (first_where (may_depend step second) (take (k + 1) accesses)) second (kind_from step (take (k + 1) accesses) (drop (k + 1) accesses)) ≡ whole
  now = ap (λ l. behind (first_where (may_depend step second) l) second (kind_from step l (drop (k + 1) accesses))) up_to ∙ sym (ap (kind_from step (take k accesses)) next) ∙ left

  pub kind_goes_on : None ≡ option_map place_of (first_where (may_depend step second) (take (k + 1) accesses)) → kind_from step (take (k + 1) accesses) (drop (k + 1) accesses) ≡ whole
  kind_goes_on none = sym (at_none (first_where (may_depend step second) (take (k + 1) accesses)) second (kind_from step (take (k + 1) accesses) (drop (k + 1) accesses)) (none_found (first_where (may_depend step second) (take (k + 1) accesses)) none)) ∙ now

  pub kind_found : (first : AccessAt) → Some first ≡ option_map place_of (first_where (may_depend step second) (take (k + 1) accesses)) → kind.Plain first second.at ≡ whole
  kind_found first some = sym (at_some (first_where (may_depend step second) (take (k + 1) accesses)) second (kind_from step (take (k + 1) accesses) (drop (k + 1) accesses)) first some) ∙ now

pub kind_ends : (step : ℕ) (accesses : List Access) (k : ℕ) → length accesses ≤ k → (whole : LoopKind) → kind_from step (take k accesses) (drop k accesses) ≡ whole → kind.DoAll ≡ whole
kind_ends step accesses k over whole left = sym (ap (kind_from step (take k accesses)) (drop_all k accesses over)) ∙ left

-- the writes so far
filter_append : (xs ys : List Access) → filter is_write (xs ++ ys) ≡ filter is_write xs ++ filter is_write ys
filter_append [] ys = refl
filter_append (x ∷ xs) ys = by (filter_append xs ys) (is_write x)
  where
    by : filter is_write (xs ++ ys) ≡ filter is_write xs ++ filter is_write ys → (b : Bool) → (if b then x ∷ filter is_write (xs ++ ys) else filter is_write (xs ++ ys)) ≡ (if b then x ∷ filter is_write xs else filter is_write xs) ++ filter is_write ys
    by rest true = ap (λ l. x ∷ l) rest
    by rest false = rest

module _ (accesses : List Access) (k : ℕ) (there : k < length accesses) (second : Access) (is : second ≡ get_or accesses k second) (old : List Access) (so_far : old ≡ filter is_write (take k accesses)) where
  pub writes_go_on : (new : List Access) → new ≡ old ++ filter is_write (second ∷ []) → new ≡ filter is_write (take (k + 1) accesses)
  writes_go_on new more =
      more ∙ ap (λ l. l ++ filter is_write (second ∷ [])) so_far ∙ sym (filter_append (take k accesses) (second ∷ []))
      ∙ ap (filter is_write) (ap (λ x. take k accesses ++ x ∷ []) is ∙ sym (take_more accesses k second there))

  -- a read adds none
  pub writes_hold : second.at.write ≡ false → old ≡ filter is_write (take (k + 1) accesses)
  writes_hold read = sym (append-nil old) ∙ writes_go_on (old ++ []) (ap (λ b. old ++ (if b then second ∷ [] else [])) (sym read))
