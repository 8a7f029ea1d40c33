-- Lemmas on accesses that are out of order, seen as a test and as places of a list.
use Rattle.std.proofs.Common.{◌≡◌, ℕ, suc, ◌+◌, ◌<◌, ◌≤◌, ℤ, Bool, true, false, ◌&&◌, ◌||◌, ◌==◌, nat_lt, Some, None, List, [], ◌∷◌, ◌++◌, length, take, map, get_or, refl, ap, ◌∙◌, sym, subst, arith, ⊎_elim}
use Rattle.std.proofs.lemmas.Bool.{and_parts, eqb-true, eq-eqb, ltb-true, lt-ltb, cases_lt, false≢true}
use Rattle.std.specs.Prelude.{slice_get, cond}
use Rattle.std.specs.List.{position, position_or_len}
use Rattle.std.specs.Option.{option_map}
use Rattle.std.proofs.lemmas.List.{take_more, take-map, get_or-take, length-take-le}
use Rattle.std.proofs.lemmas.List.Quantifiers.{position-Some}
use Rattle.std.proofs.lemmas.List.Sums.{fails_before_first}
use Rattle.std.proofs.lemmas.Option.{slice_get-map, slice_get-get_or, slice_get_within, get_or_from_slice_get}
use Rattle.settle_law.specs.Traces.{Access as Made, iteration, Conflict, Each, InOrder}
use Rattle.settle_law.proofs.Push.{in_order_push}
use Rattle.trace_order.specs.declared.access.Access.{Access}
use Rattle.trace_order.specs.Swaps.{made, traced, Swapped, swapped_with, IsFirstSwap}

-- the test says what it says
both : (m n t u : ℕ) → ((m == n) && (true && nat_lt u t)) ≡ true → (m ≡ n) × (u < t)
both m n t u e = let p = and_parts (m == n) (nat_lt u t) e in (eqb-true m n p.0, ltb-true u t p.1)

from_both : (m n t u : ℕ) → (m ≡ n) × (u < t) → ((m == n) && (true && nat_lt u t)) ≡ true
from_both m n t u h = rw (eq-eqb m n h.0, lt-ltb u t h.1) refl

never : (b : Bool) → (b && false) ≡ true → ⊥
never true e = false≢true e
never false e = false≢true e

swapped_by : (w x : Bool) (m n t u : ℕ) (v y : ℤ) → ((m == n) && ((w || x) && nat_lt u t)) ≡ true → Swapped (made w t m v) (made x u n y)
swapped_by true true m n t u v y e = both m n t u e
swapped_by true false m n t u v y e = both m n t u e
swapped_by false true m n t u v y e = both m n t u e
swapped_by false false m n t u v y e = absurd (never (m == n) e)

by_swapped : (w x : Bool) (m n t u : ℕ) (v y : ℤ) → Swapped (made w t m v) (made x u n y) → ((m == n) && ((w || x) && nat_lt u t)) ≡ true
by_swapped true true m n t u v y s = from_both m n t u s
by_swapped true false m n t u v y s = from_both m n t u s
by_swapped false true m n t u v y s = from_both m n t u s
by_swapped false false m n t u v y s = absurd s.0

pub is_swapped : (a b : Access) → swapped_with b a ≡ true → Swapped (traced a) (traced b)
is_swapped a b e = swapped_by a.write b.write a.word b.word a.task b.task a.value b.value e

pub swapped_is : (a b : Access) → Swapped (traced a) (traced b) → swapped_with b a ≡ true
swapped_is a b s = by_swapped a.write b.write a.word b.word a.task b.task a.value b.value s

pub not_swapped : (a b : Access) → swapped_with b a ≡ false → Swapped (traced a) (traced b) → ⊥
not_swapped a b e s = false≢true (sym e ∙ swapped_is a b s)

-- what holds of each place holds of each access
pub each_from : (P : Made → Type 0) (xs : List Access) (d : Access) → ((k : ℕ) → k < length xs → P (traced (get_or xs k d))) → Each P (map traced xs)
each_from P [] d all = tt
each_from P (x ∷ xs) d all = (all 0 (omega arith), each_from P xs d (λ k below. all (suc k) (omega arith)))

map_push : (xs : List Access) (x : Access) → map traced (xs ++ x ∷ []) ≡ map traced xs ++ traced x ∷ []
map_push [] x = refl
map_push (y ∷ xs) x = ap (λ l. traced y ∷ l) (map_push xs x)

-- one access more, with which no earlier one is swapped
pub in_order_more : (xs : List Access) (x d : Access) → InOrder (map traced xs) → ((k : ℕ) → k < length xs → swapped_with x (get_or xs k d) ≡ false) → InOrder (map traced (xs ++ x ∷ []))
in_order_more xs x d order none =
    subst InOrder (sym (map_push xs x))
    (in_order_push (map traced xs) (traced x) order
    (each_from (λ a. Conflict a (traced x) → iteration a ≤ iteration (traced x)) xs d (λ k below conflict. at_most (get_or xs k d) (none k below) conflict)))
  where
    at_most : (a : Access) → swapped_with x a ≡ false → Conflict (traced a) (traced x) → iteration (traced a) ≤ iteration (traced x)
    at_most a e conflict = ⊎_elim
        (λ (less : iteration (traced x) < iteration (traced a)). absurd (not_swapped a x e (conflict, less)))
        (λ (more : iteration (traced a) ≤ iteration (traced x)). more)
        (cases_lt (iteration (traced x)) (iteration (traced a)))

-- a test that finds no place fails at each
none_at : (p : Access → Bool) (xs : List Access) → position p xs ≡ None → (k : ℕ) (d : Access) → k < length xs → p (get_or xs k d) ≡ false
none_at p xs none k d below = ⊎_elim
    (λ (found : position_or_len p xs < length xs). absurd (let no : Some (position_or_len p xs) ≡ None = sym (ap (λ b. cond b (Some (position_or_len p xs)) None) (lt-ltb (position_or_len p xs) (length xs) found)) ∙ none in cc))
    (λ (past : length xs ≤ position_or_len p xs). fails_before_first p xs k d (omega arith))
    (cases_lt (position_or_len p xs) (length xs))

-- The first access that is swapped with the next one, where all before that are in order, makes the first swapped pair.
pub first_swap : (xs : List Access) (i j : ℕ) (later : Access) → slice_get xs j ≡ Some later → InOrder (map traced (take j xs)) → position (λ a. swapped_with later a) (take j xs) ≡ Some i → IsFirstSwap (map traced xs) i j
first_swap xs i j later there order found =
    let at = position-Some (λ a. swapped_with later a) (take j xs) i later found in
    let inside : j < length xs = slice_get_within xs j later there in
    let short : length (take j xs) ≡ j = length-take-le j xs (omega arith) in
    let below : i < j = omega (arith, at.0) in
    let here : swapped_with later (get_or xs i later) ≡ true = ap (λ a. swapped_with later a) (sym (get_or-take j xs i later below)) ∙ at.1 in
    record {
      first = traced (get_or xs i later);
      second = traced later;
      at_first = slice_get-map traced xs i ∙ ap (option_map traced) (slice_get-get_or xs i later (omega arith));
      at_second = slice_get-map traced xs j ∙ ap (option_map traced) there;
      before = below;
      swapped = is_swapped (get_or xs i later) later here;
      in_order = subst InOrder (sym (take-map traced j xs)) order;
      none_before = subst (Each (λ a. Swapped a (traced later) → ⊥)) (sym (take-map traced i xs))
          (each_from (λ a. Swapped a (traced later) → ⊥) (take i xs) later (λ k lower.
          let before : k < i = omega (arith, lower, length-take-le i xs (omega arith)) in
          let same : get_or (take i xs) k later ≡ get_or (take j xs) k later = get_or-take i xs k later before ∙ sym (get_or-take j xs k later (omega arith)) in
          not_swapped (get_or (take i xs) k later) later (ap (λ a. swapped_with later a) same ∙ at.2 k before)));
    }

-- Where none is, one access more is in order.
pub order_goes_on : (xs : List Access) (j : ℕ) (later : Access) → slice_get xs j ≡ Some later → InOrder (map traced (take j xs)) → position (λ a. swapped_with later a) (take j xs) ≡ None → InOrder (map traced (take (j + 1) xs))
order_goes_on xs j later there order none =
    let inside : j < length xs = slice_get_within xs j later there in
    let more : take (j + 1) xs ≡ take j xs ++ later ∷ [] = take_more xs j later inside ∙ ap (λ a. take j xs ++ a ∷ []) (get_or_from_slice_get xs j later later there) in
    subst (λ l. InOrder (map traced l)) (sym more) (in_order_more (take j xs) later later order (λ k below. none_at (λ a. swapped_with later a) (take j xs) none k later below))
