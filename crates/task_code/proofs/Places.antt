-- The place of a name as a position.
use Rattle.std.proofs.Common.{◌≡◌, ℕ, suc, ◌+◌, ◌<◌, Bool, true, false, not, ◌==◌, if◌then◌else◌, Option, Some, None, List, [], ◌∷◌, length, nat_lt, refl, sym, ap, ◌∙◌, subst, arith}
use Rattle.std.specs.Prelude.{IfSome}
use Rattle.std.specs.Option.{option_map}
use Rattle.std.specs.List.{position, position_or_len}
use Rattle.std.proofs.lemmas.Bool.{lt-ltb, le-ltb, ltb-true, ltb-false}
use Rattle.nest_check.specs.Declarations.{index_of_name}

-- the place behind one that is passed
shifted : (b : Bool) (k n : ℕ) → (if nat_lt (if not b then 1 + k else 0) (suc n) then Some (if not b then 1 + k else 0) else None) ≡ (if b then Some 0 else option_map suc (if nat_lt k n then Some k else None))
shifted true k n = ap (λ t. if t then Some 0 else None) (lt-ltb 0 (suc n) (omega arith))
shifted false k n = subst (λ m. (if nat_lt m (suc n) then Some m else None) ≡ option_map suc (if nat_lt k n then Some k else None)) one_more (by (nat_lt k n) refl) where
  one_more : suc k ≡ 1 + k
  one_more = omega arith

  by : (t : Bool) → nat_lt k n ≡ t → (if nat_lt (suc k) (suc n) then Some (suc k) else None) ≡ option_map suc (if nat_lt k n then Some k else None)
  by true e = ap (λ t. if t then Some (suc k) else None) (lt-ltb (suc k) (suc n) (omega (arith, ltb-true k n e))) ∙ ap (λ t. option_map suc (if t then Some k else None)) (sym e)
  by false e = ap (λ t. if t then Some (suc k) else None) (le-ltb (suc k) (suc n) (omega (arith, ltb-false k n e))) ∙ ap (λ t. option_map suc (if t then Some k else None)) (sym e)

pub place_is : (names : List ℕ) (name : ℕ) → position (λ other. other == name) names ≡ index_of_name names name
place_is [] name = refl
place_is (first ∷ names) name = shifted (first == name) (position_or_len (λ other. other == name) names) (length names) ∙ ap (λ p. if first == name then Some 0 else option_map suc p) (place_is names name)

pub place_inside : (names : List ℕ) (name : ℕ) → IfSome (index_of_name names name) (λ place. place < length names)
place_inside [] name = tt
place_inside (first ∷ names) name = by (first == name) (index_of_name names name) (place_inside names name) where
  by : (b : Bool) (p : Option ℕ) → IfSome p (λ place. place < length names) → IfSome (if b then Some 0 else option_map suc p) (λ place. place < length (first ∷ names))
  by true p inside = omega arith
  by false None inside = tt
  by false (Some place) inside = omega (arith, inside)
