-- What is found below a number.
use Rattle.std.proofs.Common.{◌≡◌, ℕ, zero, suc, ◌+◌, ◌<◌, ◌≤◌, Bool, true, false, ◌||◌, if◌then◌else◌, Option, Some, None, List, length, get_or, ⊎_elim, refl, ap, sym, subst, ◌∙◌, arith}
use Rattle.std.specs.Option.{option_map_or, IsSome}
use Rattle.std.proofs.lemmas.Bool.{or_cases, or_left, or_right, and_parts, and_from, cases_lt, cases_Bool, true≢false}
use Rattle.std.proofs.lemmas.List.{get_or_past}
use Rattle.range_sign.specs.Overlap.{any_below, first_below, writes_into, conflict_at, overlap_of, HoldsLess, OverlapsAreKept}

pub same_bools : (a b : Bool) → (a ≡ true → b ≡ true) → (b ≡ true → a ≡ true) → a ≡ b
same_bools true true to back = refl
same_bools true false to back = sym (to refl)
same_bools false true to back = back refl
same_bools false false to back = refl

pub any-from : (passes : ℕ → Bool) (n k : ℕ) → k < n → passes k ≡ true → any_below passes n ≡ true
any-from passes zero k h is = absurd (omega (arith, h))
any-from passes (suc n) k h is = ⊎_elim
    (λ (less : k < n). or_left (any_below passes n) (passes n) (any-from passes n k less is))
    (λ (most : n ≤ k). let e : k ≡ n = omega arith in or_right (any_below passes n) (passes n) (ap passes (sym e) ∙ is))
    (cases_lt k n)

pub any-found : (passes : ℕ → Bool) (n : ℕ) → any_below passes n ≡ true → (k : ℕ) × (k < n) × (passes k ≡ true)
any-found passes zero is = absurd (true≢false (sym is))
any-found passes (suc n) is = ⊎_elim
    (λ earlier. let found = any-found passes n earlier in (found.0, omega (arith, found.1), found.2))
    (λ here. (n, omega arith, here))
    (or_cases (any_below passes n) (passes n) is)

pub any-none : (passes : ℕ → Bool) (n : ℕ) → ((k : ℕ) → k < n → passes k ≡ false) → any_below passes n ≡ false
any-none passes n none = ⊎_elim (λ is. let found = any-found passes n is in absurd (true≢false (sym found.2 ∙ none found.0 found.1))) (λ is. is) (cases_Bool (any_below passes n))

pub any-none_at : (passes : ℕ → Bool) (n k : ℕ) → any_below passes n ≡ false → k < n → passes k ≡ false
any-none_at passes n k none h = ⊎_elim (λ is. absurd (true≢false (sym (any-from passes n k h is) ∙ none))) (λ is. is) (cases_Bool (passes k))

-- tests that agree below a number
pub any-alike : (p q : ℕ → Bool) (n : ℕ) → ((k : ℕ) → k < n → p k ≡ q k) → any_below p n ≡ any_below q n
any-alike p q n same = same_bools (any_below p n) (any_below q n)
    (λ is. let found = any-found p n is in any-from q n found.0 found.1 (sym (same found.0 found.1) ∙ found.2))
    (λ is. let found = any-found q n is in any-from p n found.0 found.1 (same found.0 found.1 ∙ found.2))

pub any-either : (p q : ℕ → Bool) (n : ℕ) → (any_below p n || any_below q n) ≡ any_below (λ k. p k || q k) n
any-either p q n = same_bools (any_below p n || any_below q n) (any_below (λ k. p k || q k) n)
    (λ is. ⊎_elim
    (λ one. let found = any-found p n one in any-from (λ k. p k || q k) n found.0 found.1 (or_left (p found.0) (q found.0) found.2))
    (λ two. let found = any-found q n two in any-from (λ k. p k || q k) n found.0 found.1 (or_right (p found.0) (q found.0) found.2))
    (or_cases (any_below p n) (any_below q n) is))
    (λ is. let found = any-found (λ k. p k || q k) n is in ⊎_elim
    (λ one. or_left (any_below p n) (any_below q n) (any-from p n found.0 found.1 one))
    (λ two. or_right (any_below p n) (any_below q n) (any-from q n found.0 found.1 two))
    (or_cases (p found.0) (q found.0) found.2))

-- the first number that passes
pub first-next : (passes : ℕ → Bool) (n : ℕ) → first_below passes n ≡ None → passes n ≡ false → first_below passes (n + 1) ≡ None
first-next passes n none is =
    let next : n + 1 ≡ suc n = omega arith in
    ap (first_below passes) next ∙ ap (λ (o : Option ℕ). option_map_or Some o (if passes n then Some n else None)) none ∙ ap (λ b. if b then Some n else None) is

first-stays : (passes : ℕ → Bool) (n k : ℕ) → first_below passes n ≡ Some k → first_below passes (suc n) ≡ Some k
first-stays passes n k is = ap (λ (o : Option ℕ). option_map_or Some o (if passes n then Some n else None)) is

pub first-here : (passes : ℕ → Bool) (n end : ℕ) → n < end → first_below passes n ≡ None → passes n ≡ true → first_below passes end ≡ Some n
first-here passes n zero h none is = absurd (omega (arith, h))
first-here passes n (suc end) h none is = ⊎_elim
    (λ (less : n < end). first-stays passes end n (first-here passes n end less none is))
    (λ (most : end ≤ n). let e : end ≡ n = omega arith in
    ap (λ k. first_below passes (suc k)) e ∙ ap (λ (o : Option ℕ). option_map_or Some o (if passes n then Some n else None)) none ∙ ap (λ b. if b then Some n else None) is)
    (cases_lt n end)

-- what it tells
abbrev Tells : (ℕ → Bool) → ℕ → Option ℕ → Type 0
Tells passes n None = (k : ℕ) → k < n → passes k ≡ false
Tells passes n (Some first) = (first < n) × (passes first ≡ true) × ((k : ℕ) → k < first → passes k ≡ false)

tells-next : (passes : ℕ → Bool) (n : ℕ) (found : Option ℕ) → Tells passes n found → Tells passes (suc n) (option_map_or Some found (if passes n then Some n else None))
tells-next passes n (Some first) t = (omega (arith, t.0), t.1, t.2)
tells-next passes n None t = by_here (passes n) refl
  where
    by_here : (b : Bool) → passes n ≡ b → Tells passes (suc n) (if b then Some n else None)
    by_here true is = (omega arith, is, t)
    by_here false is = λ k h. ⊎_elim (λ (less : k < n). t k less) (λ (most : n ≤ k). let e : k ≡ n = omega arith in ap passes e ∙ is) (cases_lt k n)

first-tells : (passes : ℕ → Bool) (n : ℕ) → Tells passes n (first_below passes n)
first-tells passes zero = λ k h. absurd (omega (arith, h))
first-tells passes (suc n) = tells-next passes n (first_below passes n) (first-tells passes n)

some-from : (passes : ℕ → Bool) (n k : ℕ) → k < n → passes k ≡ true → IsSome (first_below passes n)
some-from passes n k h is = by_tells (first_below passes n) (first-tells passes n)
  where
    by_tells : (o : Option ℕ) → Tells passes n o → IsSome o
    by_tells None t = absurd (true≢false (sym is ∙ t k h))
    by_tells (Some first) t = refl

some-means : (passes : ℕ → Bool) (n : ℕ) → IsSome (first_below passes n) → (k : ℕ) × (k < n) × (passes k ≡ true)
some-means passes n some = by_tells (first_below passes n) (first-tells passes n) some
  where
    by_tells : (o : Option ℕ) → Tells passes n o → IsSome o → (k : ℕ) × (k < n) × (passes k ≡ true)
    by_tells None t none = absurd (true≢false (sym none))
    by_tells (Some first) t some = (first, t.0, t.1)

writes_into-more : (one other more also : ℕ → ℕ → Bool → Bool) (array place : ℕ) → HoldsLess one more → HoldsLess other also → writes_into one other array place ≡ true → writes_into more also array place ≡ true
writes_into-more one other more also array place less lesser is =
    let both = and_parts (one array place true) (other array place false || other array place true) is in
    and_from (more array place true) (also array place false || also array place true) (less array place true both.0)
    (⊎_elim
    (λ e. or_left (also array place false) (also array place true) (lesser array place false e))
    (λ e. or_right (also array place false) (also array place true) (lesser array place true e))
    (or_cases (other array place false) (other array place true) both.1))

conflict-more : (one other more also : ℕ → ℕ → Bool → Bool) (array place : ℕ) → HoldsLess one more → HoldsLess other also → conflict_at one other array place ≡ true → conflict_at more also array place ≡ true
conflict-more one other more also array place less lesser is = ⊎_elim
    (λ e. or_left (writes_into more also array place) (writes_into also more array place) (writes_into-more one other more also array place less lesser e))
    (λ e. or_right (writes_into more also array place) (writes_into also more array place) (writes_into-more other one also more array place lesser less e))
    (or_cases (writes_into one other array place) (writes_into other one array place) is)

module _ (sizes : List ℕ) (one other : ℕ → ℕ → Bool → Bool) where
  abbrev passes : ℕ → Bool
  passes array = any_below (conflict_at one other array) (get_or sizes array 0)

  there-from : (array place : ℕ) → place < get_or sizes array 0 → array < length sizes
  there-from array place inside = ⊎_elim (λ h. h) (λ past. absurd (omega (arith, inside, get_or_past sizes array 0 past))) (cases_lt array (length sizes))

  told : (array : ℕ) → overlap_of sizes one other ≡ Some array → Tells passes (length sizes) (Some array)
  told array e = subst (λ (o : Option ℕ). Tells passes (length sizes) o) e (first-tells passes (length sizes))

pub are_kept : OverlapsAreKept
are_kept sizes one other = record {
  found = λ array place inside is. some-from (passes sizes one other) (length sizes) array (there-from sizes one other array place inside) (any-from (conflict_at one other array) (get_or sizes array 0) place inside is);
  kept = λ more also less lesser some.
      let found = some-means (passes sizes one other) (length sizes) some in
      let at = any-found (conflict_at one other found.0) (get_or sizes found.0 0) found.2 in
      some-from (passes sizes more also) (length sizes) found.0 found.1 (any-from (conflict_at more also found.0) (get_or sizes found.0 0) at.0 at.1 (conflict-more one other more also found.0 at.0 less lesser at.2));
  there = λ array e. let t = told sizes one other array e in (t.0, any-found (conflict_at one other array) (get_or sizes array 0) t.1);
  first = λ array earlier place e before inside. any-none_at (conflict_at one other earlier) (get_or sizes earlier 0) place ((told sizes one other array e).2 earlier before) inside;
}
