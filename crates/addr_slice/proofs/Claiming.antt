-- The claims of a set that steps were put into are those of the steps.
use Rattle.std.proofs.Common.{ℕ, zero, suc, ◌+◌, ◌-◌, ◌^◌, ◌<◌, ◌≤◌, Bool, true, false, ◌&&◌, ◌||◌, ◌==◌, nat_le, nat_lt, min, List, [], ◌∷◌, set, length, sum, ◌≡◌, ◌⊎◌, inl, inr, slice_index_or, ⊎_elim, refl, ap, sym, ◌∙◌, subst, arith}
use Rattle.std.proofs.Math.Nat.{min-eq_left, min-eq_right, min-le_right}
use Rattle.std.proofs.lemmas.Bool.{and_from, cases_eq, cases_lt, eq-eqb, le-leb, lt-ltb, ne_eqb}
use Rattle.std.proofs.lemmas.List.{get_or-set_same, get_or-set_other, length-replicate, length-set, ext_get_or}
use Rattle.std.proofs.lemmas.List.FromFn.{length-map-range_with_len}
use Rattle.nest_syntax.specs.Arrays.{word_number}
use Rattle.claim_walk.specs.Walk.{Step, Passes, Touches, Sweeps, same_kind, claims_word, is_claimed}
use Rattle.addr_slice.specs.Claims.{Claimed, has, is_set, words_of, no_claims, with_claim, with_stretch, IsEven}
use Rattle.addr_slice.specs.Slice.{flags_met, claims_of_steps}
use Rattle.addr_slice.specs.Met.{with_step, with_steps, one_more, with_cost}
use Rattle.addr_slice.proofs.Held.{even_still, as_many}
use Rattle.addr_slice.proofs.Flags.{flag_at}
use Rattle.addr_slice.proofs.Sets.{is_set-within, none_set}

set_has : (flags : List Bool) (n k : ℕ) → k < length flags → is_set (set flags n true) k ≡ ((k == n) || is_set flags k)
set_has flags n k there = ⊎_elim
    (λ (e : k ≡ n). ap (is_set (set flags n true)) e ∙ get_or-set_same flags n true false (omega (arith, e, there)) ∙ sym (ap (λ b. b || is_set flags k) (eq-eqb k n e)))
    (λ (apart : k ≡ n → ⊥). get_or-set_other flags n k true false apart ∙ sym (ap (λ b. b || is_set flags k) (ne_eqb k n apart)))
    (cases_eq k n)

pub claim_has : (claims : Claimed) (n : ℕ) (kind : Bool) (w : ℕ) (write : Bool) → IsEven claims → w < words_of claims → has (with_claim claims n kind) w write ≡ ((same_kind kind write && (w == n)) || has claims w write)
claim_has claims n true w true even there = set_has claims.writes n w (omega (arith, even, there))
claim_has claims n true w false even there = refl
claim_has claims n false w true even there = refl
claim_has claims n false w false even there = set_has claims.reads n w there

-- a stretch
stretch_even : (claims : Claimed) (first n : ℕ) (kind : Bool) → IsEven claims → IsEven (with_stretch claims first n kind)
stretch_even claims first zero kind even = even
stretch_even claims first (suc n) kind even = even_still (with_stretch claims first n kind) (first + n) kind (stretch_even claims first n kind even)

pub stretch_room : (claims : Claimed) (first n : ℕ) (kind : Bool) → words_of (with_stretch claims first n kind) ≡ words_of claims
stretch_room claims first zero kind = refl
stretch_room claims first (suc n) kind = as_many (with_stretch claims first n kind) (first + n) kind ∙ stretch_room claims first n kind

abbrev in_stretch : ℕ → ℕ → ℕ → Bool
in_stretch first n w = nat_le first w && nat_lt w (first + n)

no_stretch : (first w : ℕ) → in_stretch first 0 w ≡ false
no_stretch first w = grind arith

more_stretch : (first n w : ℕ) → ((w == first + n) || in_stretch first n w) ≡ in_stretch first (suc n) w
more_stretch first n w = grind arith

by_kind : (same here before all old : Bool) → (here || before) ≡ all → ((same && here) || ((same && before) || old)) ≡ ((same && all) || old)
by_kind true true before all old is = ap (λ b. b || old) is
by_kind true false before all old is = ap (λ b. b || old) is
by_kind false here before all old is = refl

pub stretch_has : (claims : Claimed) (first n : ℕ) (kind : Bool) (w : ℕ) (write : Bool) → IsEven claims → w < words_of claims → has (with_stretch claims first n kind) w write ≡ ((same_kind kind write && in_stretch first n w) || has claims w write)
stretch_has claims first zero kind w write even there = sym (none (same_kind kind write)) ∙ ap (λ b. (same_kind kind write && b) || has claims w write) (sym (no_stretch first w))
  where
    none : (b : Bool) → ((b && false) || has claims w write) ≡ has claims w write
    none true = refl
    none false = refl
stretch_has claims first (suc n) kind w write even there =
    let before = with_stretch claims first n kind in
    claim_has before (first + n) kind w write (stretch_even claims first n kind even) (subst (λ k. w < k) (sym (stretch_room claims first n kind)) there)
    ∙ ap (λ b. (same_kind kind write && (w == first + n)) || b) (stretch_has claims first n kind w write even there)
    ∙ by_kind (same_kind kind write) (w == first + n) (in_stretch first n w) (in_stretch first (suc n) w) (has claims w write) (more_stretch first n w)

-- behind a stretch all its words are claimed
pub stretch_claimed : (claims : Claimed) (first n : ℕ) (kind : Bool) → IsEven claims → first + n ≤ words_of claims → (word : ℕ) → first ≤ word → word < first + n → has (with_stretch claims first n kind) word kind ≡ true
stretch_claimed claims first n kind even room word from below =
    stretch_has claims first n kind word kind even (omega (arith, room, below))
    ∙ ap (λ b. (b && in_stretch first n word) || has claims word kind) (same kind)
    ∙ ap (λ b. b || has claims word kind) (and_from (nat_le first word) (nat_lt word (first + n)) (le-leb first word from) (lt-ltb word (first + n) below))
  where
    same : (kind : Bool) → same_kind kind kind ≡ true
    same true = refl
    same false = refl

-- a stretch of which all words are claimed adds nothing
set_again : (flags : List Bool) (n : ℕ) → is_set flags n ≡ true → set flags n true ≡ flags
set_again flags n is = ext_get_or false (set flags n true) flags (length-set flags n true) (λ k there. ⊎_elim
    (λ (e : k ≡ n). ap (is_set (set flags n true)) e ∙ get_or-set_same flags n true false (is_set-within flags n is) ∙ sym (ap (is_set flags) e ∙ is))
    (λ (apart : k ≡ n → ⊥). get_or-set_other flags n k true false apart)
    (cases_eq k n))

claim_again : (claims : Claimed) (n : ℕ) (kind : Bool) → has claims n kind ≡ true → with_claim claims n kind ≡ claims
claim_again claims n true is = λ i. record { reads = claims.reads; writes = set_again claims.writes n is i }
claim_again claims n false is = λ i. record { reads = set_again claims.reads n is i; writes = claims.writes }

pub stretch_again : (claims : Claimed) (first n : ℕ) (kind : Bool) → ((word : ℕ) → first ≤ word → word < first + n → has claims word kind ≡ true) → with_stretch claims first n kind ≡ claims
stretch_again claims first zero kind all = refl
stretch_again claims first (suc n) kind all =
    ap (λ c. with_claim c (first + n) kind) (stretch_again claims first n kind (λ word from below. all word from (omega (arith, below)))) ∙ claim_again claims (first + n) kind (all (first + n) (omega arith) (omega arith))

-- steps
module _ (sizes : List ℕ) where
  step_even : (claims : Claimed) (step : Step) → IsEven claims → IsEven (with_step sizes claims step)
  step_even claims Passes even = even
  step_even claims (Touches array place kind) even = even_still claims (word_number sizes array place) kind even
  step_even claims (Sweeps array kind) even = stretch_even claims (word_number sizes array 0) (slice_index_or sizes array 0) kind even

  pub steps_even : (claims : Claimed) (steps : List Step) → IsEven claims → IsEven (with_steps sizes claims steps)
  steps_even claims [] even = even
  steps_even claims (step ∷ steps) even = steps_even (with_step sizes claims step) steps (step_even claims step even)

  step_room : (claims : Claimed) (step : Step) → words_of (with_step sizes claims step) ≡ words_of claims
  step_room claims Passes = refl
  step_room claims (Touches array place kind) = as_many claims (word_number sizes array place) kind
  step_room claims (Sweeps array kind) = stretch_room claims (word_number sizes array 0) (slice_index_or sizes array 0) kind

  whole_array : (array : ℕ) → word_number sizes array 0 + slice_index_or sizes array 0 ≡ word_number sizes array (slice_index_or sizes array 0)
  whole_array array = omega arith

  step_has : (claims : Claimed) (step : Step) (w : ℕ) (write : Bool) → IsEven claims → w < words_of claims → has (with_step sizes claims step) w write ≡ (claims_word sizes step write w || has claims w write)
  step_has claims Passes w write even there = refl
  step_has claims (Touches array place kind) w write even there = claim_has claims (word_number sizes array place) kind w write even there
  step_has claims (Sweeps array kind) w write even there = stretch_has claims (word_number sizes array 0) (slice_index_or sizes array 0) kind w write even there
      ∙ ap (λ end. (same_kind kind write && (nat_le (word_number sizes array 0) w && nat_lt w end)) || has claims w write) (whole_array array)

  or_swap : (a b c : Bool) → (a || (b || c)) ≡ ((b || a) || c)
  or_swap true true c = refl
  or_swap true false c = refl
  or_swap false true c = refl
  or_swap false false c = refl

  pub steps_have : (claims : Claimed) (steps : List Step) (w : ℕ) (write : Bool) → IsEven claims → w < words_of claims → has (with_steps sizes claims steps) w write ≡ (is_claimed sizes steps write w || has claims w write)
  steps_have claims [] w write even there = refl
  steps_have claims (step ∷ steps) w write even there =
      steps_have (with_step sizes claims step) steps w write (step_even claims step even) (subst (λ k. w < k) (sym (step_room claims step)) there)
      ∙ ap (λ b. is_claimed sizes steps write w || b) (step_has claims step w write even there)
      ∙ or_swap (is_claimed sizes steps write w) (claims_word sizes step write w) (has claims w write)

  pub steps_room : (claims : Claimed) (steps : List Step) → words_of (with_steps sizes claims steps) ≡ words_of claims
  steps_room claims [] = refl
  steps_room claims (step ∷ steps) = steps_room (with_step sizes claims step) steps ∙ step_room claims step

none_has : (n w : ℕ) (write : Bool) → has (no_claims n) w write ≡ false
none_has n w true = none_set n w
none_has n w false = none_set n w

none_even : (n : ℕ) → IsEven (no_claims n)
none_even n = refl

pub only_steps : (sizes : List ℕ) (n : ℕ) (steps : List Step) (w : ℕ) (write : Bool) → w < n → has (with_steps sizes (no_claims n) steps) w write ≡ is_claimed sizes steps write w
only_steps sizes n steps w write there =
    steps_have sizes (no_claims n) steps w write (none_even n) (omega (arith, length-replicate n false, there))
    ∙ ap (λ b. is_claimed sizes steps write w || b) (none_has n w write) ∙ or_false (is_claimed sizes steps write w)
  where
    or_false : (b : Bool) → (b || false) ≡ b
    or_false true = refl
    or_false false = refl

-- Steps that are put into no claims give the claims of the steps.
module _ (sizes : List ℕ) (n : ℕ) (steps : List Step) (room : n ≡ sum sizes) where
  abbrev put : Claimed
  put = with_steps sizes (no_claims n) steps

  many_reads : length put.reads ≡ n
  many_reads = steps_room sizes (no_claims n) steps ∙ length-replicate n false

  many_writes : length put.writes ≡ n
  many_writes = steps_even sizes (no_claims n) steps (none_even n) ∙ many_reads

  many_flags : (write : Bool) → length (flags_met sizes steps write) ≡ n
  many_flags write = length-map-range_with_len (is_claimed sizes steps write) 0 (sum sizes) ∙ sym room

  same_reads : put.reads ≡ flags_met sizes steps false
  same_reads = ext_get_or false put.reads (flags_met sizes steps false) (many_reads ∙ sym (many_flags false))
      (λ w there. let below : w < n = omega (arith, there, many_reads) in only_steps sizes n steps w false below ∙ sym (flag_at sizes steps false w (omega (arith, below, room))))

  same_writes : put.writes ≡ flags_met sizes steps true
  same_writes = ext_get_or false put.writes (flags_met sizes steps true) (many_writes ∙ sym (many_flags true))
      (λ w there. let below : w < n = omega (arith, there, many_writes) in only_steps sizes n steps w true below ∙ sym (flag_at sizes steps true w (omega (arith, below, room))))

  pub steps_are_claims : put ≡ claims_of_steps sizes steps
  steps_are_claims = λ i. record { reads = same_reads i; writes = same_writes i }

-- the cost of steps, which stops growing at 2^64 - 1
pub cost_of_steps : (n : ℕ) (steps : List Step) → n ≤ 2 ^ 64 - 1 → with_cost n steps ≡ min (n + length steps) (2 ^ 64 - 1)
cost_of_steps n [] few = sym (min-eq_left (omega (arith, few)) ∙ add_none n)
  where
    add_none : (n : ℕ) → n + 0 ≡ n
    add_none n = omega arith
cost_of_steps n (s ∷ steps) few = cost_of_steps (one_more n) steps (min-le_right (n + 1) (2 ^ 64 - 1)) ∙ by (cases_lt n (2 ^ 64 - 1))
  where
    by : (n < 2 ^ 64 - 1) ⊎ (2 ^ 64 - 1 ≤ n) → min (one_more n + length steps) (2 ^ 64 - 1) ≡ min (n + suc (length steps)) (2 ^ 64 - 1)
    by (inl less) = ap (λ k. min k (2 ^ 64 - 1)) (let one : one_more n ≡ n + 1 = min-eq_left (omega (arith, less)) in omega (arith, one))
    by (inr more) = let most : one_more n ≡ 2 ^ 64 - 1 = min-eq_right (omega (arith, more)) in
        min-eq_right (omega (arith, most)) ∙ sym (min-eq_right (omega (arith, more)))
