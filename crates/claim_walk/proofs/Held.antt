-- Turns whose accesses are claimed and which take no more steps than a number, on any path that they can take with these
-- `const` words; and what a walk says of that, from the end of the turn to its front.
use Rattle.std.proofs.Common.{◌≡◌, ℕ, suc, ◌+◌, ◌<◌, ◌≤◌, ℤ, Bool, true, false, if◌then◌else◌, Option, None, Result, Ok, Err, List, ◌++◌, length, slice_index_or, length-append, refl, subst, arith}
use Rattle.nest_syntax.specs.declared.names.Line.{Line}
use Rattle.nest_syntax.specs.declared.operators.Cause.{Cause}
use Rattle.nest_syntax.specs.Among.{Each}
use Rattle.nest_syntax.specs.Arrays.{word_number}
use Rattle.nest_syntax.specs.Turn.{Turn, Finished, Trapped, Load, Store, Op, Go, done_with}
use Rattle.nest_syntax.proofs.Inductions.{each_left, each_right}
use Rattle.settle_law.specs.Cuts.{CanBeRead}
use Rattle.settle_law.specs.Claims.{Claims}
use Rattle.claim_walk.specs.Walk.{Step, Passes, Touches, Sweeps, Walk, Goes, Stops, met, behind, meets, operation, nothing}

-- whether a word is claimed for writing (`true`) or for reading
abbrev pub has : Claims → Bool → ℕ → Bool
has claims true w = claims.written w
has claims false w = claims.read w

module _ (sizes : List ℕ) (fixed : ℕ → Option ℤ) (claims : Claims) where
  -- On any path that the turn can take its accesses are claimed, and it has at most n operations and stops before its end.
  abbrev pub Held : Turn → ℕ → Type 0
  Held Finished n = Unit {0}
  Held (Trapped cause line) n = Unit {0}
  Held (Load array place go) n = (m : ℕ) × (suc m ≤ n) × (fixed (word_number sizes array place) ≡ None → claims.read (word_number sizes array place) ≡ true) × ((value : ℤ) → CanBeRead (fixed (word_number sizes array place)) value → Held (go value) m)
  Held (Store array place value rest) n = (m : ℕ) × (suc m ≤ n) × (claims.written (word_number sizes array place) ≡ true) × Held rest m
  Held (Op rest) n = (m : ℕ) × (suc m ≤ n) × Held rest m
  Held (Go rest) n = (m : ℕ) × (suc m ≤ n) × Held rest m

  -- a number that isn't less does too
  pub more : (t : Turn) (n m : ℕ) → n ≤ m → Held t n → Held t m
  more Finished n m le held = tt
  more (Trapped cause line) n m le held = tt
  more (Load array place go) n m le (k, less, claimed, held) = (k, omega (arith, le, less), claimed, held)
  more (Store array place value rest) n m le (k, less, claimed, held) = (k, omega (arith, le, less), claimed, held)
  more (Op rest) n m le (k, less, held) = (k, omega (arith, le, less), held)
  more (Go rest) n m le (k, less, held) = (k, omega (arith, le, less), held)

  -- what a step meets is claimed
  abbrev pub IsClaimed : Step → Type 0
  IsClaimed Passes = Unit {0}
  IsClaimed (Touches array place write) = has claims write (word_number sizes array place) ≡ true
  IsClaimed (Sweeps array write) = (place : ℕ) → place < slice_index_or sizes array 0 → has claims write (word_number sizes array place) ≡ true

  abbrev pub All : List Step → Type 0
  All steps = Each IsClaimed steps

  abbrev pub IsGoing : Walk → Type 0
  IsGoing (Goes steps) = Unit {0}
  IsGoing (Stops steps) = ⊥

  -- What an expression does, of any turns that follow it, where all that its walk meets is claimed: if its turn goes on
  -- with a value that is so, it is held with the steps of the walk on top.
  abbrev pub Follows : Walk → (ℤ → Type 0) → ((ℤ → Turn) → Turn) → Type 0
  Follows w Q does = All (met w) → (go : ℤ → Turn) (m : ℕ) → (IsGoing w → (v : ℤ) → Q v → Held (go v) m) → Held (does go) (length (met w) + m)

  pub all_more : (xs ys : List Step) (m n : ℕ) → length xs + (length ys + m) ≡ n → n ≡ length (xs ++ ys) + m
  all_more xs ys m n e = let both : length (xs ++ ys) ≡ length xs + length ys = length-append xs ys in omega (arith, e, both)

  pub then_follows : (first next : Walk) (P Q : ℤ → Type 0) (does : (ℤ → Turn) → Turn) (rest : ℤ → (ℤ → Turn) → Turn)
      → Follows first P does → (IsGoing first → (v : ℤ) → P v → Follows next Q (rest v)) → Follows (behind first next) Q (λ go. does (λ v. rest v go))
  then_follows (Stops steps) next P Q does rest p q all go m h = p all (λ v. rest v go) m (λ going v holds. absurd going)
  then_follows (Goes steps) (Goes others) P Q does rest p q all go m h =
      subst (Held (does (λ v. rest v go))) (all_more steps others m (length steps + (length others + m)) refl)
      (p (each_left IsClaimed steps others all) (λ v. rest v go) (length others + m) (λ going v holds. q tt v holds (each_right IsClaimed steps others all) go m h))
  then_follows (Goes steps) (Stops others) P Q does rest p q all go m h =
      subst (Held (does (λ v. rest v go))) (all_more steps others m (length steps + (length others + m)) refl)
      (p (each_left IsClaimed steps others all) (λ v. rest v go) (length others + m) (λ going v holds. q tt v holds (each_right IsClaimed steps others all) go m h))

  -- nothing is met, and one step
  pub nothing_follows : (Q : ℤ → Type 0) (v : ℤ) → Q v → Follows nothing Q (λ go. go v)
  nothing_follows Q v holds all go m h = more (go v) m (0 + m) (omega arith) (h tt v holds)

  pub op_follows : (Q : ℤ → Type 0) (v : ℤ) → Q v → Follows (meets Passes) Q (λ go. Op (go v))
  op_follows Q v holds all go m h = (m, omega arith, h tt v holds)

  pub go_follows : (Q : ℤ → Type 0) (v : ℤ) → Q v → Follows (meets Passes) Q (λ go. Go (go v))
  go_follows Q v holds all go m h = (m, omega arith, h tt v holds)

  pub go_before : (w : Walk) (Q : ℤ → Type 0) (does : (ℤ → Turn) → Turn) → Follows w Q does → Follows (behind (meets Passes) w) Q (λ go. Go (does go))
  go_before (Goes steps) Q does p all go m h = (length steps + m, omega arith, p all.1 go m h)
  go_before (Stops steps) Q does p all go m h = (length steps + m, omega arith, p all.1 go m h)

  -- an operation: its result is the one that the walk knows, or the walk knows none
  pub known_operation : (line : Line) (r : Result ℤ Cause) (Q : ℤ → Type 0) → ((v : ℤ) → r ≡ Ok v → Q v) → Follows (operation r) Q (λ go. done_with line r go)
  known_operation line (Ok v) Q holds all go m h = (m, omega arith, h tt v (holds v refl))
  known_operation line (Err cause) Q holds all go m h = tt

  pub any_operation : (line : Line) (r : Result ℤ Cause) (Q : ℤ → Type 0) → ((v : ℤ) → Q v) → Follows (meets Passes) Q (λ go. done_with line r go)
  any_operation line (Ok v) Q holds all go m h = (m, omega arith, h tt v (holds v))
  any_operation line (Err cause) Q holds all go m h = tt

  -- two data branches, of which the turn takes one
  pub branches_follow : (first second : Walk) (Q : ℤ → Type 0) (b : Bool) (one other : (ℤ → Turn) → Turn) → (b ≡ true → Follows first Q one) → (b ≡ false → Follows second Q other)
      → Follows (Goes (met first ++ met second)) Q (λ go. if b then one go else other go)
  branches_follow first second Q true one other p q all go m h =
      more (one go) (length (met first) + m) (length (met first ++ met second) + m) (let both : length (met first ++ met second) ≡ length (met first) + length (met second) = length-append (met first) (met second) in omega (arith, both))
      (p refl (each_left IsClaimed (met first) (met second) all) go m (λ going. h tt))
  branches_follow first second Q false one other p q all go m h =
      more (other go) (length (met second) + m) (length (met first ++ met second) + m) (let both : length (met first ++ met second) ≡ length (met first) + length (met second) = length-append (met first) (met second) in omega (arith, both))
      (q refl (each_right IsClaimed (met first) (met second) all) go m (λ going. h tt))
