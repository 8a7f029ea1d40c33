-- The length of the longest history falls, where histories are bounded.
use Rattle.std.proofs.Common.{◌≡◌, ℕ, zero, suc, ◌+◌, ◌<◌, ◌≤◌, Option, None, Some, List, [], ◌∷◌, ◌++◌, length, max, length-append, refl, sym, ap, ◌∙◌, subst, arith, ⊎_elim}
use Rattle.std.proofs.Math.Nat.{le-max_left, le-max_right, max-le}
use Rattle.std.proofs.lemmas.Bool.{cases_lt}
use Rattle.std.specs.Option.{option_map_or, option_and_then}
use Rattle.settle_law.specs.Runs.{run}
use Rattle.nest_tasks.specs.Longest.{greatest_below, longest, BoundedHistoriesFall}

at_most_greatest : (n a : ℕ) (f : ℕ → ℕ) → a < n → f a ≤ greatest_below n f
at_most_greatest zero a f below = absurd (omega arith)
at_most_greatest (suc n) a f below = ⊎_elim
    (λ lower. let first : f a ≤ greatest_below n f = at_most_greatest n a f lower in let second : greatest_below n f ≤ max (greatest_below n f) (f n) = le-max_left (greatest_below n f) (f n) in omega (arith, first, second))
    (λ past. let same : a ≡ n = omega (arith, below, past) in subst (λ k. f k ≤ max (greatest_below n f) (f n)) (sym same) (le-max_right (greatest_below n f) (f n)))
    (cases_lt a n)

greatest_at_most : (n k : ℕ) (f : ℕ → ℕ) → ((a : ℕ) → f a ≤ k) → greatest_below n f ≤ k
greatest_at_most zero k f each = omega arith
greatest_at_most (suc n) k f each = max-le (greatest_at_most n k f each) (each n)

greatest_grows : (n : ℕ) (f g : ℕ → ℕ) → ((a : ℕ) → f a ≤ g a) → greatest_below n f ≤ greatest_below n g
greatest_grows zero f g each = omega arith
greatest_grows (suc n) f g each =
    let first : greatest_below n f ≤ greatest_below n g = greatest_grows n f g each in
    let left : greatest_below n g ≤ max (greatest_below n g) (g n) = le-max_left (greatest_below n g) (g n) in
    let second : f n ≤ g n = each n in
    let right : g n ≤ max (greatest_below n g) (g n) = le-max_right (greatest_below n g) (g n) in
    max-le (omega (arith, first, left)) (omega (arith, second, right))

module _ {S : Type 0} (step : S → ℕ → Option S) (actors : ℕ) where
  run_both : (first second : List ℕ) (s t : S) → run step s first ≡ Some t → run step s (first ++ second) ≡ run step t second
  run_both [] second s t e = let same : s ≡ t = cc in ap (λ x. run step x second) same
  run_both (a ∷ first) second s t e = go (step s a) e (λ x. run_both first second x t)
    where
      go : (o : Option S) → option_and_then (λ x. run step x first) o ≡ Some t → ((x : S) → run step x first ≡ Some t → run step x (first ++ second) ≡ run step t second)
          → option_and_then (λ x. run step x (first ++ second)) o ≡ run step t second
      go None e later = absurd (let none : None ≡ Some t = e in cc)
      go (Some x) e later = later x e

  -- a step of an actor, and then the longest history from there
  abbrev through : ℕ → Option S → ℕ
  through most o = option_map_or (λ t. suc (longest step actors most t)) o 0

  within : (most : ℕ) (s : S) → longest step actors most s ≤ most
  within zero s = omega arith
  within (suc most) s = greatest_at_most actors (suc most) (λ a. through most (step s a)) (λ a. go (step s a) (λ t. within most t))
    where
      go : (o : Option S) → ((t : S) → longest step actors most t ≤ most) → through most o ≤ suc most
      go None each = omega arith
      go (Some t) each = let less : longest step actors most t ≤ most = each t in omega (arith, less)

  -- histories from a state are no longer than this
  abbrev Bounded : ℕ → S → Type 0
  Bounded most s = (history : List ℕ) (t : S) → run step s history ≡ Some t → length history ≤ most

  abbrev behind : List ℕ → Option S → Option S
  behind history o = option_and_then (λ x. run step x history) o

  bounded_behind : (most : ℕ) (s t : S) (a : ℕ) → step s a ≡ Some t → Bounded (suc most) s → Bounded most t
  bounded_behind most s t a is bounded history u e = let less : suc (length history) ≤ suc most = bounded (a ∷ history) u (ap (behind history) is ∙ e) in omega (arith, less)

  -- where histories are bounded, a longer bound finds none that is longer
  steady : (most : ℕ) (s : S) → Bounded most s → longest step actors (suc most) s ≤ longest step actors most s
  steady zero s bounded = greatest_at_most actors 0 (λ a. through 0 (step s a)) (λ a. go a (step s a) refl)
    where
      go : (a : ℕ) (o : Option S) → step s a ≡ o → through 0 o ≤ 0
      go a None is = omega arith
      go a (Some t) is = absurd (let none : 1 ≤ 0 = bounded (a ∷ []) t (ap (behind []) is) in omega (arith, none))
  steady (suc most) s bounded = greatest_grows actors (λ a. through (suc most) (step s a)) (λ a. through most (step s a)) (λ a. go a (step s a) refl (λ t is. steady most t (bounded_behind most s t a is bounded)))
    where
      go : (a : ℕ) (o : Option S) → step s a ≡ o → ((t : S) → step s a ≡ Some t → longest step actors (suc most) t ≤ longest step actors most t) → through (suc most) o ≤ through most o
      go a None is later = omega arith
      go a (Some t) is later = let less : longest step actors (suc most) t ≤ longest step actors most t = later t is in omega (arith, less)

  step_falls : (most : ℕ) (s t : S) (a : ℕ) → a < actors → step s a ≡ Some t → Bounded most s → longest step actors most t + 1 ≤ longest step actors most s
  step_falls zero s t a below is bounded = absurd (let none : 1 ≤ 0 = bounded (a ∷ []) t (ap (behind []) is) in omega (arith, none))
  step_falls (suc most) s t a below is bounded =
      let less : longest step actors (suc most) t ≤ longest step actors most t = steady most t (bounded_behind most s t a is bounded) in
      let there : through most (step s a) ≤ longest step actors (suc most) s = at_most_greatest actors a (λ b. through most (step s b)) below in
      let more : suc (longest step actors most t) ≤ longest step actors (suc most) s = subst (λ o. through most o ≤ longest step actors (suc most) s) is there in
      omega (arith, less, more)

pub bounded_falls : (S : Type 0) → BoundedHistoriesFall S
bounded_falls S step actors most opening few others = record { falls = λ history s t actor led is. falls history s t actor led is; within = within step actors most }
  where
    below : (history : List ℕ) (s t : S) (actor : ℕ) → run step opening history ≡ Some s → step s actor ≡ Some t → actor < actors
    below history s t actor led is = ⊎_elim (λ lower. lower) (λ past. absurd (let none : None ≡ Some t = sym (others history s actor led past) ∙ is in cc)) (cases_lt actor actors)

    rest : (history : List ℕ) (s : S) → run step opening history ≡ Some s → Bounded step actors most s
    rest history s led more t e =
        let all : length (history ++ more) ≤ most = few (history ++ more) t (run_both step actors history more opening s led ∙ e) in
        let both : length (history ++ more) ≡ length history + length more = length-append history more in
        omega (arith, all, both)

    falls : (history : List ℕ) (s t : S) (actor : ℕ) → run step opening history ≡ Some s → step s actor ≡ Some t → longest step actors most t + 1 ≤ longest step actors most s
    falls history s t actor led is = step_falls step actors most s t actor (below history s t actor led is) is (rest history s led)
