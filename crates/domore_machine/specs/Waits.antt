-- The waits of an iteration: on each other worker, for the greatest lower iteration of that worker whose claims clash
-- with its own. Iteration k belongs to worker `k % width`; `clashes j k` tells whether the claims of j and k clash.
use Rattle.std.specs.Prelude.{◌≡◌, ℕ, zero, suc, ◌%◌, ◌<◌, ◌≤◌, Bool, true, ◌&&◌, if◌then◌else◌, ◌==◌, Option, Some, None, List, [], ◌∷◌, ◌++◌}

-- to wait until this worker has finished the iteration with this number
pub record Wait : Type 0 where
  pub worker : ℕ
  pub number : ℕ

-- the greatest number below n that passes a test
abbrev pub greatest : (ℕ → Bool) → ℕ → Option ℕ
greatest passes zero = None
greatest passes (suc n) = if passes n then Some n else greatest passes n

-- what iteration k needs of worker u: the greatest lower iteration of u whose claims clash with those of k
abbrev pub need : (ℕ → ℕ → Bool) → ℕ → ℕ → ℕ → Option ℕ
need clashes width k u = greatest (λ j. (j % width == u) && clashes j k) k

abbrev pub wait_for : ℕ → Option ℕ → List Wait
wait_for u None = []
wait_for u (Some j) = record { worker = u; number = j } ∷ []

-- waits for what is needed of the workers below n but one, in their order
abbrev pub waits_with : (ℕ → Option ℕ) → (own n : ℕ) → List Wait
waits_with need own zero = []
waits_with need own (suc u) = waits_with need own u ++ (if own == u then [] else wait_for u (need u))

-- the waits of iteration k; it waits for none of its own worker
abbrev pub waits_of : (ℕ → ℕ → Bool) → ℕ → ℕ → List Wait
waits_of clashes width k = waits_with (need clashes width k) (k % width) width

-- Iterations of worker u below k whose claims clash with those of k
pub record Clashes (clashes : ℕ → ℕ → Bool) (width k u j : ℕ) : Type 0 where
  pub lower : j < k
  pub own : j % width ≡ u
  pub clash : clashes j k ≡ true

-- the greatest such number, or none where there is none
abbrev pub IsGreatest : (ℕ → ℕ → Bool) → ℕ → ℕ → ℕ → Option ℕ → Type 0
IsGreatest clashes width k u None = (j : ℕ) → Clashes clashes width k u j → ⊥
IsGreatest clashes width k u (Some j) = Clashes clashes width k u j × ((i : ℕ) → Clashes clashes width k u i → i ≤ j)

-- What an iteration needs of a worker is that number.
abbrev pub NeedsAreGreatest : Type 0
NeedsAreGreatest = (clashes : ℕ → ℕ → Bool) (width k u : ℕ) → IsGreatest clashes width k u (need clashes width k u)
