-- The numbers of pairs: they are counted from 0 on in their order.
use Rattle.std.specs.Prelude.{ℕ, zero, suc, ◌≡◌, ◌+◌, ◌-◌, ◌*◌, ◌<◌, ◌≤◌, ◌≢◌, ◌↔◌, ◌==◌, nat_lt, if◌then◌else◌, IsTrue}
use Rattle.epoch_plan.specs.Tasks.{task}
use Rattle.spec_checker.specs.Order.{Pair, is_pair_before}

-- a pair of tasks of different workers, of which the early one is of an earlier epoch
pub record IsPair (workers : ℕ) (pair : Pair) : Type 0 where
  pub early : pair.0.worker < workers
  pub late : pair.1.worker < workers
  pub apart : pair.0.worker ≢ pair.1.worker
  pub rising : pair.0.epoch < pair.1.epoch

-- the sum of the numbers below a number, `n * (n - 1) / 2`
abbrev pub triangle : ℕ → ℕ
triangle zero = 0
triangle (suc n) = triangle n + n

-- how many pairs have their late task in one of the first epochs
abbrev pub count : ℕ → ℕ → ℕ
count workers epochs = workers * triangle epochs * (workers - 1)

-- the place of a worker among those that aren't `own`
abbrev pub place_among_others : ℕ → ℕ → ℕ
place_among_others own worker = if nat_lt own worker then worker - 1 else worker

-- the number of a pair: of the late tasks before its own each has as many pairs as earlier epochs times other workers
abbrev pub number : ℕ → Pair → ℕ
number workers pair =
    (workers * triangle pair.1.epoch + pair.1.worker * pair.1.epoch + pair.0.epoch) * (workers - 1) + place_among_others pair.1.worker pair.0.worker

-- the first worker from this one on that isn't `own`
abbrev pub other_from : ℕ → ℕ → ℕ
other_from own worker = if worker == own then worker + 1 else worker

-- the pair behind another one
abbrev pub next_pair : ℕ → Pair → Pair
next_pair workers pair =
    let early = pair.0 in let late = pair.1 in
    if nat_lt (other_from late.worker (early.worker + 1)) workers then (task early.epoch (other_from late.worker (early.worker + 1)), late)
    else if nat_lt (early.epoch + 1) late.epoch then (task (early.epoch + 1) (other_from late.worker 0), late)
    else if nat_lt (late.worker + 1) workers then (task 0 0, task late.epoch (late.worker + 1))
    else (task 0 1, task (late.epoch + 1) 0)

-- the pair with a number
abbrev pub pair_at : ℕ → ℕ → Pair
pair_at workers zero = (task 0 1, task 1 0)
pair_at workers (suc n) = next_pair workers (pair_at workers n)

pub record AreNumbered (workers : ℕ) : Type 0 where
  pub pairs : (n : ℕ) → IsPair workers (pair_at workers n)
  pub numbers : (n : ℕ) → number workers (pair_at workers n) ≡ n
  pub each : (pair : Pair) → IsPair workers pair → pair_at workers (number workers pair) ≡ pair
  pub rising : (first second : Pair) → IsPair workers first → IsPair workers second → IsTrue (is_pair_before first second) ↔ (number workers first < number workers second)
  pub counted : (pair : Pair) (epochs : ℕ) → IsPair workers pair → (pair.1.epoch < epochs) ↔ (number workers pair < count workers epochs)
  pub halves : (n : ℕ) → 2 * triangle n ≡ n * (n - 1)

abbrev pub PairsAreNumbered : Type 0
PairsAreNumbered = (workers : ℕ) → 2 ≤ workers → AreNumbered workers
