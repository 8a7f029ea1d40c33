-- The blocks of an epoch: which of its turns each worker runs.
use Rattle.std.specs.Prelude.{◌≡◌, ℕ, ◌+◌, ◌*◌, ◌/◌, ◌%◌, ◌≤◌, ◌<◌, ◌==◌, if◌then◌else◌}
use Rattle.epoch_plan.specs.declared.blocks.Epoch.{Epoch}

abbrev pub most_trips : ℕ
most_trips = 16777216

abbrev pub most_workers : ℕ
most_workers = 8

-- the turns of a worker, from the first number up to and without the second
abbrev pub block : Epoch → ℕ → ℕ → ℕ → ℕ × ℕ
block epoch index worker workers =
    if epoch.all then (epoch.trips * worker / workers, epoch.trips * (worker + 1) / workers)
    else if index % workers == worker then (0, epoch.trips) else (0, 0)

-- that a turn is one of a worker's
abbrev pub IsTurnOf : Epoch → ℕ → ℕ → ℕ → ℕ → Type 0
IsTurnOf epoch index workers worker turn = let b = block epoch index worker workers in (b.0 ≤ turn) × (turn < b.1)

-- The blocks part the turns of an epoch: each turn is some worker's, and of no two; no other number is a turn; and the
-- turns of a worker come before those of every later one.
pub record ArePartOf (epoch : Epoch) (index workers : ℕ) : Type 0 where
  pub whole : (turn : ℕ) → turn < epoch.trips → (worker : ℕ) × (worker < workers) × IsTurnOf epoch index workers worker turn
  pub inside : (worker turn : ℕ) → worker < workers → IsTurnOf epoch index workers worker turn → turn < epoch.trips
  pub disjoint : (worker other turn : ℕ) → IsTurnOf epoch index workers worker turn → IsTurnOf epoch index workers other turn → worker ≡ other
  pub in_order : (worker later turn after : ℕ) → worker < later → IsTurnOf epoch index workers worker turn → IsTurnOf epoch index workers later after → turn < after

abbrev pub BlocksPartTurns : Type 0
BlocksPartTurns = (epoch : Epoch) (index workers : ℕ) → 0 < workers → ArePartOf epoch index workers
