-- The blocks of an epoch are the shares of the machine.
use Rattle.std.specs.Prelude.{◌≡◌, ℕ, suc, ◌<◌, ◌≤◌}
use Rattle.epoch_plan.specs.declared.blocks.Epoch.{Epoch}
use Rattle.epoch_plan.specs.Blocks.{block}
use Rattle.spec_machine.specs.Machine.{share}

-- Where a worker's share has a turn, its block is that share from its first turn to its last; else its block has none.
pub record IsShare (epoch : Epoch) (index workers worker : ℕ) : Type 0 where
  pub whole : share epoch.all workers index epoch.trips worker < share epoch.all workers index epoch.trips (suc worker)
      → block epoch index worker workers ≡ (share epoch.all workers index epoch.trips worker, share epoch.all workers index epoch.trips (suc worker))
  pub empty : share epoch.all workers index epoch.trips (suc worker) ≤ share epoch.all workers index epoch.trips worker
      → (block epoch index worker workers).1 ≤ (block epoch index worker workers).0

abbrev pub BlocksAreShares : Type 0
BlocksAreShares = (epoch : Epoch) (index workers worker : ℕ) → IsShare epoch index workers worker
