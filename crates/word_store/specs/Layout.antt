-- How the words are kept: where each array starts.
use Rattle.std.specs.Prelude.{◌≡◌, ℕ, ◌<◌, List, length, sum, take, slice_index}
use Rattle.word_store.specs.Memory.{Memory, IsSound}

-- each array starts behind the words of those before it
pub record IsLaidOut (memory : Memory) (starts : List ℕ) : Type 0 where
  pub sound : IsSound memory
  pub start_for_each : length starts ≡ length memory.sizes
  pub start_of : (array : ℕ) → array < length memory.sizes → slice_index starts array ≡ sum (take array memory.sizes)
