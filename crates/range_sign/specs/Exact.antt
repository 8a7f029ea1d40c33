-- The value of an exact signature.
use Rattle.std.specs.Prelude.{ℕ, ◌≡◌, ◌<◌, ◌≤◌, ◌&&◌, Bool, true, false, nat_lt, List, length, sum, take, replicate, slice_index, slice_set}
use Rattle.nest_syntax.specs.Arrays.{word_number}
use Rattle.word_store.specs.Memory.{most_words}
use Rattle.addr_slice.specs.Claims.{is_set}

-- how many words each array has, and for each word of all arrays whether it was read and whether it was written
pub record Exact : Type 0 where
  pub sizes : List ℕ
  pub reads : List Bool
  pub writes : List Bool

abbrev pub nothing : List ℕ → Exact
nothing sizes = record { sizes = sizes; reads = replicate (sum sizes) false; writes = replicate (sum sizes) false }

abbrev pub flags_of : Exact → Bool → List Bool
flags_of exact true = exact.writes
flags_of exact false = exact.reads

abbrev pub with_note : Exact → ℕ → ℕ → Bool → Exact
with_note exact array place true = record exact { writes = slice_set exact.writes (word_number exact.sizes array place) true }
with_note exact array place false = record exact { reads = slice_set exact.reads (word_number exact.sizes array place) true }

abbrev pub holds : Exact → ℕ → ℕ → Bool → Bool
holds exact array place write = nat_lt place (slice_index exact.sizes array) && is_set (flags_of exact write) (word_number exact.sizes array place)

-- a flag for each word in both sets, and where each array starts
pub record IsLaidOut (exact : Exact) (starts : List ℕ) : Type 0 where
  pub few : length exact.sizes ≤ most_words
  pub few_words : sum exact.sizes ≤ most_words
  pub reads_for_each : length exact.reads ≡ sum exact.sizes
  pub writes_for_each : length exact.writes ≡ sum exact.sizes
  pub start_for_each : length starts ≡ length exact.sizes
  pub start_of : (array : ℕ) → array < length exact.sizes → slice_index starts array ≡ sum (take array exact.sizes)
