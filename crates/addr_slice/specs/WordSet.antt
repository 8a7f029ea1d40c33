-- Sets of numbers as bits: number n is bit `n % 64` of row `n / 64`.
use Rattle.std.specs.Prelude.{◌≡◌, ◌≢◌, ℕ, ◌*◌, ◌/◌, ◌%◌, ◌<◌, ◌≤◌, Bool, true, false, ◌==◌, nat_lt, List, length, map, slice_index}
use Rattle.std.specs.Int.{bit_at}
use Rattle.std.specs.List.{range_with_len}
use Rattle.addr_slice.specs.Claims.{is_set}

-- whether a bit of a row is set
abbrev pub has_bit : ℕ → ℕ → Bool
has_bit row bit = bit_at row bit == 1

-- whether a number is in the rows
abbrev pub in_rows : List ℕ → ℕ → Bool
in_rows rows n = has_bit (slice_index rows (n / 64)) (n % 64)

-- a flag for each number below `count`
abbrev pub flags_of : ℕ → List ℕ → List Bool
flags_of count rows = map (in_rows rows) (range_with_len 0 count)

-- what it is to put a number into rows
pub record Puts (rows after : List ℕ) (number : ℕ) : Type 0 where
  pub some : 0 < slice_index after (number / 64)
  pub other_rows : (row : ℕ) → row ≢ number / 64 → slice_index after row ≡ slice_index rows row
  pub set_there : in_rows after number ≡ true
  pub others : (k : ℕ) → k ≢ number → in_rows after k ≡ in_rows rows k
  pub as_many : length after ≡ length rows

-- What holds of a set: there is a row for each number below `count`, no number from `count` on is in it, and the summary
-- has a bit for each row, set exactly where the row isn't 0.
pub record IsSummed (count : ℕ) (rows summary : List ℕ) : Type 0 where
  pub few : count ≤ 1048576
  pub few_rows : length rows ≤ 16384
  pub few_bits : length summary ≤ 16384
  pub a_row_each : count ≤ 64 * length rows
  pub a_bit_each : length rows ≤ 64 * length summary
  pub none_behind : (n : ℕ) → count ≤ n → in_rows rows n ≡ false
  pub exact : (row : ℕ) → in_rows summary row ≡ nat_lt 0 (slice_index rows row)

-- The same of a set whose rows that aren't 0 are kept as a set of their own.
pub record IsFilled (count : ℕ) (rows : List ℕ) (filled : List Bool) : Type 0 where
  pub few : count ≤ 1048576
  pub few_rows : length rows ≤ 16384
  pub a_row_each : count ≤ 64 * length rows
  pub as_many : length filled ≡ length rows
  pub none_behind : (n : ℕ) → count ≤ n → in_rows rows n ≡ false
  pub exact : (row : ℕ) → is_set filled row ≡ nat_lt 0 (slice_index rows row)

-- all words from the first to the last are in a set
abbrev pub AreSet : List Bool → ℕ → ℕ → Type 0
AreSet flags first last = (word : ℕ) → first ≤ word → word ≤ last → is_set flags word ≡ true

-- What holds of a set that knows stretches which are in it as a whole: from where one starts, all words up to the next end
-- are in the set.
pub record IsMarked (flags starts ends : List Bool) : Type 0 where
  pub a_start_each : length starts ≡ length flags
  pub an_end_each : length ends ≡ length flags
  pub whole : (first word : ℕ) → is_set starts first ≡ true → first ≤ word → ((k : ℕ) → first ≤ k → k < word → is_set ends k ≡ false) → is_set flags word ≡ true
