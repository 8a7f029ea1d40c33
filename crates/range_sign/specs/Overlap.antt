-- Where two signatures overlap. A signature stands here for what it holds, by array, place and kind (`true` is written).
use Rattle.std.specs.Prelude.{ℕ, zero, suc, ◌≡◌, ◌<◌, Bool, true, false, ◌&&◌, ◌||◌, if◌then◌else◌, Option, Some, None, List, length, slice_index}
use Rattle.std.specs.Option.{option_map_or, IsSome}

-- whether some number below another passes a test, and the first that does
abbrev pub any_below : (ℕ → Bool) → ℕ → Bool
any_below passes zero = false
any_below passes (suc n) = any_below passes n || passes n

abbrev pub first_below : (ℕ → Bool) → ℕ → Option ℕ
first_below passes zero = None
first_below passes (suc n) = option_map_or Some (first_below passes n) (if passes n then Some n else None)

-- whether a word that the one holds as written is one that the other holds at all
abbrev pub writes_into : (ℕ → ℕ → Bool → Bool) → (ℕ → ℕ → Bool → Bool) → ℕ → ℕ → Bool
writes_into one other array place = one array place true && (other array place false || other array place true)

-- whether the two conflict at a word: both hold it, and one of them as written
abbrev pub conflict_at : (ℕ → ℕ → Bool → Bool) → (ℕ → ℕ → Bool → Bool) → ℕ → ℕ → Bool
conflict_at one other array place = writes_into one other array place || writes_into other one array place

-- the first array with such a word
abbrev pub overlap_of : List ℕ → (ℕ → ℕ → Bool → Bool) → (ℕ → ℕ → Bool → Bool) → Option ℕ
overlap_of sizes one other = first_below (λ array. any_below (conflict_at one other array) (slice_index sizes array)) (length sizes)

abbrev pub HoldsLess : (ℕ → ℕ → Bool → Bool) → (ℕ → ℕ → Bool → Bool) → Type 0
HoldsLess one more = (array place : ℕ) (write : Bool) → one array place write ≡ true → more array place write ≡ true

-- What follows for any two signatures that hold these words.
pub record IsOverlap (sizes : List ℕ) (one other : ℕ → ℕ → Bool → Bool) : Type 0 where
  pub found : (array place : ℕ) → place < slice_index sizes array → conflict_at one other array place ≡ true → IsSome (overlap_of sizes one other)
  pub kept : (more also : ℕ → ℕ → Bool → Bool) → HoldsLess one more → HoldsLess other also → IsSome (overlap_of sizes one other) → IsSome (overlap_of sizes more also)
  pub there : (array : ℕ) → overlap_of sizes one other ≡ Some array → (array < length sizes) × ((place : ℕ) × (place < slice_index sizes array) × (conflict_at one other array place ≡ true))
  pub first : (array earlier place : ℕ) → overlap_of sizes one other ≡ Some array → earlier < array → place < slice_index sizes earlier → conflict_at one other earlier place ≡ false

abbrev pub OverlapsAreKept : Type 0
OverlapsAreKept = (sizes : List ℕ) (one other : ℕ → ℕ → Bool → Bool) → IsOverlap sizes one other
