-- No caller needs this. The least distance of two rows in which signatures of different workers overlap.
use Rattle.std.specs.Prelude.{◌≡◌, ℕ, ◌+◌, ◌<◌, Bool, true, false, min, Option, Some, None, IsSome, List, slice_get}
use Rattle.range_sign.specs.Overlap.{overlap_of}
use Rattle.nest_profile.specs.declared.row.Row.{Row}

-- an answer to the question whether something is so
abbrev pub Tells : Bool → Type 0 → Type 0
Tells true Holds = Holds
Tells false Holds = Holds → ⊥

-- the bound up to which distances are looked at
abbrev pub bound_by : Option ℕ → ℕ → ℕ
bound_by None count = count
bound_by (Some best) count = min best count

module _ {G : Type 0} (sizes_of : G → List ℕ) (holds : G → ℕ → ℕ → Bool → Bool) where
  -- a signature of some worker but `own` overlaps with this one
  pub record MeetsOther (sign : G) (own : ℕ) (others : List G) : Type 0 where
    pub worker : ℕ
    pub other : G
    pub there : slice_get others worker ≡ Some other
    pub differs : worker ≡ own → ⊥
    pub overlaps : IsSome (overlap_of (sizes_of sign) (holds sign) (holds other))

  abbrev pub MeetsAt : G → ℕ → List G → ℕ → Type 0
  MeetsAt sign own others worker = (m : MeetsOther sign own others) × (m.worker ≡ worker)

  -- signatures of different workers overlap
  pub record Meet (early late : List G) : Type 0 where
    pub worker : ℕ
    pub sign : G
    pub there : slice_get early worker ≡ Some sign
    pub meets : MeetsOther sign worker late

  -- two of the first rows, so far apart, have such signatures
  pub record MeetApart (rows : List (Row G)) (count distance : ℕ) : Type 0 where
    pub epoch : ℕ
    pub early : Row G
    pub late : Row G
    pub early_there : slice_get rows epoch ≡ Some early
    pub late_there : slice_get rows (epoch + distance) ≡ Some late
    pub inside : epoch + distance < count
    pub meet : Meet early.signs.items late.signs.items

  -- the least distance from 1 up to and without a bound
  abbrev pub IsNearest : List (Row G) → (count bound : ℕ) → Option ℕ → Type 0
  IsNearest rows count bound None = (d : ℕ) → 0 < d → d < bound → MeetApart rows count d → ⊥
  IsNearest rows count bound (Some least) = (0 < least) × (least < bound) × MeetApart rows count least × ((d : ℕ) → 0 < d → d < least → MeetApart rows count d → ⊥)
