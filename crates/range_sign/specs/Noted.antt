-- What a signature noted, and what it holds of that.
use Rattle.std.specs.Prelude.{ℕ, ◌≡◌, ◌<◌, ◌≤◌, ◌↔◌, Bool, true, false, IsTrue, List, [], ◌∷◌, length, slice_index}
use Rattle.nest_syntax.specs.Among.{IsOne, Each}

-- a word that was noted: its array, its place in it, and whether as written or as read
pub record Note : Type 0 where
  pub array : ℕ
  pub place : ℕ
  pub write : Bool

abbrev pub IsNoted : List Note → ℕ → ℕ → Bool → Type 0
IsNoted notes array place write = IsOne notes (record { array = array; place = place; write = write })

-- The set of words read, or of those written, that a signature holds of its notes: the words themselves if it is exact, or
-- else of each array all places from the least to the greatest.
abbrev pub IsHeld : Bool → List Note → ℕ → ℕ → Bool → Type 0
IsHeld true notes array place write = IsNoted notes array place write
IsHeld false notes array place write =
    (least : ℕ) × (greatest : ℕ) × IsNoted notes array least write × IsNoted notes array greatest write × (least ≤ place) × (place ≤ greatest)

-- that all notes are of words of these arrays
abbrev pub AreInside : List ℕ → List Note → Type 0
AreInside sizes notes = Each (λ (note : Note). (note.array < length sizes) × (note.place < slice_index sizes note.array)) notes

-- the signature of notes, the newest first
abbrev pub signature : {S : Type 0} → S → (S → ℕ → ℕ → Bool → S) → List Note → S
signature blank with_note [] = blank
signature blank with_note (note ∷ notes) = with_note (signature blank with_note notes) note.array note.place note.write

-- A signature holds what it noted, and the sizes of its arrays don't change.
abbrev pub HoldsWhatIsNoted : {S : Type 0} → Bool → (S → ℕ → ℕ → Bool → Bool) → (List ℕ → S) → (S → ℕ → ℕ → Bool → S) → Type 0
HoldsWhatIsNoted exact holds nothing with_note =
    (sizes : List ℕ) (notes : List Note) → AreInside sizes notes → (array place : ℕ) (write : Bool)
    → IsTrue (holds (signature (nothing sizes) with_note notes) array place write) ↔ IsHeld exact notes array place write

abbrev pub KeepsSizes : {S : Type 0} → (S → List ℕ) → (List ℕ → S) → (S → ℕ → ℕ → Bool → S) → Type 0
KeepsSizes {S} sizes_of nothing with_note =
    ((sizes : List ℕ) → sizes_of (nothing sizes) ≡ sizes) × ((s : S) (array place : ℕ) (write : Bool) → sizes_of (with_note s array place write) ≡ sizes_of s)
