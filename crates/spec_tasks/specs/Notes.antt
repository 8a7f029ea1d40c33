-- Signatures by what they noted: lists of notes, the newest first, stand for the signatures that are made of them.
use Rattle.std.specs.Prelude.{◌≡◌, ℕ, Bool, true, false, ◌||◌, ◌==◌, IsSome, List, [], ◌∷◌}
use Rattle.settle_law.specs.Claims.{Claims}
use Rattle.spec_machine.specs.Signatures.{Kind, ClashAt, Holds, IsKind}

-- a word that was noted, as read or as written
pub data Note : Type 0 where
  Reads : ℕ → Note
  Writes : ℕ → Note

-- the words noted as read, and those noted as written
abbrev pub is_read : List Note → ℕ → Bool
is_read [] u = false
is_read (Reads w ∷ notes) u = (w == u) || is_read notes u
is_read (Writes w ∷ notes) u = is_read notes u

abbrev pub is_written : List Note → ℕ → Bool
is_written [] u = false
is_written (Reads w ∷ notes) u = is_written notes u
is_written (Writes w ∷ notes) u = (w == u) || is_written notes u

abbrev pub noted_in : List Note → Claims
noted_in notes = record { read = is_read notes; written = is_written notes }

-- the signature that is made of notes
abbrev pub sign_of : {G : Type 0} → Kind G → List Note → G
sign_of kind [] = kind.blank
sign_of kind (Reads w ∷ notes) = kind.with_read w (sign_of kind notes)
sign_of kind (Writes w ∷ notes) = kind.with_written w (sign_of kind notes)

-- the kind whose signatures are the notes themselves
abbrev pub by_notes : {G : Type 0} → Kind G → Kind (List Note)
by_notes kind = record {
  blank = [];
  with_read = λ w notes. Reads w ∷ notes;
  with_written = λ w notes. Writes w ∷ notes;
  overlap = λ notes others. kind.overlap (sign_of kind notes) (sign_of kind others);
}

-- What a kind keeps of whatever its signatures noted, for words that are touched: those that noted a common word overlap,
-- where one of them noted it as written; and where two overlap, so do any two that noted at least the same.
pub record KeepsNotes {G : Type 0} (kind : Kind G) (touched : ℕ → Bool) : Type 0 where
  pub clashing : (notes others : List Note) (w : ℕ) → touched w ≡ true → ClashAt (noted_in notes) (noted_in others) w → IsSome (kind.overlap (sign_of kind notes) (sign_of kind others))
  pub more : (notes others wider wider_others : List Note) → Holds (noted_in wider) (noted_in notes) → Holds (noted_in wider_others) (noted_in others)
      → IsSome (kind.overlap (sign_of kind notes) (sign_of kind others)) → IsSome (kind.overlap (sign_of kind wider) (sign_of kind wider_others))

-- Then the notes keep the law of signatures.
abbrev pub NotesKeepLaw : Type 0 → Type 0
NotesKeepLaw G = (kind : Kind G) (touched : ℕ → Bool) → KeepsNotes kind touched → IsKind (by_notes kind) noted_in touched
