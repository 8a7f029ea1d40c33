-- A kind of signature by the arrays and places that it notes, as a kind by the numbers of words.
use Rattle.std.specs.Prelude.{ℕ, ◌-◌, Bool, true, false, if◌then◌else◌, nat_lt, List, [], ◌∷◌, sum, suc}
use Rattle.range_sign.specs.Noted.{HoldsWhatIsNoted}
use Rattle.range_sign.specs.Overlap.{overlap_of}
use Rattle.range_sign.specs.Exact.{Exact}
use Rattle.range_sign.specs.Exact as exact
use Rattle.range_sign.specs.Ranges.{Ranges}
use Rattle.range_sign.specs.Ranges as ranges
use Rattle.spec_machine.specs.Signatures.{Kind}

-- the array and the place of a word, by its number over all arrays
abbrev pub array_at : List ℕ → ℕ → ℕ
array_at [] w = 0
array_at (size ∷ sizes) w = if nat_lt w size then 0 else suc (array_at sizes (w - size))

abbrev pub place_at : List ℕ → ℕ → ℕ
place_at [] w = w
place_at (size ∷ sizes) w = if nat_lt w size then w else place_at sizes (w - size)

-- What a kind of signature is: whether it holds the very words that it noted, what it holds, a signature of nothing, and
-- one with a note more.
pub record Signs (S : Type 0) : Type 0 where
  pub exact : Bool
  pub holds : S → ℕ → ℕ → Bool → Bool
  pub nothing : List ℕ → S
  pub with_note : S → ℕ → ℕ → Bool → S

abbrev pub HoldNotes : {S : Type 0} → Signs S → Type 0
HoldNotes signs = HoldsWhatIsNoted signs.exact signs.holds signs.nothing signs.with_note

abbrev pub exact_signs : Signs Exact
exact_signs = record { exact = true; holds = exact.holds; nothing = exact.nothing; with_note = exact.with_note }

abbrev pub range_signs : Signs Ranges
range_signs = record { exact = false; holds = ranges.holds; nothing = ranges.nothing; with_note = ranges.with_note }

-- a word is noted where there is one with this number
abbrev pub with_word_noted : {S : Type 0} → List ℕ → Signs S → Bool → ℕ → S → S
with_word_noted sizes signs write w sign = if nat_lt w (sum sizes) then signs.with_note sign (array_at sizes w) (place_at sizes w) write else sign

abbrev pub kind_of : {S : Type 0} → List ℕ → Signs S → Kind S
kind_of sizes signs = record {
  blank = signs.nothing sizes;
  with_read = with_word_noted sizes signs false;
  with_written = with_word_noted sizes signs true;
  overlap = λ sign other. overlap_of sizes (signs.holds sign) (signs.holds other);
}
