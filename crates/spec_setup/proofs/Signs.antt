-- A kind of signature keeps what was noted of the words of the arrays.
use Rattle.std.proofs.Common.{◌≡◌, ℕ, suc, ◌+◌, ◌-◌, ◌<◌, ◌≤◌, ◌↔◌, Bool, true, false, ◌||◌, nat_lt, ◌==◌, if◌then◌else◌, IsTrue, List, [], ◌∷◌, length, sum, get_or, refl, sym, ap, ◌∙◌, subst, inl, inr, ⊎_elim, arith}
use Rattle.std.proofs.lemmas.Bool.{ltb-true, ltb-false, lt-ltb, or_left, or_right, or_cases, and_from, eqb-true, eq-eqb, true≢false, false≢true}
use Rattle.std.proofs.lemmas.List.Sums.{sum_by-cons}
use Rattle.settle_law.specs.Claims.{claimed}
use Rattle.range_sign.specs.Noted.{Note as Noted, IsNoted, IsHeld, AreInside, signature}
use Rattle.range_sign.specs.Overlap.{writes_into, conflict_at, HoldsLess}
use Rattle.range_sign.specs.ExactLaws as exact
use Rattle.range_sign.specs.RangeLaws as ranges
use Rattle.range_sign.proofs.Belows.{are_kept}
use Rattle.spec_machine.specs.Signatures.{ClashAt, Holds}
use Rattle.spec_tasks.specs.Notes.{Note, Reads, Writes, is_read, is_written, noted_in, sign_of, KeepsNotes}
use Rattle.spec_setup.specs.Signs.{array_at, place_at, Signs, HoldNotes, with_word_noted, kind_of}
use Rattle.spec_setup.specs.Laws.{SignsHoldNotes}

-- a word below the sum of the sizes is at a place of an array
array_inside : (sizes : List ℕ) (w : ℕ) → w < sum sizes → array_at sizes w < length sizes
array_inside [] w lt = absurd (omega (arith, lt))
array_inside (size ∷ sizes) w lt = by (nat_lt w size) refl (array_inside sizes (w - size))
  where
    by : (b : Bool) → nat_lt w size ≡ b → (w - size < sum sizes → array_at sizes (w - size) < length sizes) → (if b then 0 else suc (array_at sizes (w - size))) < suc (length sizes)
    by true below rest = omega arith
    by false past rest =
        let all : sum (size ∷ sizes) ≡ size + sum sizes = sum_by-cons (λ n. n) size sizes in
        let far : size ≤ w = ltb-false w size past in
        let less : array_at sizes (w - size) < length sizes = rest (omega (arith, all, lt, far)) in
        omega (arith, less)

place_inside : (sizes : List ℕ) (w : ℕ) → w < sum sizes → place_at sizes w < get_or sizes (array_at sizes w) 0
place_inside [] w lt = absurd (omega (arith, lt))
place_inside (size ∷ sizes) w lt = by (nat_lt w size) refl (place_inside sizes (w - size))
  where
    by : (b : Bool) → nat_lt w size ≡ b → (w - size < sum sizes → place_at sizes (w - size) < get_or sizes (array_at sizes (w - size)) 0)
        → (if b then w else place_at sizes (w - size)) < get_or (size ∷ sizes) (if b then 0 else suc (array_at sizes (w - size))) 0
    by true below rest = ltb-true w size below
    by false past rest =
        let all : sum (size ∷ sizes) ≡ size + sum sizes = sum_by-cons (λ n. n) size sizes in
        let far : size ≤ w = ltb-false w size past in
        rest (omega (arith, all, lt, far))

-- what was noted of a word, as written or as read
abbrev is_in : Bool → List Note → ℕ → Bool
is_in true = is_written
is_in false = is_read

-- what is held grows with what was noted
held_more : (exact : Bool) (notes more : List Noted) → ((array place : ℕ) (write : Bool) → IsNoted notes array place write → IsNoted more array place write) → (array place : ℕ) (write : Bool) → IsHeld exact notes array place write → IsHeld exact more array place write
held_more true notes more keeps array place write held = keeps array place write held
held_more false notes more keeps array place write (least, greatest, low, high, from, to) = (least, greatest, keeps array least write low, keeps array greatest write high, from, to)

held_itself : (exact : Bool) (notes : List Noted) (array place : ℕ) (write : Bool) → IsNoted notes array place write → IsHeld exact notes array place write
held_itself true notes array place write noted = noted
held_itself false notes array place write noted = (place, place, noted, noted, omega arith, omega arith)

module _ {S : Type 0} (sizes : List ℕ) (signs : Signs S) (hold : HoldNotes signs) where
  abbrev noted_at : Bool → ℕ → Noted
  noted_at write w = record { array = array_at sizes w; place = place_at sizes w; write = write }

  -- the notes of words, by arrays and places
  abbrev added : Bool → ℕ → List Noted → List Noted
  added write w notes = if nat_lt w (sum sizes) then noted_at write w ∷ notes else notes

  abbrev located : List Note → List Noted
  located [] = []
  located (Reads w ∷ notes) = added false w (located notes)
  located (Writes w ∷ notes) = added true w (located notes)

  abbrev made_of : List Noted → S
  made_of notes = signature (signs.nothing sizes) signs.with_note notes

  abbrev sign : List Note → S
  sign notes = sign_of (kind_of sizes signs) notes

  one_made : (write : Bool) (w : ℕ) (notes : List Noted) → with_word_noted sizes signs write w (made_of notes) ≡ made_of (added write w notes)
  one_made write w notes = by (nat_lt w (sum sizes))
    where
      by : (b : Bool) → (if b then signs.with_note (made_of notes) (array_at sizes w) (place_at sizes w) write else made_of notes) ≡ made_of (if b then noted_at write w ∷ notes else notes)
      by true = refl
      by false = refl

  made : (notes : List Note) → sign notes ≡ made_of (located notes)
  made [] = refl
  made (Reads w ∷ notes) = ap (with_word_noted sizes signs false w) (made notes) ∙ one_made false w (located notes)
  made (Writes w ∷ notes) = ap (with_word_noted sizes signs true w) (made notes) ∙ one_made true w (located notes)

  one_inside : (write : Bool) (w : ℕ) (notes : List Noted) → AreInside sizes notes → AreInside sizes (added write w notes)
  one_inside write w notes inside = by (nat_lt w (sum sizes)) refl
    where
      by : (b : Bool) → nat_lt w (sum sizes) ≡ b → AreInside sizes (if b then noted_at write w ∷ notes else notes)
      by true below = let lt = ltb-true w (sum sizes) below in ((array_inside sizes w lt, place_inside sizes w lt), inside)
      by false past = inside

  inside : (notes : List Note) → AreInside sizes (located notes)
  inside [] = tt
  inside (Reads w ∷ notes) = one_inside false w (located notes) (inside notes)
  inside (Writes w ∷ notes) = one_inside true w (located notes) (inside notes)

  -- a word of the arrays is noted where it is among the notes
  more_noted : (write : Bool) (w : ℕ) (notes : List Noted) (array place : ℕ) (kind : Bool) → IsNoted notes array place kind → IsNoted (added write w notes) array place kind
  more_noted write w notes array place kind noted = by (nat_lt w (sum sizes))
    where
      by : (b : Bool) → IsNoted (if b then noted_at write w ∷ notes else notes) array place kind
      by true = inr noted
      by false = noted

  noted_here : (write : Bool) (v w : ℕ) (notes : List Noted) → w < sum sizes → v ≡ w → IsNoted (added write v notes) (array_at sizes w) (place_at sizes w) write
  noted_here write v w notes lt same = subst (λ u. IsNoted (added write u notes) (array_at sizes w) (place_at sizes w) write) (sym same)
      (subst (λ b. IsNoted (if b then noted_at write w ∷ notes else notes) (array_at sizes w) (place_at sizes w) write) (sym (lt-ltb w (sum sizes) lt)) (inl refl))

  there : (write : Bool) (notes : List Note) (w : ℕ) → w < sum sizes → is_in write notes w ≡ true → IsNoted (located notes) (array_at sizes w) (place_at sizes w) write
  there true [] w lt is = absurd (false≢true is)
  there false [] w lt is = absurd (false≢true is)
  there true (Reads v ∷ notes) w lt is = more_noted false v (located notes) (array_at sizes w) (place_at sizes w) true (there true notes w lt is)
  there false (Reads v ∷ notes) w lt is = ⊎_elim
      (λ here. noted_here false v w (located notes) lt (eqb-true v w here))
      (λ later. more_noted false v (located notes) (array_at sizes w) (place_at sizes w) false (there false notes w lt later))
      (or_cases (v == w) (is_read notes w) is)
  there true (Writes v ∷ notes) w lt is = ⊎_elim
      (λ here. noted_here true v w (located notes) lt (eqb-true v w here))
      (λ later. more_noted true v (located notes) (array_at sizes w) (place_at sizes w) true (there true notes w lt later))
      (or_cases (v == w) (is_written notes w) is)
  there false (Writes v ∷ notes) w lt is = more_noted true v (located notes) (array_at sizes w) (place_at sizes w) false (there false notes w lt is)

  -- and nothing else is
  record Among (write : Bool) (notes : List Note) (array place : ℕ) : Type 0 where
    pub word : ℕ
    pub below : word < sum sizes
    pub among : is_in write notes word ≡ true
    pub array_is : array ≡ array_at sizes word
    pub place_is : place ≡ place_at sizes word

  one_more : (write : Bool) (note : Note) (notes : List Note) (array place : ℕ) → ((w : ℕ) → is_in write notes w ≡ true → is_in write (note ∷ notes) w ≡ true) → Among write notes array place → Among write (note ∷ notes) array place
  one_more write note notes array place keeps is = record { word = is.word; below = is.below; among = keeps is.word is.among; array_is = is.array_is; place_is = is.place_is }

  -- of one note in front: it is this one, or among the others
  in_front : (write kind : Bool) (v : ℕ) (note : Note) (notes : List Note) (rest : List Noted) (array place : ℕ) → IsNoted (added write v rest) array place kind
      → ((kind ≡ write) → is_in kind (note ∷ notes) v ≡ true) → (IsNoted rest array place kind → Among kind (note ∷ notes) array place) → Among kind (note ∷ notes) array place
  in_front write kind v note notes rest array place noted here others = by (nat_lt v (sum sizes)) refl noted
    where
      by : (b : Bool) → nat_lt v (sum sizes) ≡ b → IsNoted (if b then noted_at write v ∷ rest else rest) array place kind → Among kind (note ∷ notes) array place
      by false past noted = others noted
      by true below noted = ⊎_elim
          (λ (is : record { array = array; place = place; write = kind } ≡ noted_at write v). record {
            word = v;
            below = ltb-true v (sum sizes) below;
            among = here (ap (λ (n : Noted). n.write) is);
            array_is = ap (λ (n : Noted). n.array) is;
            place_is = ap (λ (n : Noted). n.place) is;
          })
          others
          noted

  back : (kind : Bool) (notes : List Note) (array place : ℕ) → IsNoted (located notes) array place kind → Among kind notes array place
  back kind [] array place noted = absurd noted
  back true (Reads v ∷ notes) array place noted = in_front false true v (Reads v) notes (located notes) array place noted (λ same. absurd (true≢false same)) (λ later. one_more true (Reads v) notes array place (λ w is. is) (back true notes array place later))
  back false (Reads v ∷ notes) array place noted = in_front false false v (Reads v) notes (located notes) array place noted (λ same. or_left (v == v) (is_read notes v) (eq-eqb v v refl)) (λ later. one_more false (Reads v) notes array place (λ w is. or_right (v == w) (is_read notes w) is) (back false notes array place later))
  back true (Writes v ∷ notes) array place noted = in_front true true v (Writes v) notes (located notes) array place noted (λ same. or_left (v == v) (is_written notes v) (eq-eqb v v refl)) (λ later. one_more true (Writes v) notes array place (λ w is. or_right (v == w) (is_written notes w) is) (back true notes array place later))
  back false (Writes v ∷ notes) array place noted = in_front true false v (Writes v) notes (located notes) array place noted (λ same. absurd (false≢true same)) (λ later. one_more false (Writes v) notes array place (λ w is. is) (back false notes array place later))

  -- what a signature holds of notes
  holds_is : (notes : List Note) (array place : ℕ) (write : Bool) → IsTrue (signs.holds (sign notes) array place write) ↔ IsHeld signs.exact (located notes) array place write
  holds_is notes array place write = subst (λ (s : S). IsTrue (signs.holds s array place write) ↔ IsHeld signs.exact (located notes) array place write) (sym (made notes)) (hold sizes (located notes) (inside notes) array place write)

  holds_word : (write : Bool) (notes : List Note) (w : ℕ) → w < sum sizes → is_in write notes w ≡ true → signs.holds (sign notes) (array_at sizes w) (place_at sizes w) write ≡ true
  holds_word write notes w lt is = (holds_is notes (array_at sizes w) (place_at sizes w) write).1 (held_itself signs.exact (located notes) (array_at sizes w) (place_at sizes w) write (there write notes w lt is))

  in_wider : (write : Bool) (notes wider : List Note) → Holds (noted_in wider) (noted_in notes) → (w : ℕ) → is_in write notes w ≡ true → is_in write wider w ≡ true
  in_wider true notes wider keeps w is = keeps.written w is
  in_wider false notes wider keeps w is = keeps.read w is

  noted_wider : (notes wider : List Note) → Holds (noted_in wider) (noted_in notes) → (array place : ℕ) (write : Bool) → IsNoted (located notes) array place write → IsNoted (located wider) array place write
  noted_wider notes wider keeps array place write noted =
      let is = back write notes array place noted in
      subst (λ a. IsNoted (located wider) a place write) (sym is.array_is) (subst (λ p. IsNoted (located wider) (array_at sizes is.word) p write) (sym is.place_is)
      (there write wider is.word is.below (in_wider write notes wider keeps is.word is.among)))

  holds_less : (notes wider : List Note) → Holds (noted_in wider) (noted_in notes) → HoldsLess (signs.holds (sign notes)) (signs.holds (sign wider))
  holds_less notes wider keeps array place write is =
      (holds_is wider array place write).1 (held_more signs.exact (located notes) (located wider) (noted_wider notes wider keeps) array place write ((holds_is notes array place write).0 is))

  abbrev held : List Note → ℕ → ℕ → Bool → Bool
  held notes = signs.holds (sign notes)

  -- a word that both hold, the first as written
  writes_word : (notes others : List Note) (w : ℕ) → w < sum sizes → is_written notes w ≡ true → claimed (noted_in others) w ≡ true → writes_into (held notes) (held others) (array_at sizes w) (place_at sizes w) ≡ true
  writes_word notes others w lt written some = and_from (held notes (array_at sizes w) (place_at sizes w) true) (held others (array_at sizes w) (place_at sizes w) false || held others (array_at sizes w) (place_at sizes w) true)
      (holds_word true notes w lt written)
      (⊎_elim
      (λ read. or_left (held others (array_at sizes w) (place_at sizes w) false) (held others (array_at sizes w) (place_at sizes w) true) (holds_word false others w lt read))
      (λ write. or_right (held others (array_at sizes w) (place_at sizes w) false) (held others (array_at sizes w) (place_at sizes w) true) (holds_word true others w lt write))
      (or_cases (is_read others w) (is_written others w) some))

  conflicts : (notes others : List Note) (w : ℕ) → w < sum sizes → ClashAt (noted_in notes) (noted_in others) w → conflict_at (held notes) (held others) (array_at sizes w) (place_at sizes w) ≡ true
  conflicts notes others w lt (inl both) = or_left (writes_into (held notes) (held others) (array_at sizes w) (place_at sizes w)) (writes_into (held others) (held notes) (array_at sizes w) (place_at sizes w)) (writes_word notes others w lt both.0 both.1)
  conflicts notes others w lt (inr both) = or_right (writes_into (held notes) (held others) (array_at sizes w) (place_at sizes w)) (writes_into (held others) (held notes) (array_at sizes w) (place_at sizes w)) (writes_word others notes w lt both.1 both.0)

  pub keeps_notes : KeepsNotes (kind_of sizes signs) (λ w. nat_lt w (sum sizes))
  keeps_notes = record {
    clashing = λ notes others w below clash.
        let lt = ltb-true w (sum sizes) below in
        (are_kept sizes (held notes) (held others)).found (array_at sizes w) (place_at sizes w) (place_inside sizes w lt) (conflicts notes others w lt clash);
    more = λ notes others wider wider_others keeps keeps_others some.
        (are_kept sizes (held notes) (held others)).kept (held wider) (held wider_others) (holds_less notes wider keeps) (holds_less others wider_others keeps_others) some;
  }

pub signs_hold : SignsHoldNotes
signs_hold = record { exact = exact.holds_what_is_noted; ranges = ranges.holds_what_is_noted }
