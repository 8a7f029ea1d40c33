-- An exact signature holds the words that it noted.
use Rattle.std.proofs.Common.{◌≡◌, ◌≢◌, ℕ, ◌<◌, ◌↔◌, Bool, true, false, ◌&&◌, nat_lt, IsTrue, List, [], ◌∷◌, length, sum, get_or, replicate, ◌⊎◌, inl, inr, ⊎_elim, refl, ap, sym, subst, ◌∙◌, arith}
use Rattle.std.proofs.lemmas.Bool.{and_parts, and_from, cases_lt, cases_eq, ltb-true, lt-ltb, true≢false}
use Rattle.std.proofs.lemmas.List.{get_or_past, get_or-set_same, get_or-set_other, get_or-replicate, length-replicate, length-set}
use Rattle.nest_syntax.specs.Arrays.{word_number}
use Rattle.nest_syntax.proofs.Places.{word_number-lt, word_number-same}
use Rattle.addr_slice.specs.Claims.{is_set}
use Rattle.range_sign.specs.Noted.{Note, IsNoted, AreInside, signature, HoldsWhatIsNoted, KeepsSizes}
use Rattle.range_sign.specs.Exact.{Exact, nothing, flags_of, with_note, holds}

abbrev signature_of : List ℕ → List Note → Exact
signature_of sizes notes = signature (nothing sizes) with_note notes

sizes-noted : (exact : Exact) (array place : ℕ) (write : Bool) → (with_note exact array place write).sizes ≡ exact.sizes
sizes-noted exact array place true = refl
sizes-noted exact array place false = refl

pub keeps_sizes : KeepsSizes (λ (exact : Exact). exact.sizes) nothing with_note
keeps_sizes = (λ sizes. refl, sizes-noted)

sizes-kept : (sizes : List ℕ) (notes : List Note) → (signature_of sizes notes).sizes ≡ sizes
sizes-kept sizes [] = refl
sizes-kept sizes (note ∷ notes) = sizes-noted (signature_of sizes notes) note.array note.place note.write ∙ sizes-kept sizes notes

length-noted : (exact : Exact) (array place : ℕ) (write kind : Bool) → length (flags_of (with_note exact array place write) kind) ≡ length (flags_of exact kind)
length-noted exact array place true true = length-set exact.writes (word_number exact.sizes array place) true
length-noted exact array place true false = refl
length-noted exact array place false true = refl
length-noted exact array place false false = length-set exact.reads (word_number exact.sizes array place) true

length-flags : (sizes : List ℕ) (notes : List Note) (kind : Bool) → length (flags_of (signature_of sizes notes) kind) ≡ sum sizes
length-flags sizes [] true = length-replicate (sum sizes) false
length-flags sizes [] false = length-replicate (sum sizes) false
length-flags sizes (note ∷ notes) kind = length-noted (signature_of sizes notes) note.array note.place note.write kind ∙ length-flags sizes notes kind

none-set : (n k : ℕ) → is_set (replicate n false) k ≡ false
none-set n k = ⊎_elim (get_or-replicate n k false false) (λ past. get_or_past (replicate n false) k false (omega (arith, length-replicate n false))) (cases_lt k n)

none-flag : (sizes : List ℕ) (write : Bool) (k : ℕ) → is_set (flags_of (nothing sizes) write) k ≡ false
none-flag sizes true k = none-set (sum sizes) k
none-flag sizes false k = none-set (sum sizes) k

-- a flag after one note: it was set before, or the note is of its word
flag-of_other : (exact : Exact) (array place : ℕ) (write kind : Bool) (k : ℕ) → ((kind ≡ write) → k ≢ word_number exact.sizes array place) → is_set (flags_of (with_note exact array place write) kind) k ≡ is_set (flags_of exact kind) k
flag-of_other exact array place true true k apart = get_or-set_other exact.writes (word_number exact.sizes array place) k true false (apart refl)
flag-of_other exact array place true false k apart = refl
flag-of_other exact array place false true k apart = refl
flag-of_other exact array place false false k apart = get_or-set_other exact.reads (word_number exact.sizes array place) k true false (apart refl)

flag-of_same : (exact : Exact) (array place : ℕ) (write : Bool) → word_number exact.sizes array place < length (flags_of exact write) → is_set (flags_of (with_note exact array place write) write) (word_number exact.sizes array place) ≡ true
flag-of_same exact array place true h = get_or-set_same exact.writes (word_number exact.sizes array place) true false h
flag-of_same exact array place false h = get_or-set_same exact.reads (word_number exact.sizes array place) true false h

same_kind : (kind write : Bool) → (kind ≡ write) ⊎ (kind ≢ write)
same_kind true true = inl refl
same_kind true false = inr (λ e. true≢false e)
same_kind false true = inr (λ e. true≢false (sym e))
same_kind false false = inl refl

module _ (sizes : List ℕ) where
  -- what the flags say
  abbrev Says : List Note → Type 0
  Says notes = (array place : ℕ) (write : Bool) → array < length sizes → place < get_or sizes array 0 → IsTrue (is_set (flags_of (signature_of sizes notes) write) (word_number sizes array place)) ↔ IsNoted notes array place write

  says-more : (note : Note) (notes : List Note) → note.array < length sizes → note.place < get_or sizes note.array 0 → Says notes → Says (note ∷ notes)
  says-more note notes there inside says array place write there' inside' =
      let s = signature_of sizes notes in
      let kept : s.sizes ≡ sizes = sizes-kept sizes notes in
      let number : word_number s.sizes note.array note.place ≡ word_number sizes note.array note.place = ap (λ (ss : List ℕ). word_number ss note.array note.place) kept in
      let flags = flags_of (with_note s note.array note.place note.write) write in
      let other : ((write ≡ note.write) → word_number sizes array place ≢ word_number s.sizes note.array note.place) → IsTrue (is_set flags (word_number sizes array place)) ↔ IsNoted (note ∷ notes) array place write = λ apart.
      let same = flag-of_other s note.array note.place note.write write (word_number sizes array place) apart in (
        λ is. inr ((says array place write there' inside').0 (sym same ∙ is)),
        λ noted. ⊎_elim
            (λ (e : record { array = array; place = place; write = write } ≡ note). absurd (apart (ap (λ (n : Note). n.write) e) (ap (λ (n : Note). word_number sizes n.array n.place) e ∙ sym number)))
            (λ earlier. same ∙ (says array place write there' inside').1 earlier)
            noted,
      ) in
      ⊎_elim
      (λ (kind : write ≡ note.write). ⊎_elim
      (λ (e : word_number sizes array place ≡ word_number sizes note.array note.place).
      let both = word_number-same sizes array place note.array note.place there' there inside' inside e in
      let here : is_set (flags_of (with_note s note.array note.place note.write) note.write) (word_number s.sizes note.array note.place) ≡ true =
      flag-of_same s note.array note.place note.write (omega (arith, number, length-flags sizes notes note.write, word_number-lt sizes note.array note.place there inside)) in (
        λ _. inl (λ i. record { array = both.0 i; place = both.1 i; write = kind i }),
        λ _. subst (λ (w : Bool). is_set (flags_of (with_note s note.array note.place note.write) w) (word_number sizes array place) ≡ true) (sym kind)
            (subst (λ k. is_set (flags_of (with_note s note.array note.place note.write) note.write) k ≡ true) (number ∙ sym e) here),
      ))
      (λ apart. other (λ _ e. apart (e ∙ number)))
      (cases_eq (word_number sizes array place) (word_number sizes note.array note.place)))
      (λ apart. other (λ e. absurd (apart e)))
      (same_kind write note.write)

  says : (notes : List Note) → AreInside sizes notes → Says notes
  says [] inside = λ array place write there inside'. (λ is. absurd (true≢false (sym is ∙ none-flag sizes write (word_number sizes array place))), λ noted. absurd noted)
  says (note ∷ notes) inside = says-more note notes inside.0.0 inside.0.1 (says notes inside.1)

  noted-inside : (notes : List Note) → AreInside sizes notes → (array place : ℕ) (write : Bool) → IsNoted notes array place write → (array < length sizes) × (place < get_or sizes array 0)
  noted-inside [] inside array place write noted = absurd noted
  noted-inside (note ∷ notes) inside array place write noted = ⊎_elim
      (λ (e : record { array = array; place = place; write = write } ≡ note). subst (λ (n : Note). (n.array < length sizes) × (n.place < get_or sizes n.array 0)) (sym e) inside.0)
      (λ earlier. noted-inside notes inside.1 array place write earlier)
      noted

  there-from : (array place : ℕ) → place < get_or sizes array 0 → array < length sizes
  there-from array place inside = ⊎_elim (λ h. h) (λ past. absurd (omega (arith, inside, get_or_past sizes array 0 past))) (cases_lt array (length sizes))

pub holds_what_is_noted : HoldsWhatIsNoted true holds nothing with_note
holds_what_is_noted sizes notes inside array place write =
    let s = signature_of sizes notes in
    let kept : s.sizes ≡ sizes = sizes-kept sizes notes in
    subst (λ (ss : List ℕ). IsTrue (nat_lt place (get_or ss array 0) && is_set (flags_of s write) (word_number ss array place)) ↔ IsNoted notes array place write) (sym kept) (
      λ is.
          let both = and_parts (nat_lt place (get_or sizes array 0)) (is_set (flags_of s write) (word_number sizes array place)) is in
          let within = ltb-true place (get_or sizes array 0) both.0 in
          (says sizes notes inside array place write (there-from sizes array place within) within).0 both.1,
      λ noted.
          let at = noted-inside sizes notes inside array place write noted in
          and_from (nat_lt place (get_or sizes array 0)) (is_set (flags_of s write) (word_number sizes array place)) (lt-ltb place (get_or sizes array 0) at.1) ((says sizes notes inside array place write at.0 at.1).1 noted),
    )
