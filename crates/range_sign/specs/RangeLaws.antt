-- A signature of ranges holds what it noted, widened.
use Rattle.std.proofs.Common.{◌≡◌, ◌≢◌, ℕ, ◌<◌, ◌≤◌, ◌↔◌, min, max, Bool, true, false, nat_le, IsTrue, Option, Some, None, List, [], ◌∷◌, length, set, replicate, ◌⊎◌, inl, inr, ⊎_elim, refl, ap, sym, subst, ◌∙◌, arith}
use Rattle.std.proofs.lemmas.Bool.{and_parts, and_from, cases_lt, cases_eq, leb-true, le-leb, true≢false}
use Rattle.std.proofs.lemmas.List.{get_or_past, get_or-set_same, get_or-set_other, get_or-replicate, length-replicate, length-set}
use Rattle.range_sign.specs.declared.spans.Span.{Span}
use Rattle.range_sign.specs.declared.spans.Spans.{Spans}
use Rattle.range_sign.specs.Noted.{Note, IsNoted, AreInside, signature, HoldsWhatIsNoted, KeepsSizes}
use Rattle.range_sign.specs.Spans.{within, with_place, span_of, with_span, no_spans}
use Rattle.range_sign.specs.Ranges.{Ranges, nothing, spans_at, with_note, holds}

abbrev signature_of : List ℕ → List Note → Ranges
signature_of sizes notes = signature (nothing sizes) with_note notes

pub keeps_sizes : KeepsSizes (λ (ranges : Ranges). ranges.sizes) nothing with_note
keeps_sizes = (λ sizes. refl, λ ranges array place write. refl)

length-spans : (sizes : List ℕ) (notes : List Note) → length (signature_of sizes notes).spans ≡ length sizes
length-spans sizes [] = length-replicate (length sizes) no_spans
length-spans sizes (note ∷ notes) =
    length-set (signature_of sizes notes).spans note.array (with_span (spans_at (signature_of sizes notes).spans note.array) note.place note.write) ∙ length-spans sizes notes

none-spanned : (n array : ℕ) → spans_at (replicate n no_spans) array ≡ no_spans
none-spanned n array = ⊎_elim (get_or-replicate n array no_spans no_spans) (λ past. get_or_past (replicate n no_spans) array no_spans (omega (arith, length-replicate n no_spans))) (cases_lt array n)

-- that a span goes from the least to the greatest of some places, and is none where there is none
abbrev Spans_all : (ℕ → Type 0) → Option Span → Type 0
Spans_all P None = (place : ℕ) → P place → ⊥
Spans_all P (Some span) = P span.least × P span.greatest × ((place : ℕ) → P place → (span.least ≤ place) × (place ≤ span.greatest))

-- one place more
spans-more : (P Q : ℕ → Type 0) (span : Option Span) (place : ℕ) → ((k : ℕ) → P k → Q k) → Q place → ((k : ℕ) → Q k → (k ≡ place) ⊎ P k) → Spans_all P span → Spans_all Q (with_place span place)
spans-more P Q None place keeps new only all = (new, new, λ k q. ⊎_elim (λ (e : k ≡ place). (omega (arith, e), omega (arith, e))) (λ p. absurd (all k p)) (only k q))
spans-more P Q (Some span) place keeps new only all = (
  ⊎_elim
      (λ (h : place < span.least). let e : place ≡ min span.least place = omega arith in subst Q e new)
      (λ (h : span.least ≤ place). let e : span.least ≡ min span.least place = omega arith in subst Q e (keeps span.least all.0))
      (cases_lt place span.least),
  ⊎_elim
      (λ (h : place < span.greatest). let e : span.greatest ≡ max span.greatest place = omega arith in subst Q e (keeps span.greatest all.1))
      (λ (h : span.greatest ≤ place). let e : place ≡ max span.greatest place = omega arith in subst Q e new)
      (cases_lt place span.greatest),
  λ k q. ⊎_elim
      (λ (e : k ≡ place). (omega (arith, e), omega (arith, e)))
      (λ p. let b = all.2 k p in (omega (arith, b.0), omega (arith, b.1)))
      (only k q),
)

spans-same : (P Q : ℕ → Type 0) (span : Option Span) → ((k : ℕ) → P k → Q k) → ((k : ℕ) → Q k → P k) → Spans_all P span → Spans_all Q span
spans-same P Q None to back all = λ k q. all k (back k q)
spans-same P Q (Some span) to back all = (to span.least all.0, to span.greatest all.1, λ k q. all.2 k (back k q))

-- the span of a kind after a note of a kind
span-own : (spans : Spans) (place : ℕ) (write : Bool) → span_of (with_span spans place write) write ≡ with_place (span_of spans write) place
span-own spans place true = refl
span-own spans place false = refl

span-other : (spans : Spans) (place : ℕ) (write kind : Bool) → kind ≢ write → span_of (with_span spans place write) kind ≡ span_of spans kind
span-other spans place true true apart = absurd (apart refl)
span-other spans place true false apart = refl
span-other spans place false true apart = refl
span-other spans place false false apart = absurd (apart refl)

same_kind : (kind write : Bool) → (kind ≡ write) ⊎ (kind ≢ write)
same_kind true true = inl refl
same_kind true false = inr (λ e. true≢false e)
same_kind false true = inr (λ e. true≢false (sym e))
same_kind false false = inl refl

module _ (sizes : List ℕ) where
  abbrev Says : List Note → Type 0
  Says notes = (array : ℕ) (write : Bool) → Spans_all (λ place. IsNoted notes array place write) (span_of (spans_at (signature_of sizes notes).spans array) write)

  says-more : (note : Note) (notes : List Note) → note.array < length sizes → Says notes → Says (note ∷ notes)
  says-more note notes there says array write =
      let spans = (signature_of sizes notes).spans in
      let more = with_span (spans_at spans note.array) note.place note.write in
      let within : note.array < length spans = omega (arith, length-spans sizes notes) in
      let other : ((place : ℕ) → record { array = array; place = place; write = write } ≡ note → ⊥) → span_of (spans_at spans array) write ≡ span_of (spans_at (set spans note.array more) array) write
      → Spans_all (λ place. IsNoted (note ∷ notes) array place write) (span_of (spans_at (set spans note.array more) array) write) = λ apart e.
      subst (λ (s : Option Span). Spans_all (λ place. IsNoted (note ∷ notes) array place write) s) e
      (spans-same (λ place. IsNoted notes array place write) (λ place. IsNoted (note ∷ notes) array place write) (span_of (spans_at spans array) write) (λ k p. inr p) (λ k q. ⊎_elim (λ (is : record { array = array; place = k; write = write } ≡ note). absurd (apart k is)) (λ p. p) q) (says array write)) in
      ⊎_elim
      (λ (same : array ≡ note.array).
      let here : spans_at (set spans note.array more) array ≡ more = ap (spans_at (set spans note.array more)) same ∙ get_or-set_same spans note.array more no_spans within in
      let was : spans_at spans array ≡ spans_at spans note.array = ap (spans_at spans) same in ⊎_elim
      (λ (kind : write ≡ note.write).
      let e : with_place (span_of (spans_at spans array) write) note.place ≡ span_of (spans_at (set spans note.array more) array) write =
      ap (λ (s : Spans). with_place (span_of s write) note.place) was ∙ ap (λ (w : Bool). with_place (span_of (spans_at spans note.array) w) note.place) kind
      ∙ sym (ap (λ (s : Spans). span_of s write) here ∙ ap (span_of more) kind ∙ span-own (spans_at spans note.array) note.place note.write) in
      subst (λ (s : Option Span). Spans_all (λ place. IsNoted (note ∷ notes) array place write) s) e
      (spans-more (λ place. IsNoted notes array place write) (λ place. IsNoted (note ∷ notes) array place write) (span_of (spans_at spans array) write) note.place (λ k p. inr p)
      (inl (λ i. record { array = same i; place = note.place; write = kind i }))
      (λ k q. ⊎_elim (λ (is : record { array = array; place = k; write = write } ≡ note). inl (ap (λ (n : Note). n.place) is)) (λ p. inr p) q)
      (says array write)))
      (λ apart. other (λ k is. apart (ap (λ (n : Note). n.write) is))
      (ap (λ (s : Spans). span_of s write) was ∙ sym (span-other (spans_at spans note.array) note.place note.write write apart) ∙ sym (ap (λ (s : Spans). span_of s write) here)))
      (same_kind write note.write))
      (λ apart. other (λ k is. apart (ap (λ (n : Note). n.array) is)) (sym (ap (λ (s : Spans). span_of s write) (get_or-set_other spans note.array array more no_spans apart))))
      (cases_eq array note.array)

  none-says : (array : ℕ) (write : Bool) → Spans_all (λ place. ⊥) (span_of (spans_at (replicate (length sizes) no_spans) array) write)
  none-says array true = subst (λ (s : Spans). Spans_all (λ place. ⊥) s.written) (sym (none-spanned (length sizes) array)) (λ k none. none)
  none-says array false = subst (λ (s : Spans). Spans_all (λ place. ⊥) s.read) (sym (none-spanned (length sizes) array)) (λ k none. none)

  says : (notes : List Note) → AreInside sizes notes → Says notes
  says [] inside = λ array write. none-says array write
  says (note ∷ notes) inside = says-more note notes inside.0.0 (says notes inside.1)

held : (P : ℕ → Type 0) (span : Option Span) (place : ℕ) → Spans_all P span → IsTrue (within span place) ↔ ((least : ℕ) × (greatest : ℕ) × P least × P greatest × (least ≤ place) × (place ≤ greatest))
held P None place all = (λ is. absurd (true≢false (sym is)), λ (some : (least : ℕ) × (greatest : ℕ) × P least × P greatest × (least ≤ place) × (place ≤ greatest)). absurd (all some.0 some.2))
held P (Some span) place all = (
  λ is.
      let both = and_parts (nat_le span.least place) (nat_le place span.greatest) is in
      (span.least, span.greatest, all.0, all.1, leb-true span.least place both.0, leb-true place span.greatest both.1),
  λ (some : (least : ℕ) × (greatest : ℕ) × P least × P greatest × (least ≤ place) × (place ≤ greatest)).
      let low = all.2 some.0 some.2 in
      let high = all.2 some.1 some.3 in
      and_from (nat_le span.least place) (nat_le place span.greatest) (le-leb span.least place (omega (arith, low.0, some.4))) (le-leb place span.greatest (omega (arith, high.1, some.5))),
)

pub holds_what_is_noted : HoldsWhatIsNoted false holds nothing with_note
holds_what_is_noted sizes notes inside array place write =
    held (λ k. IsNoted notes array k write) (span_of (spans_at (signature_of sizes notes).spans array) write) place (says sizes notes inside array write)
