-- Two signatures of ranges conflict in an array where a written span meets one of the other.
use Rattle.std.proofs.Common.{◌≡◌, ℕ, ◌<◌, ◌≤◌, min, max, Bool, true, false, ◌||◌, nat_le, Option, Some, None, List, length, set, replicate, get_or, ⊎_elim, ap, subst, sym, ◌∙◌, arith}
use Rattle.std.proofs.lemmas.List.{get_or_past, get_or-set_same, get_or-set_other, get_or-replicate, length-set, length-replicate}
use Rattle.std.proofs.lemmas.Bool.{and_parts, and_from, or_cases, or_left, or_right, leb-true, le-leb, cases_eq, cases_lt, true≢false}
use Rattle.range_sign.specs.declared.spans.Span.{Span}
use Rattle.range_sign.specs.declared.spans.Spans.{Spans}
use Rattle.range_sign.specs.Overlap.{any_below, writes_into, conflict_at}
use Rattle.range_sign.specs.Spans.{within, with_place, with_span, meet, meet_written, span_of, no_spans}
use Rattle.range_sign.specs.Ranges.{Ranges, spans_at, holds, EndsInside, AreInSizes}
use Rattle.range_sign.proofs.Belows.{same_bools, any-from, any-found}

within-parts : (span : Span) (place : ℕ) → within (Some span) place ≡ true → (span.least ≤ place) × (place ≤ span.greatest)
within-parts span place is = let both = and_parts (nat_le span.least place) (nat_le place span.greatest) is in (leb-true span.least place both.0, leb-true place span.greatest both.1)

within-from : (span : Span) (place : ℕ) → span.least ≤ place → place ≤ span.greatest → within (Some span) place ≡ true
within-from span place low high = and_from (nat_le span.least place) (nat_le place span.greatest) (le-leb span.least place low) (le-leb place span.greatest high)

meet-common : (size : ℕ) (first second : Option Span) → EndsInside size first → meet first second ≡ true → (place : ℕ) × (place < size) × (within first place ≡ true) × (within second place ≡ true)
meet-common size None second inside is = absurd (true≢false (sym is))
meet-common size (Some first) None inside is = absurd (true≢false (sym is))
meet-common size (Some first) (Some second) inside is =
    let h : max first.least second.least ≤ min first.greatest second.greatest = leb-true (max first.least second.least) (min first.greatest second.greatest) is in
    (max first.least second.least, omega (arith, h, inside), within-from first _ (omega arith) (omega (arith, h)), within-from second _ (omega arith) (omega (arith, h)))

meet-from : (first second : Option Span) (place : ℕ) → within first place ≡ true → within second place ≡ true → meet first second ≡ true
meet-from None second place one two = absurd (true≢false (sym one))
meet-from (Some first) None place one two = absurd (true≢false (sym two))
meet-from (Some first) (Some second) place one two =
    let a = within-parts first place one in
    let b = within-parts second place two in
    le-leb (max first.least second.least) (min first.greatest second.greatest) (omega (arith, a.0, a.1, b.0, b.1))

module _ (one other : Ranges) (array size : ℕ) where
  abbrev mine : Spans
  mine = spans_at one.spans array

  abbrev theirs : Spans
  theirs = spans_at other.spans array

  written-common : EndsInside size mine.written → meet_written mine theirs ≡ true → (place : ℕ) × (place < size) × (writes_into (holds one) (holds other) array place ≡ true)
  written-common inside is = ⊎_elim
      (λ e. let p = meet-common size mine.written theirs.read inside e in
      (p.0, p.1, and_from (within mine.written p.0) (within theirs.read p.0 || within theirs.written p.0) p.2 (or_left (within theirs.read p.0) (within theirs.written p.0) p.3)))
      (λ e. let p = meet-common size mine.written theirs.written inside e in
      (p.0, p.1, and_from (within mine.written p.0) (within theirs.read p.0 || within theirs.written p.0) p.2 (or_right (within theirs.read p.0) (within theirs.written p.0) p.3)))
      (or_cases (meet mine.written theirs.read) (meet mine.written theirs.written) is)

  written-from : (place : ℕ) → writes_into (holds one) (holds other) array place ≡ true → meet_written mine theirs ≡ true
  written-from place is =
      let both = and_parts (within mine.written place) (within theirs.read place || within theirs.written place) is in ⊎_elim
      (λ e. or_left (meet mine.written theirs.read) (meet mine.written theirs.written) (meet-from mine.written theirs.read place both.0 e))
      (λ e. or_right (meet mine.written theirs.read) (meet mine.written theirs.written) (meet-from mine.written theirs.written place both.0 e))
      (or_cases (within theirs.read place) (within theirs.written place) both.1)

no_end : (size : ℕ) (kind : Bool) → EndsInside size (span_of no_spans kind)
no_end size true = tt
no_end size false = tt

conflicts-are : (one other : Ranges) (array : ℕ) → EndsInside (get_or one.sizes array 0) (spans_at one.spans array).written → EndsInside (get_or one.sizes array 0) (spans_at other.spans array).written
    → (meet_written (spans_at one.spans array) (spans_at other.spans array) || meet_written (spans_at other.spans array) (spans_at one.spans array))
    ≡ any_below (conflict_at (holds one) (holds other) array) (get_or one.sizes array 0)
conflicts-are one other array inside too =
    let size = get_or one.sizes array 0 in
    let into = writes_into (holds one) (holds other) array in
    let back = writes_into (holds other) (holds one) array in
    let first = meet_written (spans_at one.spans array) (spans_at other.spans array) in
    let second = meet_written (spans_at other.spans array) (spans_at one.spans array) in
    same_bools (first || second) (any_below (conflict_at (holds one) (holds other) array) size)
    (λ is. ⊎_elim
    (λ e. let p = written-common one other array size inside e in any-from (conflict_at (holds one) (holds other) array) size p.0 p.1 (or_left (into p.0) (back p.0) p.2))
    (λ e. let p = written-common other one array size too e in any-from (conflict_at (holds one) (holds other) array) size p.0 p.1 (or_right (into p.0) (back p.0) p.2))
    (or_cases first second is))
    (λ is. let p = any-found (conflict_at (holds one) (holds other) array) size is in ⊎_elim
    (λ e. or_left first second (written-from one other array size p.0 e))
    (λ e. or_right first second (written-from other one array size p.0 e))
    (or_cases (into p.0) (back p.0) p.2))

pub conflicts-found : (one other : Ranges) (array : ℕ) (own others : Spans) → own ≡ spans_at one.spans array → others ≡ spans_at other.spans array → one.sizes ≡ other.sizes
    → EndsInside (get_or one.sizes array 0) own.written → EndsInside (get_or other.sizes array 0) others.written
    → (meet_written own others || meet_written others own) ≡ any_below (conflict_at (holds one) (holds other) array) (get_or one.sizes array 0)
conflicts-found one other array own others e f sizes inside too =
    ap (λ (s : Spans). meet_written s others || meet_written others s) e
    ∙ ap (λ (s : Spans). meet_written (spans_at one.spans array) s || meet_written s (spans_at one.spans array)) f
    ∙ conflicts-are one other array
    (subst (λ (s : Spans). EndsInside (get_or one.sizes array 0) s.written) e inside)
    (subst (λ (ss : List ℕ). EndsInside (get_or ss array 0) (spans_at other.spans array).written) (sym sizes) (subst (λ (s : Spans). EndsInside (get_or other.sizes array 0) s.written) f too))

-- spans stay inside their arrays where a place is noted
ends-with : (size : ℕ) (span : Option Span) (place : ℕ) → place < size → EndsInside size span → EndsInside size (with_place span place)
ends-with size None place h inside = h
ends-with size (Some span) place h inside = omega (arith, h, inside)

ends-noted : (size : ℕ) (spans : Spans) (place : ℕ) (write kind : Bool) → place < size → ((w : Bool) → EndsInside size (span_of spans w)) → EndsInside size (span_of (with_span spans place write) kind)
ends-noted size spans place true true h inside = ends-with size spans.written place h (inside true)
ends-noted size spans place true false h inside = inside false
ends-noted size spans place false true h inside = inside true
ends-noted size spans place false false h inside = ends-with size spans.read place h (inside false)

pub in_sizes-noted : (sizes : List ℕ) (spans : List Spans) (array place : ℕ) (write : Bool) → AreInSizes sizes spans → array < length sizes → place < get_or sizes array 0
    → AreInSizes sizes (set spans array (with_span (spans_at spans array) place write))
in_sizes-noted sizes spans array place write kept there h = record {
  few = kept.few;
  as_many = length-set spans array (with_span (spans_at spans array) place write) ∙ kept.as_many;
  inside = λ at kind. ⊎_elim
      (λ (e : at ≡ array).
      let here : spans_at (set spans array (with_span (spans_at spans array) place write)) at ≡ with_span (spans_at spans array) place write =
      ap (spans_at (set spans array (with_span (spans_at spans array) place write))) e ∙ get_or-set_same spans array (with_span (spans_at spans array) place write) no_spans (omega (arith, there, kept.as_many)) in
      subst (λ (s : Spans). EndsInside (get_or sizes at 0) (span_of s kind)) (sym here)
      (subst (λ n. EndsInside (get_or sizes n 0) (span_of (with_span (spans_at spans array) place write) kind)) (sym e) (ends-noted (get_or sizes array 0) (spans_at spans array) place write kind h (λ w. kept.inside array w))))
      (λ apart. subst (λ (s : Spans). EndsInside (get_or sizes at 0) (span_of s kind)) (sym (get_or-set_other spans array at (with_span (spans_at spans array) place write) no_spans apart)) (kept.inside at kind))
      (cases_eq at array);
}

pub in_sizes-seen : (sizes : List ℕ) (spans : List Spans) (array place : ℕ) (write : Bool) (now : Ranges) (was more : Spans) → record { sizes = sizes; spans = spans } ≡ now → was ≡ spans_at now.spans array → more ≡ with_span was place write
    → AreInSizes sizes spans → array < length now.sizes → place < get_or now.sizes array 0 → AreInSizes sizes (set spans array more)
in_sizes-seen sizes spans array place write now was more e f g kept there h =
    let same : more ≡ with_span (spans_at spans array) place write = g ∙ ap (λ (s : Spans). with_span s place write) (f ∙ sym (ap (λ (r : Ranges). spans_at r.spans array) e)) in
    subst (λ (s : Spans). AreInSizes sizes (set spans array s)) (sym same)
    (in_sizes-noted sizes spans array place write kept (subst (λ (r : Ranges). array < length r.sizes) (sym e) there) (subst (λ (r : Ranges). place < get_or r.sizes array 0) (sym e) h))

none-spanned : (n array : ℕ) → spans_at (replicate n no_spans) array ≡ no_spans
none-spanned n array = ⊎_elim (get_or-replicate n array no_spans no_spans) (λ past. get_or_past (replicate n no_spans) array no_spans (omega (arith, length-replicate n no_spans))) (cases_lt array n)

pub in_sizes-cleared : (sizes : List ℕ) (spans after : List Spans) → AreInSizes sizes spans → after ≡ replicate (length spans) no_spans → AreInSizes sizes after
in_sizes-cleared sizes spans after kept e = record {
  few = kept.few;
  as_many = ap length e ∙ length-replicate (length spans) no_spans ∙ kept.as_many;
  inside = λ array kind. subst (λ (s : Spans). EndsInside (get_or sizes array 0) (span_of s kind)) (sym (ap (λ (ss : List Spans). spans_at ss array) e ∙ none-spanned (length spans) array)) (no_end (get_or sizes array 0) kind);
}
