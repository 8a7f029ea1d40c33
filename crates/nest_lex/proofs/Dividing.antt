-- Lines of a text, and the first that says a marker.
use Rattle.std.proofs.Common.{◌≡◌, ℕ, ◌+◌, ◌-◌, ◌<◌, ◌≤◌, List, length, take, slice_index, slice_range, get_or, sym, ap, subst, inl, inr, arith, length-take}
use Rattle.std.proofs.lemmas.Bool.{cases_lt}
use Rattle.nest_lex.specs.Pieces.{IsLineEnd}
use Rattle.nest_lex.specs.Parts.{Says, IsMarkerLine, NoneBetween, behind, marker_text}
use Rattle.nest_lex.specs.Markers.{BeginsLine, NoMarker, IsFirstMarker, IsFirstSteps}
use Rattle.nest_lex.specs.declared.input.Marker.{Marker}
use Rattle.nest_lex.specs.declared.input.Marker.TheVariants as marker
use Rattle.nest_lex.specs.declared.input.MarkerLine.{MarkerLine}
use Rattle.nest_lex.proofs.OneReading.{one_line_end}
use Rattle.std.proofs.lemmas.List.{get_or-take}
use Rattle.nest_lex.proofs.Ranges.{length-range}
use Rattle.nest_lex.proofs.Searching.{Searched, SearchedSteps}

-- no line begins within another
inside : (text : List ℕ) (at stop start end : ℕ) (m : Marker) → IsLineEnd text at stop → at < start → start < behind text stop → IsMarkerLine text m start end → ⊥
inside text at stop start end m ended after before line =
    let e : start - 1 + 1 ≡ start = omega arith in
    ended.none_before (start - 1) (omega arith) (omega arith) (line.begins (start - 1) e)

-- a line is the only one at its place
same_says : (text : List ℕ) (at stop end : ℕ) (m : Marker) → IsLineEnd text at stop → IsMarkerLine text m at end → Says (slice_range text at stop) (marker_text m)
same_says text at stop end m ended line = subst (λ (n : ℕ). Says (slice_range text at n) (marker_text m)) (one_line_end text at end stop line.ends ended) line.says

pub none_more : (text : List ℕ) (from at stop : ℕ) (m : Marker) → NoneBetween text m from at → IsLineEnd text at stop → (Says (slice_range text at stop) (marker_text m) → ⊥)
    → NoneBetween text m from (behind text stop)
none_more text from at stop m none ended not_said start end after before line = elim (cases_lt start at) [
  | inl less ↦ none start end after less line
  | inr least ↦ elim (cases_lt at start) [
    | inl more ↦ inside text at stop start end m ended more before line
    | inr most ↦
        let e : start ≡ at = omega arith in
        not_said (same_says text at stop end m ended (subst (λ (n : ℕ). IsMarkerLine text m n end) e line))
  ]
]

pub begins_behind : (text : List ℕ) (at stop : ℕ) → IsLineEnd text at stop → BeginsLine text (behind text stop)
begins_behind text at stop ended before k e =
    let here : k ≡ stop = omega arith in
    subst (λ (n : ℕ). slice_index text n ≡ 10) (sym here) (ended.ends (omega arith))

pub none_at_start : (text : List ℕ) (from : ℕ) → NoMarker text from from
none_at_start text from m start end after before line = omega arith

pub first_found : (text : List ℕ) (from start stop : ℕ) (m : Marker) → from ≤ start → start < length text → NoMarker text from start → BeginsLine text start → IsLineEnd text start stop
    → Says (slice_range text start stop) (marker_text m) → IsFirstMarker text from (record { marker = m; start = start; stop = stop })
first_found text from start stop m after within none begins ended said =
    record { after = after; none = none; here = record { begins = begins within; ends = ended; says = said } }

marker_some : (m : Marker) → 1 ≤ length (marker_text m)
marker_some marker.Data = omega arith
marker_some marker.Steps = omega arith

-- a marker's line has a byte
pub some_said : (text : List ℕ) (m : Marker) (start stop : ℕ) → IsMarkerLine text m start stop → start < stop
some_said text m start stop line =
    let said = ap length line.says.begins in
    let taken = length-take (length (marker_text m)) (slice_range text start stop) in
    let long = length-range text start stop line.ends.within in
    let some = marker_some m in
    omega arith

-- no line says both
pub not_both : (line : List ℕ) → Says line (marker_text marker.Data) → Says line (marker_text marker.Steps) → ⊥
not_both line a b =
    let d : get_or (take 4 line) 0 0 ≡ 100 = ap (λ (bs : List ℕ). get_or bs 0 0) a.begins in
    let s : get_or (take 5 line) 0 0 ≡ 115 = ap (λ (bs : List ℕ). get_or bs 0 0) b.begins in
    omega (arith, d, s, get_or-take 4 line 0 0 (omega arith), get_or-take 5 line 0 0 (omega arith))

joined : (text : List ℕ) (m : Marker) (from between to : ℕ) → NoneBetween text m from between → NoneBetween text m between to → NoneBetween text m from to
joined text m from between to a b start end after before line = elim (cases_lt start between) [
  | inl less ↦ a start end after less line
  | inr least ↦ b start end least before line
]

pub searched_more : (text : List ℕ) (from start stop : ℕ) → Searched text from start → start < length text → IsLineEnd text start stop
    → ((m : Marker) → Says (slice_range text start stop) (marker_text m) → ⊥) → Searched text from (behind text stop)
searched_more text from start stop searched within ended not_said = record {
  after = omega (arith, searched.after, ended.ordered);
  within = omega (arith, ended.within);
  begins = begins_behind text start stop ended;
  none = λ m. none_more text from start stop m (searched.none m) ended (not_said m);
}

pub steps_found : (text : List ℕ) (from start : ℕ) (line : MarkerLine) → SearchedSteps text from start → IsFirstMarker text start line → line.marker ≡ marker.Steps → IsFirstSteps text from line
steps_found text from start line searched first is = record {
  after = omega (arith, searched.after, first.after);
  none = joined text marker.Steps from start line.start searched.none (first.none marker.Steps);
  here = subst (λ (m : Marker). IsMarkerLine text m line.start line.stop) is first.here;
}

pub steps_more : (text : List ℕ) (from start : ℕ) (line : MarkerLine) → SearchedSteps text from start → IsFirstMarker text start line → line.marker ≡ marker.Data
    → SearchedSteps text from (behind text line.stop)
steps_more text from start line searched first is =
    let here : IsMarkerLine text marker.Data line.start line.stop = subst (λ (m : Marker). IsMarkerLine text m line.start line.stop) is first.here in
    record {
      after = omega (arith, searched.after, first.after, here.ends.ordered);
      within = omega (arith, here.ends.within);
      begins = begins_behind text line.start line.stop here.ends;
      none = none_more text from line.start line.stop marker.Steps
          (joined text marker.Steps from start line.start searched.none (first.none marker.Steps)) here.ends (not_both (slice_range text line.start line.stop) here.says);
    }

pub steps_none : (text : List ℕ) (from start : ℕ) → SearchedSteps text from start → NoMarker text start (length text) → NoneBetween text marker.Steps from (length text)
steps_none text from start searched none = joined text marker.Steps from start (length text) searched.none (none marker.Steps)

pub as_data : (text : List ℕ) (line : MarkerLine) → IsFirstMarker text 0 line → line.marker ≡ marker.Data → IsMarkerLine text marker.Data line.start line.stop
as_data text line first is = subst (λ (m : Marker). IsMarkerLine text m line.start line.stop) is first.here

pub as_steps : (text : List ℕ) (line : MarkerLine) → IsFirstMarker text 0 line → line.marker ≡ marker.Steps → IsMarkerLine text marker.Steps line.start line.stop
as_steps text line first is = subst (λ (m : Marker). IsMarkerLine text m line.start line.stop) is first.here
