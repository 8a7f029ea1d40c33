-- Spans of places.
use Rattle.std.specs.Prelude.{ℕ, min, max, Bool, true, false, ◌&&◌, ◌||◌, nat_le, Option, Some, None}
use Rattle.range_sign.specs.declared.spans.Span.{Span}
use Rattle.range_sign.specs.declared.spans.Spans.{Spans}

-- whether a place is in a span
abbrev pub within : Option Span → ℕ → Bool
within None place = false
within (Some span) place = nat_le span.least place && nat_le place span.greatest

abbrev pub with_place : Option Span → ℕ → Option Span
with_place None place = Some (record { least = place; greatest = place })
with_place (Some span) place = Some (record { least = min span.least place; greatest = max span.greatest place })

-- whether two spans have a common place
abbrev pub meet : Option Span → Option Span → Bool
meet None second = false
meet (Some first) None = false
meet (Some first) (Some second) = nat_le (max first.least second.least) (min first.greatest second.greatest)

abbrev pub meet_written : Spans → Spans → Bool
meet_written own others = meet own.written others.read || meet own.written others.written

abbrev pub no_spans : Spans
no_spans = record { read = None; written = None }

-- the span of the places written, or of those read
abbrev pub span_of : Spans → Bool → Option Span
span_of spans true = spans.written
span_of spans false = spans.read

abbrev pub with_span : Spans → ℕ → Bool → Spans
with_span spans place true = record spans { written = with_place spans.written place }
with_span spans place false = record spans { read = with_place spans.read place }
