-- The value of a signature of ranges.
use Rattle.std.specs.Prelude.{ℕ, ◌≡◌, ◌<◌, ◌≤◌, Bool, Option, Some, None, List, length, replicate, slice_index, slice_index_or, slice_set}
use Rattle.word_store.specs.Memory.{most_words}
use Rattle.range_sign.specs.declared.spans.Span.{Span}
use Rattle.range_sign.specs.declared.spans.Spans.{Spans}
use Rattle.range_sign.specs.Spans.{within, span_of, with_span, no_spans}

-- how many words each array has, and its spans
pub record Ranges : Type 0 where
  pub sizes : List ℕ
  pub spans : List Spans

abbrev pub nothing : List ℕ → Ranges
nothing sizes = record { sizes = sizes; spans = replicate (length sizes) no_spans }

abbrev pub spans_at : List Spans → ℕ → Spans
spans_at spans array = slice_index_or spans array no_spans

abbrev pub with_note : Ranges → ℕ → ℕ → Bool → Ranges
with_note ranges array place write = record { sizes = ranges.sizes; spans = slice_set ranges.spans array (with_span (spans_at ranges.spans array) place write) }

abbrev pub holds : Ranges → ℕ → ℕ → Bool → Bool
holds ranges array place write = within (span_of (spans_at ranges.spans array) write) place

-- that a span ends inside an array of this size
abbrev pub EndsInside : ℕ → Option Span → Type 0
EndsInside size None = Unit {0}
EndsInside size (Some span) = span.greatest < size

pub record AreInSizes (sizes : List ℕ) (spans : List Spans) : Type 0 where
  pub few : length sizes ≤ most_words
  pub as_many : length spans ≡ length sizes
  pub inside : (array : ℕ) (write : Bool) → EndsInside (slice_index sizes array) (span_of (spans_at spans array) write)
