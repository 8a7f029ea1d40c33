-- The parts of an input lie within it.
use Rattle.std.proofs.Common.{ℕ, ◌+◌, ◌≤◌, List, length, take, arith}
use Rattle.std.specs.Prelude.{IfSome, count_by}
use Rattle.std.proofs.lemmas.List.Sums.{count_by-le-length}
use Rattle.std.proofs.lemmas.List.{length-take}
use Rattle.nest_lex.specs.Spots.{is_line_feed}
use Rattle.nest_lex.specs.Parts.{IsParts, nest_alone, with_steps, with_data, with_both}
use Rattle.nest_lex.specs.declared.input.Parts.{Parts}
use Rattle.nest_lex.specs.declared.input.Marker.TheVariants as marker
use Rattle.nest_lex.proofs.Dividing.{some_said}

module _ (text : List ℕ) where
  -- the nest ends within the text
  pub nest_within : (p : Parts) → IsParts text p → p.nest_end ≤ length text
  nest_within p (nest_alone no_data no_steps) = omega arith
  nest_within p (with_steps start stop no_data no_steps line) = omega (arith, line.ends.ordered, line.ends.within)
  nest_within p (with_data start stop no_data no_steps line no_more) = omega (arith, line.ends.ordered, line.ends.within)
  nest_within p (with_both start stop last end no_data no_steps line ordered no_more steps) = omega (arith, line.ends.ordered, line.ends.within)

  -- and so do the data lines
  pub values_within : (p : Parts) → IsParts text p → IfSome p.values (λ v. (v.0 ≤ v.1) × (v.1 ≤ length text))
  values_within p (nest_alone no_data no_steps) = tt
  values_within p (with_steps start stop no_data no_steps line) = tt
  values_within p (with_data start stop no_data no_steps line no_more) = (omega arith, omega arith)
  values_within p (with_both start stop last end no_data no_steps line ordered no_more steps) = (ordered, omega (arith, steps.ends.ordered, steps.ends.within))

  -- and the step words
  pub steps_within : (p : Parts) → IsParts text p → IfSome p.steps (λ at. at ≤ length text)
  steps_within p (nest_alone no_data no_steps) = tt
  steps_within p (with_steps start stop no_data no_steps line) = omega arith
  steps_within p (with_data start stop no_data no_steps line no_more) = tt
  steps_within p (with_both start stop last end no_data no_steps line ordered no_more steps) = omega arith

  feeds : (at : ℕ) → count_by is_line_feed (take at text) ≤ at
  feeds at = omega (arith, count_by-le-length is_line_feed (take at text), length-take at text)

  -- a line has a byte, so there are no more lines than bytes
  pub line_within : (p : Parts) → IsParts text p → p.data_line ≤ length text + 1
  line_within p (nest_alone no_data no_steps) = omega arith
  line_within p (with_steps start stop no_data no_steps line) = omega arith
  line_within p (with_data start stop no_data no_steps line no_more) = omega (arith, feeds start, some_said text marker.Data start stop line, line.ends.within)
  line_within p (with_both start stop last end no_data no_steps line ordered no_more steps) = omega (arith, feeds start, some_said text marker.Data start stop line, line.ends.within)
