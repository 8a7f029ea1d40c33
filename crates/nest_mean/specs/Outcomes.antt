-- The outcome of a nest, as `run_plain` answers it.
use Rattle.std.specs.Prelude.{ℕ, List}
use Rattle.nest_syntax.specs.Outcome.{Ending, Done, TrappedAt, ending}
use Rattle.nest_mean.specs.declared.outcomes.Outcome.{Outcome}
use Rattle.nest_mean.specs.declared.outcomes.Outcome.TheVariants as outcomes
use Rattle.nest_mean.specs.Nest.{Nest}

abbrev pub as_outcome : List ℕ → Ending → Outcome
as_outcome sizes (Done words) = outcomes.Done (record { sizes = sizes; words = words })
as_outcome sizes (TrappedAt place) = outcomes.Trapped place

-- the final words of all arrays, or the place of the first trap
abbrev pub outcome : Nest → Outcome
outcome nest = as_outcome nest.opening.sizes (ending nest.program nest.opening.words)
