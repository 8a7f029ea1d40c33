-- How many iterations a nest has.
use Rattle.std.specs.Prelude.{ℕ, ◌*◌, ◌≤◌, ◌^◌, length}
use Rattle.nest_syntax.specs.Words.{most_turns}
use Rattle.nest_syntax.specs.Course.{bodies_of}
use Rattle.nest_syntax.specs.Outcome.{events_of, iterations_among}
use Rattle.nest_mean.specs.Nest.{Nest, most_bodies}

-- the most iterations that a body has in one run through its region: 2^48
abbrev pub most_iterations : ℕ
most_iterations = most_turns * most_turns

-- The course of a nest with no more bodies than a program may have has at most 2^60 iterations, whether they are reached or
-- not. So no count of them overflows.
abbrev pub HasFewIterations : Type 0
HasFewIterations = (nest : Nest) → length (bodies_of nest.program) ≤ most_bodies → length (iterations_among (events_of nest.program nest.opening.words)) ≤ 2 ^ 60
