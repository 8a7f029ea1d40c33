-- What bounds the costs of all that a cursor hands out.
use Rattle.std.specs.Prelude.{◌≡◌, ℕ, ◌<◌, ℤ, Some, List}
use Rattle.settle_law.specs.Courses.{Nest, Follows, iteration_at}
use Rattle.spec_machine.specs.Invocations.{Outside, one_by_one}
use Rattle.spec_machine.specs.Machine.{Setup}
use Rattle.spec_machine.specs.Measure.{Costs}

-- Where costs bound the fuel of each iteration of a nest that an invocation may begin with, they bound all that a cursor
-- hands out which follows the course of the nest.
abbrev pub IterationsBoundCosts : Type 0 → Type 0 → Type 0 → Type 0 → Type 0
IterationsBoundCosts B C P G = (m : Setup B C P G) (nest : Nest) (what : B × ℕ → ℕ × List ℤ) (cost : ℕ → ℕ) → ((b : B) (j k : ℕ) → iteration_at nest k ≡ Some (what (b, j)) → m.system.fuel (m.entry b j) < cost k)
    → (start : C) → Follows nest what (one_by_one m.event) (Outside start) nest.course → Costs m nest start cost
