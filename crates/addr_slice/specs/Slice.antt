-- The claims of an iteration of any program that keeps the rules: what its walk claims, as a flag for each word of the
-- program. And its cost.
use Rattle.std.specs.Prelude.{◌≡◌, ℕ, ◌-◌, ◌^◌, ℤ, Bool, true, false, List, map, min, sum}
use Rattle.std.specs.List.{range_with_len}
use Rattle.nest_syntax.specs.declared.tree.Program.{Program}
use Rattle.nest_syntax.specs.Named.{IsWellNamed}
use Rattle.nest_syntax.specs.Arrays.{arrays_of, sizes_of}
use Rattle.nest_syntax.specs.Course.{bodies_of}
use Rattle.nest_syntax.specs.Outcome.{body_at, turn_in}
use Rattle.nest_check.specs.Kept.{KeepsRules}
use Rattle.settle_law.specs.Cuts.{HoldsFixed}
use Rattle.settle_law.specs.Reading.{WithinTurn, fixed_in}
use Rattle.claim_walk.specs.Walk.{Step, is_claimed, cost_met}
use Rattle.claim_walk.specs.Laws.{steps_in, AgreeAt}
use Rattle.claim_walk.specs.Rounds.{data_locals_of}
use Rattle.addr_slice.specs.Claims.{Claimed, by_word}

-- for each word of arrays of these sizes, whether the steps claim it for writing (`true`), or for reading
abbrev pub flags_met : List ℕ → List Step → Bool → List Bool
flags_met sizes steps write = map (is_claimed sizes steps write) (range_with_len 0 (sum sizes))

abbrev pub claims_of_steps : List ℕ → List Step → Claimed
claims_of_steps sizes steps = record { reads = flags_met sizes steps false; writes = flags_met sizes steps true }

-- what the walk of an iteration meets; an iteration is told by its body and the scalars that it begins with
abbrev pub steps_met : Program → List ℤ → ℕ × List ℤ → List Step
steps_met program opening i = steps_in program opening (data_locals_of (arrays_of program.decls) (body_at (bodies_of program) i.0)) i.0 i.1

abbrev pub claims_of : Program → List ℤ → ℕ × List ℤ → Claimed
claims_of program opening i = claims_of_steps (sizes_of (arrays_of program.decls)) (steps_met program opening i)

-- the cost of an iteration, but no more than 2^64 - 1
abbrev pub cost_of : Program → List ℤ → ℕ × List ℤ → ℕ
cost_of program opening i = min (cost_met (steps_met program opening i)) (2 ^ 64 - 1)

-- The claims of an iteration hold its turn, for every program that keeps the rules, any opening words, body and scalars.
abbrev pub ClaimsHold : Type 0
ClaimsHold = (program : Program) → IsWellNamed program → KeepsRules program → (opening : List ℤ) (body : ℕ) (scalars : List ℤ)
    → WithinTurn (sizes_of (arrays_of program.decls)) (fixed_in (arrays_of program.decls) opening) (by_word (claims_of program opening (body, scalars))) (turn_in (arrays_of program.decls) (bodies_of program) body scalars)

-- What an iteration claims and costs depends only on the scalars in scope at its body and on the `const` words.
abbrev pub ClaimsAreOfScope : Type 0
ClaimsAreOfScope = (program : Program) → IsWellNamed program → KeepsRules program → (opening words : List ℤ) → HoldsFixed (fixed_in (arrays_of program.decls) opening) words → (body : ℕ) (some others : List ℤ) → AgreeAt program body some others
    → (claims_of program words (body, some) ≡ claims_of program opening (body, others)) × (cost_of program words (body, some) ≡ cost_of program opening (body, others))
