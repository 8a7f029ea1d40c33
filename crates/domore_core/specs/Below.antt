-- No caller needs this. What crates below prove, said of the claims and the costs that the engine has.
use Rattle.std.specs.Prelude.{ℕ, ℤ, List}
use Rattle.nest_syntax.specs.declared.tree.Program.{Program}
use Rattle.nest_syntax.specs.Named.{IsWellNamed}
use Rattle.nest_syntax.specs.Shape.{bodies_of}
use Rattle.nest_syntax.specs.Outcome.{body_at}
use Rattle.nest_check.specs.Kept.{KeepsRules}
use Rattle.turn_cost.specs.Costs.{body_cost}
use Rattle.addr_slice.specs.Claims.{Claimed}
use Rattle.settle_law.specs.Courses.{nest_of}
use Rattle.task_code.specs.Code.{Code}
use Rattle.sched_cursor.specs.Cursor.{Cursor}
use Rattle.sched_cursor.specs.Handed.{what_of}
use Rattle.sched_cursor.specs.Laws.{restarted}
use Rattle.domore_machine.specs.Measure.{bound}
use Rattle.nest_tasks.specs.Carried.{KeepsNest}
use Rattle.nest_tasks.specs.Longest.{BoundedHistoriesFall}
use Rattle.nest_setup.specs.Setups.{setup_of, IsPrepared, HoldTurns}
use Rattle.nest_setup.specs.Laws.{cost_by, AnswersTellEvents, PlacesAreKept}
use Rattle.nest_tasks.proofs.Longest.{bounded_falls}
use Rattle.nest_setup.proofs.Costs.{setups_keep, body_costs_bound}
use Rattle.nest_setup.proofs.Courses.{answers_tell}
use Rattle.nest_setup.proofs.Begun.{in_places_same}
use Rattle.nest_setup.proofs.Walked.{walks_fit}
use Rattle.domore_core.specs.Claims.{claims_of}

pub machines_keep_jobs : (program : Program) (opening : List ℤ) (code : Code) (claims : ℕ × List ℤ → Claimed) (cursor : Cursor) (width room : ℕ) → IsPrepared program opening code claims cursor width room
    → KeepsNest (setup_of program opening code claims width room) (nest_of program opening) (what_of program) (restarted program cursor) (bound (nest_of program opening) width (cost_by (nest_of program opening) (λ i. body_cost (body_at (bodies_of program) i.0))))
machines_keep_jobs program opening code claims cursor width room ready = setups_keep program opening code claims cursor width room ready _ (body_costs_bound program opening)

pub bounded_histories_fall : (S : Type 0) → BoundedHistoriesFall S
bounded_histories_fall S = λ step actors most opening few others. bounded_falls S step actors most opening few others

pub answers_tell_events : AnswersTellEvents
answers_tell_events = answers_tell

pub places_are_kept : PlacesAreKept
places_are_kept = in_places_same

pub claims_hold : (program : Program) → IsWellNamed program → KeepsRules program → (opening : List ℤ) → HoldTurns program opening (claims_of program opening)
unfolding claims_of
claims_hold program named keeps opening = let walked = (walks_fit program opening named keeps).0 in record { even = λ i. walked.even i; hold = λ i. walked.hold i }
