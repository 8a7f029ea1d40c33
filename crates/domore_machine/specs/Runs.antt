-- The accesses that the steps of a history make, and how a machine ends.
use Rattle.std.specs.Prelude.{ℕ, Bool, ◌&&◌, List, [], ◌∷◌, ◌++◌}
use Rattle.std.specs.Option.{option_map_or}
use Rattle.std.specs.List.{list_all}
use Rattle.nest_syntax.specs.Outcome.{Ending, Done, TrappedAt}
use Rattle.settle_law.specs.Traces.{Access}
use Rattle.domore_machine.specs.Machine.{Setup, State, Seat, step, move_of, accesses_of, is_ended}

module _ {B C P : Type 0} (m : Setup B C P) where
  -- the accesses to written arrays that the steps of a history make, oldest first
  abbrev pub made_by : State B C P → ℕ → List Access
  made_by s actor = option_map_or (accesses_of m s.words) (move_of m s actor) []

  abbrev pub trace_from : State B C P → List ℕ → List Access
  trace_from s [] = []
  trace_from s (actor ∷ history) = option_map_or (λ t. made_by s actor ++ trace_from t history) (step m s actor) []

  -- the machine is finished where the scheduler and all workers are ended
  abbrev pub is_finished : State B C P → Bool
  is_finished s = s.halted && list_all (λ (seat : Seat B P). is_ended seat.hand) s.seats

-- how a finished machine ends: at the kept trap, or with its words
abbrev pub ending_of : {B C P : Type 0} → State B C P → Ending
ending_of s = option_map_or TrappedAt s.trap (Done s.words)
