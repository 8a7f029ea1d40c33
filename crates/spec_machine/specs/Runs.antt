-- The accesses that the steps of a history make since the last commit or restore, its rollbacks, and how a machine ends.
use Rattle.std.specs.Prelude.{ℕ, ◌+◌, Bool, true, if◌then◌else◌, List, [], ◌∷◌, ◌++◌, nat_lt, ℤ}
use Rattle.std.specs.Option.{option_map_or}
use Rattle.nest_syntax.specs.Outcome.{Ending, Done, TrappedAt}
use Rattle.settle_law.specs.Traces.{Access}
use Rattle.spec_machine.specs.Facts.{Rollback}
use Rattle.spec_machine.specs.Rows.{Row, row_of}
use Rattle.spec_machine.specs.Machine.{Setup, State, Move, DoCommit, DoRestore, move_of, state_after, accesses_of}

module _ {B C P G : Type 0} (m : Setup B C P G) where
  -- the accesses to written arrays since the last commit or restore, oldest first
  abbrev pub trace_after : List Access → List ℤ → Move B C P → List Access
  trace_after trace words DoCommit = []
  trace_after trace words (DoRestore cause) = []
  trace_after trace words move = trace ++ accesses_of m words move

  abbrev pub trace_from : State B C P G → List Access → List ℕ → List Access
  trace_from s trace [] = trace
  trace_from s trace (actor ∷ history) = option_map_or (λ move. trace_from (state_after m s actor move) (trace_after trace s.words move) history) (move_of m s actor) trace

  -- the rows of a history, in its order
  abbrev pub rows_from : State B C P G → List ℕ → List Row
  rows_from s [] = []
  rows_from s (actor ∷ history) = option_map_or (λ move. row_of move ∷ rows_from (state_after m s actor move) history) (move_of m s actor) []

  -- all rollbacks of a history, in its order
  abbrev pub rollback_of : State B C P G → Move B C P → List Rollback
  rollback_of s (DoRestore cause) = record { segment = s.facts.segments; cause = cause } ∷ []
  rollback_of s move = []

  abbrev pub rollbacks_from : State B C P G → List ℕ → List Rollback
  rollbacks_from s [] = []
  rollbacks_from s (actor ∷ history) = option_map_or (λ move. rollback_of s move ++ rollbacks_from (state_after m s actor move) history) (move_of m s actor) []

  -- Once the run is concluded every actor is ended and the machine is finished; a further actor is ended always.
  abbrev pub ended_actor : State B C P G → ℕ → Bool
  ended_actor s actor = if nat_lt actor (m.width + 2) then s.concluded else true

abbrev pub is_finished : {B C P G : Type 0} → State B C P G → Bool
is_finished s = s.concluded

-- how a concluded machine ends: at a worker's trap, at the scheduler's, or with its words
abbrev pub ending_of : {B C P G : Type 0} → State B C P G → Ending
ending_of s = option_map_or TrappedAt s.trap (option_map_or TrappedAt s.early (Done s.words))
