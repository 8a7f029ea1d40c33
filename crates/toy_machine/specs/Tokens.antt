-- The relay: a scheduler that hands out as many tokens as a queue holds, and workers that take them in turn.
use Rattle.std.specs.Prelude.{ℕ, ◌+◌, ◌-◌, ◌*◌, ◌%◌, Bool, true, false, ◌&&◌, if◌then◌else◌, nat_lt, ◌==◌, Option, None, Some, replicate}
use Rattle.std.specs.Option.{option_map, option_map_or}
use Rattle.nest_mean.specs.Nest.{Nest}
use Rattle.progress_board.specs.declared.options.Options.{Options}
use Rattle.progress_board.specs.declared.actors.Row.{Row}
use Rattle.progress_board.specs.declared.actors.Row.TheVariants.{Dispatch, Halt, Take, End}
use Rattle.progress_board.specs.declared.actors.Ask.{Ask}
use Rattle.progress_board.specs.Actors.{turn_asked}
use Rattle.progress_board.specs.declared.actors.Made.{Made}
use Rattle.progress_board.specs.declared.facts.Ending.{Ending}
use Rattle.progress_board.specs.declared.facts.Ending.TheVariants.{Unfinished, Done}
use Rattle.progress_board.specs.declared.facts.Facts.{Facts}
use Rattle.toy_machine.specs.State.{State}

-- nothing handed out, nothing taken
abbrev pub opening : Nest → Options → State
opening job options = record { job = job; options = options; handed = 0; taken = 0; halted = false }

-- what an actor can do
pub data Move : Type 0 where
  Hands : Move
  Halts : Move
  Takes : Move

-- the row of a move
abbrev pub row_of : Move → Row
row_of Hands = Dispatch
row_of Halts = Halt
row_of Takes = Take

-- the scheduler hands out tokens while there are some, and then halts
abbrev pub scheduler_move : State → Option Move
scheduler_move s = if s.halted then None else (if nat_lt s.handed s.options.queue then Some Hands else Some Halts)

-- a worker takes the next token, if it has been handed out and is the worker's own
abbrev pub worker_move : State → ℕ → Option Move
worker_move s actor = if nat_lt s.taken s.handed && (s.taken % s.options.workers == actor) then Some Takes else None

-- the one enabled move of an actor
abbrev pub move_of : State → ℕ → Option Move
move_of s actor = if nat_lt actor s.options.workers then worker_move s actor else (if actor == s.options.workers then scheduler_move s else None)

-- the state behind a move
abbrev pub state_after : State → Move → State
state_after s Hands = record s { handed = s.handed + 1 }
state_after s Halts = record s { halted = true }
state_after s Takes = record s { taken = s.taken + 1 }

abbrev pub step : State → ℕ → Option State
step s actor = option_map (state_after s) (move_of s actor)

-- workers end where the scheduler has halted and no token is left, the scheduler where it has halted
abbrev pub has_ended : State → ℕ → Bool
has_ended s actor = if nat_lt actor s.options.workers then s.halted && (s.taken == s.handed) else (if actor == s.options.workers then s.halted else true)

-- the answer to an actor, by whether it has ended and by its move
abbrev pub answer : Bool → Option Move → Ask
answer = turn_asked row_of

abbrev pub asked : State → ℕ → Ask
asked s actor = answer (has_ended s actor) (move_of s actor)

-- a step is numbered by the token that is handed out or taken
abbrev pub number_of : State → Row → ℕ
number_of s Take = s.taken
number_of s _ = s.handed

abbrev pub made_of : State → Move → Made
made_of s move = record { row = row_of move; number = number_of s (row_of move) }

abbrev pub made_by : State → ℕ → Made
made_by s actor = option_map_or (made_of s) (move_of s actor) (record { row = End; number = 0 })

abbrev pub is_finished : State → Bool
is_finished s = s.halted && (s.taken == s.handed)

abbrev pub ending_of : State → Ending
ending_of s = if is_finished s then Done else Unfinished

-- no step of the relay counts anything
abbrev pub no_facts : Options → Facts
no_facts options = record {
  options = options;
  invocations = 0;
  iterations = 0;
  drains = 0;
  waits = 0;
  crossing = 0;
  first_waits = replicate 64 None;
  segments = 0;
  checks = 0;
  rollbacks = 0;
  first_rollbacks = replicate 64 None;
}

-- steps that are left: handing out and taking for each token that isn't handed out, taking for the others, and halting
abbrev pub measure : State → ℕ
measure s = 2 * (s.options.queue - s.handed) + (s.handed - s.taken) + (if s.halted then 0 else 1)
