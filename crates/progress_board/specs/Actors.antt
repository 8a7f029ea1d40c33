-- What actors ask and give. An actor is its number: workers from 0, then the scheduler, then the checker.
use Rattle.std.specs.Prelude.{◌≡◌, ℕ, ◌+◌, ◌<◌, ◌⊎◌, Bool, true, false, Option, Some, None, IsSome}
use Rattle.task_hop.specs.declared.stop.Stop.{Stop}
use Rattle.task_hop.specs.declared.stop.Stop.TheVariants as stop
use Rattle.task_frame.specs.Pieces.{reached}
use Rattle.progress_board.specs.declared.actors.Row.{Row}
use Rattle.progress_board.specs.declared.actors.Row.TheVariants as row
use Rattle.progress_board.specs.declared.actors.Work.{Work}
use Rattle.progress_board.specs.declared.actors.Work.TheVariants as work
use Rattle.progress_board.specs.declared.actors.Ask.{Ask}
use Rattle.progress_board.specs.declared.actors.Ask.TheVariants.{Ready, NotYet, Ended}
use Rattle.progress_board.specs.declared.actors.Given.{Given}
use Rattle.progress_board.specs.declared.actors.Given.TheVariants as given
use Rattle.progress_board.specs.declared.options.Options.{Options}

-- how many actors there are: the workers, the scheduler and the checker
abbrev pub actors_of : Options → ℕ
actors_of options = options.workers + 2

-- the work that is given back, as it was asked for
abbrev pub work_of : Given → Work
work_of (given.Turn row) = work.Turn row
work_of (given.Hop worked) = work.Hop worked

-- the row under which an actor is asked for a row that its machine makes by itself: a checker learns by its check whether
-- it aborts
abbrev pub asked_as : Row → Row
asked_as row.Abort = row.Check
asked_as other = other

-- the rows that the stop of a piece may make: an iteration that finishes may be followed by another one
abbrev pub IsRowAt : Stop → Row → Type 0
IsRowAt (stop.Load array place into next) made = made ≡ row.Hop
IsRowAt (stop.Store array place value next) made = made ≡ row.Hop
IsRowAt (stop.Go next) made = made ≡ row.Hop
IsRowAt stop.Finish made = (made ≡ row.Finish) ⊎ (made ≡ row.Hop)
IsRowAt (stop.Trap cause line) made = made ≡ row.Trap

-- what is asked for is this row
abbrev pub IsRowOf : Work → Row → Type 0
IsRowOf (work.Turn asked) made = asked_as made ≡ asked
IsRowOf (work.Hop piece) made = IsRowAt (reached piece).stop made

-- the answer to an actor of a machine that makes all its rows by itself, by whether the actor's part is ended and by its
-- move
abbrev pub turn_asked : {M : Type 0} → (M → Row) → Bool → Option M → Ask
turn_asked row_of ended (Some move) = Ready (work.Turn (row_of move))
turn_asked row_of true None = Ended
turn_asked row_of false None = NotYet

-- whether an answer hands out work
abbrev pub is_ready : Ask → Bool
is_ready (Ready work) = true
is_ready NotYet = false
is_ready Ended = false

-- some actor below n has a step
pub record SomeEnabled {S : Type 0} (step : S → ℕ → Option S) (s : S) (n : ℕ) : Type 0 where
  pub actor : ℕ
  pub below : actor < n
  pub enabled : IsSome (step s actor)

-- each actor below n has ended its part
abbrev pub AllEnded : {S : Type 0} → (S → ℕ → Ask) → S → ℕ → Type 0
AllEnded asked s n = (actor : ℕ) → actor < n → asked s actor ≡ Ended
