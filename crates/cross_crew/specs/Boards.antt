-- What a board keeps, and what it answers.
use Rattle.std.specs.Prelude.{◌≡◌, ◌≢◌, ◌≤◌, ℕ, nat_lt, if◌then◌else◌, Option, List}
use Rattle.std.specs.Option.{option_and_then}
use Rattle.settle_law.specs.Runs.{run}
use Rattle.progress_board.specs.declared.options.Options.{Options}
use Rattle.progress_board.specs.declared.actors.Work.{Work}
use Rattle.progress_board.specs.declared.actors.Ask.{Ask}
use Rattle.progress_board.specs.declared.actors.Ask.TheVariants.{Ready, Ended}
use Rattle.progress_board.specs.Actors.{actors_of}
use Rattle.cross_crew.specs.declared.refused.GiveRefused.{GiveRefused}
use Rattle.cross_crew.specs.declared.refused.GiveRefused.TheVariants.{Stale, NoMemory}

-- the state behind a history from a first state, where there is one and the history is legal
abbrev pub led : {S : Type 0} → (S → ℕ → Option S) → Option S → List ℕ → Option S
led step first history = option_and_then (λ s. run step s history) first

-- what an actor is asked for: a number that is no actor's has ended its part
abbrev pub answer_to : Options → (ℕ → Ask) → ℕ → Ask
answer_to options asked actor = if nat_lt actor (actors_of options) then asked actor else Ended

-- why work is refused: it isn't what the answer asks for, which is told; or memory is out, and the history is full
abbrev pub IsCause : Ask → Work → (capacity count : ℕ) → GiveRefused → Type 0
IsCause answer work capacity count (Stale told) = (told ≡ answer) × (answer ≢ Ready work)
IsCause answer work capacity count NoMemory = capacity ≤ count
