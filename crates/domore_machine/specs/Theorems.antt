-- What is claimed of every history, whatever the order of the actors in it.
use Rattle.std.specs.Prelude.{◌≡◌, ◌↔◌, ℕ, ◌+◌, ◌<◌, ◌≤◌, ℤ, true, false, Some, None, IsSome, List}
use Rattle.nest_syntax.specs.Outcome.{Done}
use Rattle.settle_law.specs.Cuts.{HoldsFixed}
use Rattle.settle_law.specs.Traces.{Access, Replays, InOrder, settle, Apart}
use Rattle.settle_law.specs.Runs.{run, IsComplete}
use Rattle.settle_law.specs.Courses.{Nest, Iterate, Follows, family_of, iteration_at, outcome}
use Rattle.settle_law.specs.Reading.{BodiesBegin}
use Rattle.domore_machine.specs.Facts.{facts_of}
use Rattle.domore_machine.specs.Machine.{Setup, State, opening, step, waits, ended_actor}
use Rattle.domore_machine.specs.Runs.{trace_from, is_finished, ending_of}

-- A setup is for a nest where there is a worker and room in its queue; the first piece of each body that is handed out
-- realises the body's cut turn; the cursor follows the course of the nest; `const` words have their values as the nest
-- opens; and iterations whose claims don't clash are apart.
pub record IsSetupFor {B C P : Type 0} (m : Setup B C P) (nest : Nest) (what : B → ℕ × List ℤ) (start : C) : Type 0 where
  pub some_worker : 0 < m.width
  pub some_room : 0 < m.room
  pub begins : BodiesBegin m.system nest what m.entry
  pub follows : Follows nest what m.event start nest.course
  pub opens_fixed : HoldsFixed m.system.fixed nest.opening
  pub apart : (j k : ℕ) → j < k → m.clashes j k ≡ false → Apart (family_of m.system.fixed nest j) (family_of m.system.fixed nest k)

-- a legal history leads from the opening to a state
abbrev pub Leads : {B C P : Type 0} → Setup B C P → Nest → C → List ℕ → State B C P → Type 0
Leads m nest start history s = run (step m) (opening m start nest.opening) history ≡ Some s

-- a history from the opening is complete
abbrev pub Completes : {B C P : Type 0} → Setup B C P → Nest → C → List ℕ → Type 0
Completes m nest start history = IsComplete (step m) (is_finished m) (opening m start nest.opening) history

-- a trace replays from the opening words, is in order, and settles to these words
pub record KeepsOrder (from : List ℤ) (trace : List Access) (words : List ℤ) : Type 0 where
  pub replays : Replays from trace
  pub in_order : InOrder trace
  pub settles : settle from trace ≡ words

-- Each legal history leaves a trace that keeps order, to the words of the state.
abbrev pub HistoriesKeepOrder : Type 0 → Type 0 → Type 0 → Type 0
HistoriesKeepOrder B C P = (m : Setup B C P) (nest : Nest) (what : B → ℕ × List ℤ) (start : C) → IsSetupFor m nest what start → (history : List ℕ) (s : State B C P) → Leads m nest start history s → KeepsOrder nest.opening (trace_from m (opening m start nest.opening) history) s.words

-- Each complete history ends as the nest does in textual order: with its final words, or at its first trap.
abbrev pub HistoriesEndAsNest : Type 0 → Type 0 → Type 0 → Type 0
HistoriesEndAsNest B C P = (m : Setup B C P) (nest : Nest) (what : B → ℕ × List ℤ) (start : C) → IsSetupFor m nest what start → (history : List ℕ) (complete : Completes m nest start history) → ending_of complete.last ≡ outcome nest

-- Where the nest doesn't trap, each complete history counts the same.
abbrev pub FactsAreOfNest : Type 0 → Type 0 → Type 0 → Type 0
FactsAreOfNest B C P = (m : Setup B C P) (nest : Nest) (what : B → ℕ × List ℤ) (start : C) → IsSetupFor m nest what start → (history : List ℕ) (complete : Completes m nest start history) (words : List ℤ) → outcome nest ≡ Done words → complete.last.facts ≡ facts_of (waits m) nest

-- What is handed out is the nest's next iteration: its body, with its scalars. So its claims are those of that number.
abbrev pub HandedOutIsNext : Type 0 → Type 0 → Type 0 → Type 0
HandedOutIsNext B C P = (m : Setup B C P) (nest : Nest) (what : B → ℕ × List ℤ) (start : C) → IsSetupFor m nest what start → (history : List ℕ) (s : State B C P) → Leads m nest start history s → (b : B) (rest : C) → s.trap ≡ None → m.event s.cursor ≡ Iterate b rest → iteration_at nest s.next ≡ Some (what b)

-- some worker or the scheduler has a step
pub record CanGoOn {B C P : Type 0} (m : Setup B C P) (s : State B C P) : Type 0 where
  pub actor : ℕ
  pub present : actor ≤ m.width
  pub enabled : IsSome (step m s actor)

-- In each state that a legal history leaves and that isn't finished, some actor has a step.
abbrev pub UnfinishedGoOn : Type 0 → Type 0 → Type 0 → Type 0
UnfinishedGoOn B C P = (m : Setup B C P) (nest : Nest) (what : B → ℕ × List ℤ) (start : C) → IsSetupFor m nest what start → (history : List ℕ) (s : State B C P) → Leads m nest start history s → is_finished m s ≡ false → CanGoOn m s

-- An actor whose part is ended has no step.
abbrev pub EndedHaveNoStep : Type 0 → Type 0 → Type 0 → Type 0
EndedHaveNoStep B C P = (m : Setup B C P) (s : State B C P) (actor : ℕ) → ended_actor m s actor ≡ true → step m s actor ≡ None

-- Its part stays ended, whoever makes a step.
abbrev pub EndedStay : Type 0 → Type 0 → Type 0 → Type 0
EndedStay B C P = (m : Setup B C P) (nest : Nest) (what : B → ℕ × List ℤ) (start : C) → IsSetupFor m nest what start → (history : List ℕ) (s t : State B C P) (actor other : ℕ) → Leads m nest start history s → ended_actor m s actor ≡ true → step m s other ≡ Some t → ended_actor m t actor ≡ true

-- The machine is finished exactly where the parts of all actors are ended: the workers, the scheduler and one more.
abbrev pub FinishedIsAllEnded : Type 0 → Type 0 → Type 0 → Type 0
FinishedIsAllEnded B C P = (m : Setup B C P) (nest : Nest) (what : B → ℕ × List ℤ) (start : C) → IsSetupFor m nest what start → (history : List ℕ) (s : State B C P) → Leads m nest start history s → (is_finished m s ≡ true) ↔ ((actor : ℕ) → actor < m.width + 2 → ended_actor m s actor ≡ true)
