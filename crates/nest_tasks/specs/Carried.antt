-- What holds of every history of a machine on a nest, whatever the order of the actors in it. No piece of work is spoken of,
-- so what is forgotten of the pieces takes nothing away.
use Rattle.std.specs.Prelude.{◌≡◌, ◌↔◌, ℕ, ◌+◌, ◌<◌, ◌≤◌, ℤ, true, false, Some, None, IsSome, List, length}
use Rattle.nest_syntax.specs.Outcome.{Done}
use Rattle.settle_law.specs.Cuts.{HoldsFixed}
use Rattle.settle_law.specs.Courses.{Nest, Iterate, iteration_at, outcome}
use Rattle.settle_law.specs.Tasks.{Stop}
use Rattle.domore_machine.specs.Facts.{facts_of}
use Rattle.domore_machine.specs.Machine.{Setup, State, Ticket, seat_at, opening, step, waits, ended_actor}
use Rattle.domore_machine.specs.Runs.{trace_from, is_finished, ending_of}
use Rattle.domore_machine.specs.Theorems.{IsSetupFor, Leads, Completes, KeepsOrder, CanGoOn}
use Rattle.domore_machine.specs.Invariant.{Each, AllTickets}
use Rattle.domore_machine.specs.Measure.{measure}
use Rattle.nest_tasks.specs.Forgetting.{forget_stop, forget_setup}

pub record KeepsNest {B C P : Type 0} (m : Setup B C P) (nest : Nest) (what : B → ℕ × List ℤ) (start : C) (most : ℕ) : Type 0 where
  -- a legal history leaves a trace that keeps order, to the words of the state
  pub order : (history : List ℕ) (s : State B C P) → Leads m nest start history s → KeepsOrder nest.opening (trace_from m (opening m start nest.opening) history) s.words
  -- a complete one ends as the nest does in textual order, with the facts of the nest where that doesn't trap
  pub ends : (history : List ℕ) (complete : Completes m nest start history) → ending_of complete.last ≡ outcome nest
  pub facts : (history : List ℕ) (complete : Completes m nest start history) (words : List ℤ) → outcome nest ≡ Done words → complete.last.facts ≡ facts_of (waits m) nest
  -- what is handed out is the nest's next iteration, and all before it are iterations of the nest
  pub hands_out : (history : List ℕ) (s : State B C P) → Leads m nest start history s → (b : B) (rest : C) → s.trap ≡ None → m.event s.cursor ≡ Iterate b rest → iteration_at nest s.next ≡ Some (what b)
  pub known : (history : List ℕ) (s : State B C P) → Leads m nest start history s → (k : ℕ) → k < s.next → IsSome (iteration_at nest k)
  -- so is what is queued
  pub queued : (history : List ℕ) (s : State B C P) → Leads m nest start history s → (u : ℕ) → u < m.width → Each (λ (t : Ticket B). iteration_at nest t.number ≡ Some (what t.body)) (seat_at s.seats u).queue
  -- `const` words keep their values, and the numbers that the seats hold are in order
  pub fixed_words : (history : List ℕ) (s : State B C P) → Leads m nest start history s → HoldsFixed m.system.fixed s.words
  pub tickets : (history : List ℕ) (s : State B C P) → Leads m nest start history s → AllTickets m s
  -- a machine that isn't finished goes on, an ended part stays ended, and it is finished where all parts are ended
  pub goes_on : (history : List ℕ) (s : State B C P) → Leads m nest start history s → is_finished m s ≡ false → CanGoOn m s
  pub stays : (history : List ℕ) (s t : State B C P) (actor other : ℕ) → Leads m nest start history s → ended_actor m s actor ≡ true → step m s other ≡ Some t → ended_actor m t actor ≡ true
  pub finishes : (history : List ℕ) (s : State B C P) → Leads m nest start history s → (is_finished m s ≡ true) ↔ ((actor : ℕ) → actor < m.width + 2 → ended_actor m s actor ≡ true)
  -- no legal history is longer than this
  pub few : (history : List ℕ) (s : State B C P) → Leads m nest start history s → length history ≤ most

-- A machine keeps a nest where another is set up for it, of whose pieces it forgets something.
abbrev pub ForgettingKeepsNests : Type 0 → Type 0 → Type 0 → Type 0 → Type 0
ForgettingKeepsNests B C P Q = (m : Setup B C P) (f : P → Q) (stop : Q → Stop Q) → ((p : P) → stop (f p) ≡ forget_stop f (m.system.stop p))
    → (nest : Nest) (what : B → ℕ × List ℤ) (start : C) → IsSetupFor m nest what start → KeepsNest (forget_setup f stop m) nest what start (measure m nest (opening m start nest.opening))
