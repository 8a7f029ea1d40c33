-- The measure of a state: how many steps may still come. It falls at each step, so no history is longer than the measure
-- of the opening, which is bounded by the costs of the iterations.
use Rattle.std.specs.Prelude.{◌≡◌, ℕ, zero, suc, ◌+◌, ◌<◌, ◌≤◌, ℤ, Bool, true, false, Option, Some, None, List, length, sum_by}
use Rattle.std.specs.Option.{option_map_or}
use Rattle.nest_syntax.specs.declared.place.Place.{Place}
use Rattle.nest_syntax.specs.Outcome.{iterations_among}
use Rattle.settle_law.specs.Courses.{Nest, Trap, Event, End, Scalar, Drain, Iterate, Close, events, reached}
use Rattle.domore_machine.specs.Waits.{Wait}
use Rattle.domore_machine.specs.Machine.{Setup, State, Seat, Hand, Idle, Holding, Ended, Ticket, opening, step, waits}
use Rattle.domore_machine.specs.Theorems.{IsSetupFor, Leads}

-- behind an event that traps there is nothing
abbrev pub behind_trap : Option Trap → ℕ → ℕ
behind_trap None n = n
behind_trap (Some trap) n = 0

module _ {B C P : Type 0} (m : Setup B C P) (nest : Nest) where
  -- an iteration that isn't taken yet: to take it, to pass its waits, its stops, and to finish it
  abbrev pub iteration_weight : B → List Wait → ℕ
  iteration_weight b waits = 2 + length waits + m.system.fuel (m.entry b)

  abbrev pub ticket_weight : Ticket B → ℕ
  ticket_weight ticket = iteration_weight ticket.body ticket.waits

  -- a worker that holds an iteration then ends, and so does one that is idle
  abbrev pub hand_weight : Hand P → ℕ
  hand_weight Idle = 1
  hand_weight (Holding k left piece) = 2 + length left + m.system.fuel piece
  hand_weight Ended = 0

  abbrev pub seat_weight : Seat B P → ℕ
  seat_weight seat = hand_weight seat.hand + sum_by ticket_weight seat.queue

  -- The events ahead of a cursor that has passed `next` iterations, `most` of them at most: one step each, and at an
  -- iteration its weight besides. A drain has the words that textual order reaches, and isn't carried out where it
  -- doesn't get there.
  abbrev pub event_weight : (C → ℕ → ℕ) → ℕ → Event B C → ℕ
  event_weight behind next End = 0
  event_weight behind next (Scalar purpose trap rest) = suc (behind_trap trap (behind rest next))
  event_weight behind next (Drain purpose trap rest) = option_map_or (λ words. suc (behind_trap (trap words) (behind (rest words) next))) (reached nest next) 0
  event_weight behind next (Iterate b rest) = suc (iteration_weight b (waits m next) + behind rest (suc next))
  event_weight behind next (Close rest) = suc (behind rest next)

  abbrev pub ahead : ℕ → C → ℕ → ℕ
  ahead zero cursor next = 0
  ahead (suc most) cursor next = event_weight (ahead most) next (m.event cursor)

  -- the scheduler carries out the events ahead where no trap is kept, and then halts
  abbrev pub going_weight : C → ℕ → Option Place → ℕ
  going_weight cursor next None = suc (ahead (length (events nest)) cursor next)
  going_weight cursor next (Some trap) = 1

  abbrev pub scheduler_weight : Bool → C → ℕ → Option Place → ℕ
  scheduler_weight true cursor next trap = 0
  scheduler_weight false cursor next trap = going_weight cursor next trap

  abbrev pub measure : State B C P → ℕ
  measure s = sum_by seat_weight s.seats + scheduler_weight s.halted s.cursor s.next s.trap

  -- Whether the costs bound the fuel of the iterations that a cursor hands out from number `next` on, up to `most` events
  -- on. A piece has less fuel than its iteration's cost.
  abbrev pub EventCosts : (C → ℕ → Type 0) → (ℕ → ℕ) → ℕ → Event B C → Type 0
  EventCosts behind cost next End = Unit {0}
  EventCosts behind cost next (Scalar purpose trap rest) = trap ≡ None → behind rest next
  EventCosts behind cost next (Drain purpose trap rest) = (words : List ℤ) → reached nest next ≡ Some words → trap words ≡ None → behind (rest words) next
  EventCosts behind cost next (Iterate b rest) = (m.system.fuel (m.entry b) < cost next) × behind rest (suc next)
  EventCosts behind cost next (Close rest) = behind rest next

  abbrev pub Costs : ℕ → (ℕ → ℕ) → C → ℕ → Type 0
  Costs zero cost cursor next = Unit {0}
  Costs (suc most) cost cursor next = EventCosts (Costs most cost) cost next (m.event cursor)

-- the sum over the numbers below n
abbrev pub sum_below : ℕ → (ℕ → ℕ) → ℕ
sum_below zero f = 0
sum_below (suc n) f = sum_below n f + f n

-- The bound: a step for each event, for the end of each worker and of the scheduler, and for each iteration its cost, its
-- waits and one more.
abbrev pub bound : Nest → ℕ → (ℕ → ℕ) → ℕ
bound nest width cost = length (events nest) + width + 1 + sum_below (length (iterations_among (events nest))) (λ k. cost k + width + 1)

-- The measure falls at each step of a legal history.
abbrev pub StepsFall : Type 0 → Type 0 → Type 0 → Type 0
StepsFall B C P = (m : Setup B C P) (nest : Nest) (what : B → ℕ × List ℤ) (start : C) → IsSetupFor m nest what start → (history : List ℕ) (s t : State B C P) (actor : ℕ) → Leads m nest start history s → step m s actor ≡ Some t → measure m nest t < measure m nest s

-- So no legal history is longer than the measure of the opening.
abbrev pub HistoriesAreBounded : Type 0 → Type 0 → Type 0 → Type 0
HistoriesAreBounded B C P = (m : Setup B C P) (nest : Nest) (what : B → ℕ × List ℤ) (start : C) → IsSetupFor m nest what start → (history : List ℕ) (s : State B C P) → Leads m nest start history s → length history ≤ measure m nest (opening m start nest.opening)

-- Where the costs bound the fuel of all iterations, that measure is within the bound.
abbrev pub OpeningIsWithinBound : Type 0 → Type 0 → Type 0 → Type 0
OpeningIsWithinBound B C P = (m : Setup B C P) (nest : Nest) (what : B → ℕ × List ℤ) (start : C) (cost : ℕ → ℕ) → IsSetupFor m nest what start → Costs m nest (length (events nest)) cost start 0 → measure m nest (opening m start nest.opening) ≤ bound nest m.width cost
