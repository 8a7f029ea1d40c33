-- Tickets, as the abstract machine has them.
use Rattle.std.specs.Prelude.{ℕ, Option, None, List, map, slice_index_or}
use Rattle.wait_queue.specs.declared.ticket.Ticket.{Ticket as Put}
use Rattle.sched_cursor.specs.declared.event.Iteration.{Iteration}
use Rattle.domore_machine.specs.Waits.{Wait, waits_with}
use Rattle.domore_machine.specs.Machine.{Ticket}

-- the waits that are listed by worker, in 8 places
abbrev pub waits_in : List (Option ℕ) → List Wait
waits_in by_worker = waits_with (λ u. slice_index_or by_worker u None) 8 8

abbrev pub iteration_in : Put → Iteration
iteration_in t = record { body = t.body; value = t.value; env = t.env }

abbrev pub ticket_of : Put → Ticket Iteration
ticket_of t = record { number = t.number; body = iteration_in t; waits = waits_in t.waits }

abbrev pub tickets_of : List Put → List (Ticket Iteration)
tickets_of = map ticket_of
